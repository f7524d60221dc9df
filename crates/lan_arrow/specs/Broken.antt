-- Where a part of a FlatBuffers buffer passes it. The place in the answer counts from the front of the buffer's object.
use Rattle.std.specs.Prelude.{◌≡◌, ◌≢◌, ℕ, ◌+◌, ◌≤◌, ◌⊎◌, List, length}
use Rattle.lan_bytes.specs.Placed.{Placed}
use Rattle.lan_arrow.specs.declared.fault.ArrowFault.{ArrowFault}
use Rattle.lan_arrow.specs.declared.fault.ArrowFault.TheVariants.{Table}
use Rattle.lan_arrow.specs.Flat.{IsTable, IsVector, Holds, offset_of, place_of, target_of}

-- no table, or no vector, lies at a place
abbrev pub NoTable : Placed → ℕ → ArrowFault → Type 0
NoTable buffer at e = (e ≡ Table (buffer.base + at)) × ¬ IsTable buffer.bytes at

abbrev pub NoVector : Placed → ℕ → ℕ → ArrowFault → Type 0
NoVector buffer at width e = (e ≡ Table (buffer.base + at)) × ¬ IsVector buffer.bytes at width

-- a field of `width` bytes passes the buffer
abbrev pub FieldPast : Placed → ℕ → ℕ → ℕ → ArrowFault → Type 0
FieldPast buffer at field width e =
    (e ≡ Table (buffer.base + place_of buffer.bytes at field)) × ¬ Holds buffer.bytes at field width

-- the reference of a needed field is absent, where the place is its table's, or passes the buffer
abbrev pub NoReference : Placed → ℕ → ℕ → ArrowFault → Type 0
NoReference buffer at field e =
    (e ≡ Table (buffer.base + place_of buffer.bytes at field))
    × (offset_of buffer.bytes at field ≢ 0 → ¬ (place_of buffer.bytes at field + 4 ≤ length buffer.bytes))

-- the reference of a field is there, and lies in the buffer
pub record Refers (bytes : List ℕ) (at field : ℕ) : Type 0 where
  pub there : offset_of bytes at field ≢ 0
  pub inside : place_of bytes at field + 4 ≤ length bytes

-- a needed table, or a needed vector, isn't there: its reference isn't, or there is none where that leads to
abbrev pub TableLacks : Placed → ℕ → ℕ → ArrowFault → Type 0
TableLacks buffer at field e =
    NoReference buffer at field e
    ⊎ (Refers buffer.bytes at field × NoTable buffer (target_of buffer.bytes at field) e)

abbrev pub VectorLacks : Placed → ℕ → ℕ → ℕ → ArrowFault → Type 0
VectorLacks buffer at field width e =
    NoReference buffer at field e
    ⊎ (Refers buffer.bytes at field × NoVector buffer (target_of buffer.bytes at field) width e)

-- a field that is there has no vector
abbrev pub VectorPast : Placed → ℕ → ℕ → ℕ → ArrowFault → Type 0
VectorPast buffer at field width e = (offset_of buffer.bytes at field ≢ 0) × VectorLacks buffer at field width e
