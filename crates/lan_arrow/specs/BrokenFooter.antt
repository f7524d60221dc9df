-- Where a table, vector or field of a footer passes it, or a table of it lacks one that is needed. What a table leads to
-- is looked at only where the table and the reference stand.
use Rattle.std.specs.Prelude.{◌≡◌, ℕ, ◌≤◌, ◌⊎◌, List, length}
use Rattle.lan_bytes.specs.Placed.{Placed}
use Rattle.lan_arrow.specs.declared.fault.ArrowFault.{ArrowFault}
use Rattle.lan_arrow.specs.declared.fault.ArrowFault.TheVariants.{Table}
use Rattle.lan_arrow.specs.Flat.{IsTable, HasTable, HasVector, one_in, target_of}
use Rattle.lan_arrow.specs.Broken.{NoTable, FieldPast, TableLacks, VectorLacks, VectorPast}
use Rattle.lan_arrow.specs.Footer.{root_of, schema_of, field_of, fields_in}

-- of the Int at a place
abbrev pub IntBroken : Placed → ℕ → ArrowFault → Type 0
IntBroken buffer at e = FieldPast buffer at 0 4 e ⊎ FieldPast buffer at 1 1 e

-- of the Field at a place, whose type is read where it is that of whole numbers
unfoldable pub FieldBroken : Placed → ℕ → ArrowFault → Type 0
FieldBroken buffer at e =
    FieldPast buffer at 2 1 e ⊎ TableLacks buffer at 3 e
    ⊎ ((one_in buffer.bytes at 2 ≡ 2) × HasTable buffer.bytes at 3 × IntBroken buffer (target_of buffer.bytes at 3) e)
    ⊎ VectorPast buffer at 5 4 e

-- the Schema at a place has one field
pub record HasOneField (bytes : List ℕ) (at : ℕ) : Type 0 where
  pub fields : HasVector bytes at 1 4
  pub one : fields_in bytes at ≡ 1

-- of the Schema at a place, whose field is read where it is the only one
unfoldable pub SchemaBroken : Placed → ℕ → ArrowFault → Type 0
SchemaBroken buffer at e =
    FieldPast buffer at 0 2 e ⊎ VectorLacks buffer at 1 4 e
    ⊎ (HasOneField buffer.bytes at × NoTable buffer (field_of buffer.bytes at) e)
    ⊎ (HasOneField buffer.bytes at × IsTable buffer.bytes (field_of buffer.bytes at)
    × FieldBroken buffer (field_of buffer.bytes at) e)

-- a buffer has its first table
pub record HasRoot (bytes : List ℕ) : Type 0 where
  pub long : 4 ≤ length bytes
  pub table : IsTable bytes (root_of bytes)

-- it hasn't: it is too short to lead to one, or there is none
abbrev pub RootBroken : Placed → ArrowFault → Type 0
RootBroken buffer e =
    ((e ≡ Table buffer.base) × ¬ (4 ≤ length buffer.bytes))
    ⊎ ((4 ≤ length buffer.bytes) × NoTable buffer (root_of buffer.bytes) e)

-- of a footer
unfoldable pub FooterBroken : Placed → ArrowFault → Type 0
FooterBroken footer e =
    RootBroken footer e
    ⊎ (HasRoot footer.bytes × TableLacks footer (root_of footer.bytes) 1 e)
    ⊎ (HasRoot footer.bytes × HasTable footer.bytes (root_of footer.bytes) 1
    × SchemaBroken footer (schema_of footer.bytes) e)
    ⊎ (HasRoot footer.bytes × VectorPast footer (root_of footer.bytes) 2 24 e)
    ⊎ (HasRoot footer.bytes × VectorLacks footer (root_of footer.bytes) 3 24 e)
