-- FlatBuffers: tables and vectors in a buffer of bytes, all numbers with the lowest byte first.
use Rattle.std.specs.Prelude.{◌≢◌, ℕ, ◌+◌, ◌-◌, ◌*◌, ◌^◌, ◌<◌, ◌≤◌, ◌==◌, nat_lt, nat_le, List, length, slice_index, if◌then◌else◌}
use Rattle.std.specs.Int.{w16, w32, w64}
use Rattle.lan_bytes.specs.Placed.{Placed}
use Rattle.lan_bytes.specs.Numbers.{number_at}

-- a table of a buffer, by its place, which is counted from the buffer's front
pub record TableAt : Type 0 where
  pub buffer : Placed
  pub at : ℕ

-- a vector of a buffer, whose elements have `width` bytes each
pub record VectorAt : Type 0 where
  pub buffer : Placed
  pub at : ℕ
  pub width : ℕ

-- the number of two, four or eight bytes at a place
unfoldable pub two_at : List ℕ → ℕ → ℕ
two_at bytes at = number_at w16 bytes at

unfoldable pub four_at : List ℕ → ℕ → ℕ
four_at bytes at = number_at w32 bytes at

unfoldable pub eight_at : List ℕ → ℕ → ℕ
eight_at bytes at = number_at w64 bytes at

-- a table begins with a signed number of four bytes, which is subtracted from the table's place to give its vtable. It is
-- read here as unsigned, so one from 2^31 on stands for itself less 2^32
abbrev pub vtable_from : ℕ → ℕ → ℕ
vtable_from at back = if nat_lt back (2 ^ 31) then at - back else (at + 2 ^ 32) - back

-- the place of the vtable of the table at a place
unfoldable pub vtable_of : List ℕ → ℕ → ℕ
vtable_of bytes at = vtable_from at (four_at bytes at)

-- how many bytes the vtable has, by its own first number
unfoldable pub own_of : List ℕ → ℕ → ℕ
own_of bytes at = two_at bytes (vtable_of bytes at)

-- a table lies at a place: it, its vtable and the size that the vtable states lie in the buffer
pub record IsTable (bytes : List ℕ) (at : ℕ) : Type 0 where
  pub head : at + 4 ≤ length bytes
  pub back : four_at bytes at < 2 ^ 31 → four_at bytes at ≤ at
  pub sizes : vtable_of bytes at + 4 ≤ length bytes
  pub vtable : vtable_of bytes at + own_of bytes at ≤ length bytes
  pub body : at + two_at bytes (vtable_of bytes at + 2) ≤ length bytes

-- how far behind the table's place a field lies, by its number; 0 where it is absent, as it is past the vtable's end
unfoldable pub offset_of : List ℕ → ℕ → ℕ → ℕ
offset_of bytes at field =
    if nat_le (2 * field + 6) (own_of bytes at) then two_at bytes (vtable_of bytes at + (2 * field + 4)) else 0

-- a field's place
abbrev pub place_of : List ℕ → ℕ → ℕ → ℕ
place_of bytes at field = at + offset_of bytes at field

-- a field is absent, or its `width` bytes lie in the buffer
abbrev pub Holds : List ℕ → ℕ → ℕ → ℕ → Type 0
Holds bytes at field width = offset_of bytes at field ≢ 0 → place_of bytes at field + width ≤ length bytes

-- the number of a field, which is 0 where it is absent
unfoldable pub one_in : List ℕ → ℕ → ℕ → ℕ
one_in bytes at field = if offset_of bytes at field == 0 then 0 else slice_index bytes (place_of bytes at field)

unfoldable pub two_in : List ℕ → ℕ → ℕ → ℕ
two_in bytes at field = if offset_of bytes at field == 0 then 0 else two_at bytes (place_of bytes at field)

unfoldable pub four_in : List ℕ → ℕ → ℕ → ℕ
four_in bytes at field = if offset_of bytes at field == 0 then 0 else four_at bytes (place_of bytes at field)

unfoldable pub eight_in : List ℕ → ℕ → ℕ → ℕ
eight_in bytes at field = if offset_of bytes at field == 0 then 0 else eight_at bytes (place_of bytes at field)

-- the place that a reference at a place leads to
unfoldable pub target_at : List ℕ → ℕ → ℕ
target_at bytes at = at + four_at bytes at

-- the place that a field's reference leads to
abbrev pub target_of : List ℕ → ℕ → ℕ → ℕ
target_of bytes at field = target_at bytes (place_of bytes at field)

-- a vector of elements of `width` bytes lies at a place
pub record IsVector (bytes : List ℕ) (at width : ℕ) : Type 0 where
  pub head : at + 4 ≤ length bytes
  pub elements : at + 4 + four_at bytes at * width ≤ length bytes

-- how many elements a vector has
abbrev pub count_of : VectorAt → ℕ
count_of vector = four_at vector.buffer.bytes vector.at

-- a field has a table, or a vector
pub record HasTable (bytes : List ℕ) (at field : ℕ) : Type 0 where
  pub there : offset_of bytes at field ≢ 0
  pub reference : place_of bytes at field + 4 ≤ length bytes
  pub table : IsTable bytes (target_of bytes at field)

pub record HasVector (bytes : List ℕ) (at field width : ℕ) : Type 0 where
  pub there : offset_of bytes at field ≢ 0
  pub reference : place_of bytes at field + 4 ≤ length bytes
  pub vector : IsVector bytes (target_of bytes at field) width

-- a field is absent, or has a vector
abbrev pub MayHaveVector : List ℕ → ℕ → ℕ → ℕ → Type 0
MayHaveVector bytes at field width = offset_of bytes at field ≢ 0 → HasVector bytes at field width

-- how many elements the vector of a field has, which are none where it is absent
unfoldable pub count_in : List ℕ → ℕ → ℕ → ℕ
count_in bytes at field = if offset_of bytes at field == 0 then 0 else four_at bytes (target_of bytes at field)
