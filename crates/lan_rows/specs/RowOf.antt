-- What a line says of a row, in the words of JSON: the relation, apart from how it is read.
use Rattle.std.specs.Prelude.{◌≡◌, ◌⊎◌, ⊤, ℕ, ◌-◌, ◌^◌, ◌<◌, ◌≤◌, List, [], ◌∷◌, ◌++◌, length, Bool, IsTrue, IsUtf8, Some, unwrap_or, Ok}
use Rattle.std.specs.Int.{Width, w16, w32, w64, byte_len, to_le_bytes, from_be_bytes}
use Rattle.std.specs.List.{Contains}
use Rattle.serde_json.specs.Data as json
use Rattle.serde_json.specs.Data.{Num, unsigned, Data, Items, no_items, item, Members, no_members, member}
use Rattle.serde_json.specs.Find.{get_member, as_integer}
use Rattle.serde_json.specs.Read.{read}
use Rattle.hex.specs.Hex.{decode_of, decode_sized}
use Rattle.lan_model.specs.declared.tree.Primitive.{Primitive}
use Rattle.lan_model.specs.declared.tree.Primitive.TheVariants as p
use Rattle.lan_model.specs.Plain.{PlainType, primitive, vector, text, bytes, list, struct, PlainField, field, PlainFields, no_fields, one_field, fields_from, PlainValue, null, bits, raw, items, group, values_from}
use Rattle.lan_model.specs.Table.{name_of, names_of}
use Rattle.lan_rows.specs.Bits.{stored, bit}
use Rattle.lan_rows.specs.Line.{signed_of}
use Rattle.lan_rows.specs.Values.{count_items}

-- ---- a value of fixed width, and its bits

-- 1 for true and 0 for false
abbrev pub IsTruth : Data → ℕ → Type 0
IsTruth d b = (t : Bool) × (d ≡ json.boolean t) × (b ≡ bit t)

-- the whole number that so many bits are in two's complement
abbrev pub IsSigned : ℕ → Data → ℕ → Type 0
IsSigned width d b = (n : Num) × (d ≡ json.number n) × (as_integer n ≡ Some (signed_of (2 ^ (width - 1) - 1) b)) × (b < 2 ^ width)

-- the whole number of so many bits
abbrev pub IsUnsigned : ℕ → Data → ℕ → Type 0
IsUnsigned width d b = (d ≡ json.number (unsigned b)) × (b < 2 ^ width)

-- a text of two hexadecimal digits a byte, the highest byte first
abbrev pub IsDigits : Width → Data → ℕ → Type 0
IsDigits w d b = (digits : List ℕ) × (s : List ℕ) × (d ≡ json.string digits) × (decode_sized digits (byte_len w) ≡ Ok s) × (b ≡ from_be_bytes w s)

-- the value is these bits of the type
abbrev pub IsBits : Primitive → Data → ℕ → Type 0
IsBits p.Bool d b = IsTruth d b
IsBits p.Int8 d b = IsSigned 8 d b
IsBits p.Int16 d b = IsSigned 16 d b
IsBits p.Int32 d b = IsSigned 32 d b
IsBits p.Int64 d b = IsSigned 64 d b
IsBits p.Uint8 d b = IsUnsigned 8 d b
IsBits p.Uint16 d b = IsUnsigned 16 d b
IsBits p.Uint32 d b = IsUnsigned 32 d b
IsBits p.Uint64 d b = IsUnsigned 64 d b
IsBits p.Half d b = IsDigits w16 d b
IsBits p.Float d b = IsDigits w32 d b
IsBits p.Double d b = IsDigits w64 d b
IsBits p.Date d b = IsSigned 32 d b

-- ---- arrays and objects

-- the bytes of a vector's items, the lowest of each item first
abbrev pub IsVector : Primitive → Items → List ℕ → Type 0
IsVector prim no_items s = s ≡ []
IsVector prim (item d ds) s = (b : ℕ) × (later : List ℕ) × IsBits prim d b × IsVector prim ds later × (s ≡ to_le_bytes (stored prim) b ++ later)

-- as many items as values, and each stands for the value in its place
abbrev pub EachStands : (Data → PlainValue → Type 0) → Items → List PlainValue → Type 0
EachStands Stand no_items [] = ⊤
EachStands Stand (item d ds) (v ∷ vs) = Stand d v × EachStands Stand ds vs
EachStands Stand ds vs = ⊥

-- each key is one of the names
abbrev pub HasOnly : List (List ℕ) → Members → Type 0
HasOnly names no_members = ⊤
HasOnly names (member key d ms) = Contains names key × HasOnly names ms

-- the value of a key; a key that is absent is null
abbrev pub value_at : List ℕ → Members → Data
value_at name ms = unwrap_or (get_member name ms) json.null

-- ---- a value of any type

abbrev mutual
  -- a value that isn't null
  pub StandsFor : {I : Type 0} → PlainType I → Data → PlainValue → Type 0
  StandsFor (primitive prim) d v = (b : ℕ) × IsBits prim d b × (v ≡ bits b)
  StandsFor (vector prim n) d v = (ds : Items) × (s : List ℕ) × (d ≡ json.array ds) × (count_items ds ≡ n) × IsVector prim ds s × (v ≡ raw s)
  StandsFor text d v = (s : List ℕ) × (d ≡ json.string s) × (length s ≤ 2 ^ 24) × (v ≡ raw s)
  StandsFor bytes d v = (digits : List ℕ) × (s : List ℕ) × (d ≡ json.string digits) × (decode_of digits ≡ Ok s) × (length s ≤ 2 ^ 24) × (v ≡ raw s)
  StandsFor (list f) d v = (ds : Items) × (vs : List PlainValue) × (d ≡ json.array ds) × EachStands (IsValueOf f) ds vs × (v ≡ items (values_from vs))
  StandsFor (struct fs) d v = (ms : Members) × (vs : List PlainValue) × (d ≡ json.object ms) × HasOnly (names_of fs) ms × MembersStand fs ms vs × (v ≡ group (values_from vs))

  -- null stands for null where the field is nullable
  pub IsValueOf : {I : Type 0} → PlainField I → Data → PlainValue → Type 0
  IsValueOf (field id name nullable ty) d v = ((d ≡ json.null) × IsTrue nullable × (v ≡ null)) ⊎ StandsFor ty d v

  -- one value per field, for which the member of its name stands
  pub MembersStand : {I : Type 0} → PlainFields I → Members → List PlainValue → Type 0
  MembersStand no_fields ms [] = ⊤
  MembersStand (one_field f fs) ms (v ∷ vs) = IsValueOf f (value_at (name_of f) ms) v × MembersStand fs ms vs
  MembersStand fs ms vs = ⊥

-- the line is an object whose members are those of the row, and no others
pub record RowOf {I : Type 0} (fields : List (PlainField I)) (line : List ℕ) (row : List PlainValue) : Type 0 where
  pub members : Members
  pub utf8 : IsUtf8 line
  pub object : read line ≡ Some (json.object members)
  pub only : HasOnly (names_of (fields_from fields)) members
  pub each : MembersStand (fields_from fields) members row
