-- The row that a line is, or its first fault.
use Rattle.std.specs.Prelude.{ℕ, ◌+◌, ◌^◌, nat_le, nat_eq, length, List, [], ◌∷◌, Bool, true, false, cond, ◌||◌, is_some, bytes_eq, flat_map, Option, Some, None, Ok, Err}
use Rattle.std.specs.Result.{result_err}
use Rattle.std.specs.Str.{is_utf8}
use Rattle.std.specs.Int.{to_le_bytes}
use Rattle.serde_json.specs.Data.{Data, Items, no_items, item, Members, no_members, member}
use Rattle.serde_json.specs.Read.{read}
use Rattle.serde_json.specs.Find.{get_member, as_null, as_str, as_array, as_object}
use Rattle.hex.specs.Hex.{decode_of}
use Rattle.lan_model.specs.declared.tree.Primitive.{Primitive}
use Rattle.lan_model.specs.declared.tree.Primitive.TheVariants as p
use Rattle.lan_model.specs.Plain.{PlainType, primitive, vector, text, bytes, list, struct, PlainField, field, PlainFields, no_fields, one_field, fields_from, PlainValue, null, bits, raw, items, group, values_from}
use Rattle.lan_rows.specs.declared.faults.RowFault.{RowFault}
use Rattle.lan_rows.specs.declared.faults.RowFault.TheVariants.{Json, NotObject, NoKey, StrayKey, Kind, NotNull, Count, TooLong}
use Rattle.lan_rows.specs.Judged.{Judged, found_or, and_then, on_good, each_item}
use Rattle.lan_rows.specs.Bits.{stored, bits_in, bytes_or_hex}

-- ---- texts and vectors

-- the bytes of a value, of which there are at most 2^24
abbrev pub short_or_long : List ℕ → List ℕ → Judged PlainValue
short_or_long top s = cond (nat_le (length s) (2 ^ 24)) (Ok (raw s)) (Err (TooLong top))

abbrev pub text_in : List ℕ → Data → Judged PlainValue
text_in top d = and_then (found_or (Kind top) (as_str d)) (short_or_long top)

-- a text of two digits a byte
abbrev pub bytes_in : List ℕ → Data → Judged PlainValue
bytes_in top d = and_then (found_or (Kind top) (as_str d)) (λ digits. and_then (bytes_or_hex top (decode_of digits)) (short_or_long top))

abbrev pub count_items : Items → ℕ
count_items no_items = 0
count_items (item d ds) = count_items ds + 1

-- the bytes of a vector's item, the lowest first; no vector has bools
abbrev pub bytes_of_item : List ℕ → Primitive → Data → Judged (List ℕ)
bytes_of_item top p.Bool d = Err (Kind top)
bytes_of_item top prim d = on_good (to_le_bytes (stored prim)) (bits_in top prim d)

-- an item of a vector is never null
abbrev pub vector_item : List ℕ → Primitive → Data → Judged (List ℕ)
vector_item top prim d = cond (is_some (as_null d)) (Err (NotNull top)) (bytes_of_item top prim d)

abbrev pub joined : List (List ℕ) → List ℕ
joined = flat_map (λ s. s)

-- an array of so many items
abbrev pub vector_in : List ℕ → Primitive → ℕ → Data → Judged PlainValue
vector_in top prim n d = and_then (found_or (Kind top) (as_array d))
    (λ ds. cond (nat_eq (count_items ds) n) (on_good (λ parts. raw (joined parts)) (each_item (vector_item top prim) ds)) (Err (Count top)))

-- ---- lists and structs, where what is inside is judged by `judge`

abbrev pub list_in : List ℕ → (Data → Judged PlainValue) → Data → Judged PlainValue
list_in top judge d = and_then (found_or (Kind top) (as_array d)) (λ ds. on_good (λ vs. items (values_from vs)) (each_item judge ds))

abbrev pub is_name : {I : Type 0} → List ℕ → PlainFields I → Bool
is_name key no_fields = false
is_name key (one_field (field id name nullable ty) fs) = bytes_eq key name || is_name key fs

-- the first key that is no field's name; members stand in the order of their keys' bytes
abbrev pub first_stray : {I : Type 0} → PlainFields I → Members → Option (List ℕ)
first_stray fs no_members = None
first_stray fs (member key d ms) = cond (is_name key fs) (first_stray fs ms) (Some key)

abbrev pub unless_stray : Option (List ℕ) → List PlainValue → Judged (List PlainValue)
unless_stray None vs = Ok vs
unless_stray (Some key) vs = Err (StrayKey key)

-- the members in the order of the fields, and then no stray key
abbrev pub only_members : {I : Type 0} → PlainFields I → (Members → Judged (List PlainValue)) → Members → Judged (List PlainValue)
only_members fs judge ms = and_then (judge ms) (unless_stray (first_stray fs ms))

abbrev pub group_in : {I : Type 0} → List ℕ → PlainFields I → (Members → Judged (List PlainValue)) → Data → Judged PlainValue
group_in top fs judge d = and_then (found_or (Kind top) (as_object d)) (λ ms. on_good (λ vs. group (values_from vs)) (only_members fs judge ms))

abbrev pub null_in : List ℕ → Bool → Judged PlainValue
null_in top true = Ok null
null_in top false = Err (NotNull top)

abbrev pub unless_null : List ℕ → Bool → (Data → Judged PlainValue) → Data → Judged PlainValue
unless_null top nullable judge d = cond (is_some (as_null d)) (null_in top nullable) (judge d)

-- a key that is absent reads as null
abbrev pub absent : List ℕ → Bool → Judged PlainValue
absent name true = Ok null
absent name false = Err (NoKey name)

abbrev pub member_in : List ℕ → Bool → (Data → Judged PlainValue) → Option Data → Judged PlainValue
member_in name nullable judge None = absent name nullable
member_in name nullable judge (Some d) = judge d

-- ---- a value of any field; faults name the column `top` that it stands in

abbrev mutual
  pub type_value : {I : Type 0} → List ℕ → PlainType I → Data → Judged PlainValue
  type_value top (primitive prim) d = on_good bits (bits_in top prim d)
  type_value top (vector prim n) d = vector_in top prim n d
  type_value top text d = text_in top d
  type_value top bytes d = bytes_in top d
  type_value top (list f) d = list_in top (field_value top f) d
  type_value top (struct fs) d = group_in top fs (members_values top fs) d

  pub field_value : {I : Type 0} → List ℕ → PlainField I → Data → Judged PlainValue
  field_value top (field id name nullable ty) d = unless_null top nullable (type_value top ty) d

  pub named_value : {I : Type 0} → List ℕ → PlainField I → Members → Judged PlainValue
  named_value top (field id name nullable ty) ms = member_in name nullable (unless_null top nullable (type_value top ty)) (get_member name ms)

  pub members_values : {I : Type 0} → List ℕ → PlainFields I → Members → Judged (List PlainValue)
  members_values top no_fields ms = Ok []
  members_values top (one_field f fs) ms = and_then (named_value top f ms) (λ v. on_good (λ vs. v ∷ vs) (members_values top fs ms))

-- ---- a line

-- the JSON value that a line is
abbrev pub value_of : List ℕ → Option Data
value_of line = cond (is_utf8 line) (read line) None

-- a field of the row, named by itself
abbrev pub column_value : {I : Type 0} → PlainField I → Members → Judged PlainValue
column_value (field id name nullable ty) ms = named_value name (field id name nullable ty) ms

abbrev pub row_values : {I : Type 0} → PlainFields I → Members → Judged (List PlainValue)
row_values no_fields ms = Ok []
row_values (one_field f fs) ms = and_then (column_value f ms) (λ v. on_good (λ vs. v ∷ vs) (row_values fs ms))

abbrev pub row_in : {I : Type 0} → PlainFields I → Data → Judged (List PlainValue)
row_in fs d = and_then (found_or NotObject (as_object d)) (only_members fs (row_values fs))

-- the row of a line, or its first fault
unfoldable pub line_row : {I : Type 0} → List (PlainField I) → List ℕ → Judged (List PlainValue)
line_row fields line = and_then (found_or Json (value_of line)) (row_in (fields_from fields))

-- the first fault of a line, if it has one
abbrev pub badness : {I : Type 0} → List (PlainField I) → List ℕ → Option RowFault
badness fields line = result_err (line_row fields line)
