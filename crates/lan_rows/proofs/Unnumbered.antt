-- The numbers of fields are no matter to rows and lines.
use Rattle.std.proofs.Common.{◌≡◌, ℕ, List, [], ◌∷◌, ◌++◌, map, Bool, cond, refl, ap, ◌∙◌}
use Rattle.std.specs.Prelude.{is_some, bytes_eq, ◌||◌, Option, Some, None}
use Rattle.json.specs.Token.{begin_array, begin_object}
use Rattle.json.specs.Print.{print}
use Rattle.serde_json.specs.Data.{Data, Items, no_items, item, Members, no_members, member}
use Rattle.serde_json.specs.Find.{as_null, as_array, as_object, get_member}
use Rattle.lan_model.specs.declared.tree.Field.{Field}
use Rattle.lan_model.specs.Plain.{PlainType, primitive, vector, text, bytes, list, struct, PlainField, field, PlainFields, no_fields, one_field, fields_from, PlainValue, null, bits, raw, items, group, PlainValues, no_values, one_value, values_from, type_unnumbered, unnumbered, all_unnumbered, plain_field}
use Rattle.lan_model.specs.PlainTable.{column_of}
use Rattle.lan_model.specs.Table.{name_of}
use Rattle.lan_rows.specs.declared.faults.RowFault.TheVariants.{Json, Kind, NotObject}
use Rattle.lan_rows.specs.Judged.{Judged, found_or, and_then, on_good, each_item}
use Rattle.lan_rows.specs.Values.{is_name, first_stray, only_members, unless_null, member_in, null_in, type_value, field_value, named_value, members_values, column_value, row_values, row_in, value_of, line_row}
use Rattle.lan_rows.specs.Line.{bits_tokens, raw_tokens, field_tokens, items_tokens, members_tokens, line_of}

-- ---- reading

each_same : {A : Type 0} (f g : Data → Judged A) → ((d : Data) → f d ≡ g d) → (ds : Items) → each_item f ds ≡ each_item g ds
each_same f g same no_items = refl
each_same f g same (item d ds) = let first = same d in let rest = each_same f g same ds in rw (first, rest) refl

name_same : (k : List ℕ) (fs : PlainFields ℕ) → is_name k (all_unnumbered fs) ≡ is_name k fs
name_same k no_fields = refl
name_same k (one_field (field id name nullable ty) fs) = ap (λ b. bytes_eq k name || b) (name_same k fs)

stray_same : (fs : PlainFields ℕ) (ms : Members) → first_stray (all_unnumbered fs) ms ≡ first_stray fs ms
stray_same fs no_members = refl
stray_same fs (member k d ms) = rw (name_same k fs, stray_same fs ms) refl

only_same : (fs : PlainFields ℕ) (f g : Members → Judged (List PlainValue)) (ms : Members) → f ms ≡ g ms → only_members (all_unnumbered fs) f ms ≡ only_members fs g ms
only_same fs f g ms same = rw (same, stray_same fs ms) refl

found_same : (top : List ℕ) (o : Option Items) (f g : Data → Judged PlainValue) → ((d : Data) → f d ≡ g d) → and_then (found_or (Kind top) o) (λ ds. on_good (λ vs. items (values_from vs)) (each_item f ds)) ≡ and_then (found_or (Kind top) o) (λ ds. on_good (λ vs. items (values_from vs)) (each_item g ds))
found_same top None f g same = refl
found_same top (Some ds) f g same = ap (on_good (λ vs. items (values_from vs))) (each_same f g same ds)

group_same : (top : List ℕ) (fs : PlainFields ℕ) (o : Option Members) (f g : Members → Judged (List PlainValue)) → ((ms : Members) → f ms ≡ g ms)
    → and_then (found_or (Kind top) o) (λ ms. on_good (λ vs. group (values_from vs)) (only_members (all_unnumbered fs) f ms)) ≡ and_then (found_or (Kind top) o) (λ ms. on_good (λ vs. group (values_from vs)) (only_members fs g ms))
group_same top fs None f g same = refl
group_same top fs (Some ms) f g same = ap (on_good (λ vs. group (values_from vs))) (only_same fs f g ms (same ms))

member_same : (name : List ℕ) (nullable : Bool) (f g : Data → Judged PlainValue) → ((d : Data) → f d ≡ g d) → (o : Option Data) → member_in name nullable f o ≡ member_in name nullable g o
member_same name nullable f g same None = refl
member_same name nullable f g same (Some d) = same d

mutual
  type_same : (top : List ℕ) (ty : PlainType ℕ) (d : Data) → type_value top (type_unnumbered ty) d ≡ type_value top ty d
  type_same top (primitive prim) d = refl
  type_same top (vector prim n) d = refl
  type_same top text d = refl
  type_same top bytes d = refl
  type_same top (list f) d = found_same top (as_array d) (field_value top (unnumbered f)) (field_value top f) (field_same top f)
  type_same top (struct fs) d = group_same top fs (as_object d) (members_values top (all_unnumbered fs)) (members_values top fs) (members_same top fs)

  field_same : (top : List ℕ) (f : PlainField ℕ) (d : Data) → field_value top (unnumbered f) d ≡ field_value top f d
  field_same top (field id name nullable ty) d = ap (λ v. cond (is_some (as_null d)) (null_in top nullable) v) (type_same top ty d)

  named_same : (top : List ℕ) (f : PlainField ℕ) (ms : Members) → named_value top (unnumbered f) ms ≡ named_value top f ms
  named_same top (field id name nullable ty) ms =
      member_same name nullable (unless_null top nullable (type_value top (type_unnumbered ty))) (unless_null top nullable (type_value top ty)) (λ d. ap (λ v. cond (is_some (as_null d)) (null_in top nullable) v) (type_same top ty d)) (get_member name ms)

  members_same : (top : List ℕ) (fs : PlainFields ℕ) (ms : Members) → members_values top (all_unnumbered fs) ms ≡ members_values top fs ms
  members_same top no_fields ms = refl
  members_same top (one_field f fs) ms = let first = named_same top f ms in let rest = members_same top fs ms in rw (first, rest) refl

column_same : (f : PlainField ℕ) (ms : Members) → column_value (unnumbered f) ms ≡ column_value f ms
column_same (field id name nullable ty) ms = named_same name (field id name nullable ty) ms

row_same : (fs : PlainFields ℕ) (ms : Members) → row_values (all_unnumbered fs) ms ≡ row_values fs ms
row_same no_fields ms = refl
row_same (one_field f fs) ms = let first = column_same f ms in let rest = row_same fs ms in rw (first, rest) refl

row_found : (fs : PlainFields ℕ) (o : Option Members) → and_then (found_or NotObject o) (only_members (all_unnumbered fs) (row_values (all_unnumbered fs))) ≡ and_then (found_or NotObject o) (only_members fs (row_values fs))
row_found fs None = refl
row_found fs (Some ms) = only_same fs (row_values (all_unnumbered fs)) (row_values fs) ms (row_same fs ms)

line_found : (fs : PlainFields ℕ) (o : Option Data) → and_then (found_or Json o) (row_in (all_unnumbered fs)) ≡ and_then (found_or Json o) (row_in fs)
line_found fs None = refl
line_found fs (Some d) = row_found fs (as_object d)

fields_same : (fields : List (PlainField ℕ)) → fields_from (map unnumbered fields) ≡ all_unnumbered (fields_from fields)
fields_same [] = refl
fields_same (f ∷ fs) = ap (one_field (unnumbered f)) (fields_same fs)

line_same : (fields : List (PlainField ℕ)) (line : List ℕ) → line_row (map unnumbered fields) line ≡ line_row fields line
unfolding line_row
line_same fields line = rw (fields_same fields) (line_found (fields_from fields) (value_of line))

columns_are : (fields : List Field) → map column_of fields ≡ map unnumbered (map plain_field fields)
columns_are [] = refl
columns_are (f ∷ fs) = ap (λ l. column_of f ∷ l) (columns_are fs)

-- a line is the same row of the columns as of the fields
pub columns_row : (fields : List Field) (line : List ℕ) → line_row (map column_of fields) line ≡ line_row (map plain_field fields) line
columns_row fields line = ap (λ columns. line_row columns line) (columns_are fields) ∙ line_same (map plain_field fields) line

-- ---- printing

bits_tokens-same : (ty : PlainType ℕ) (b : ℕ) → bits_tokens (type_unnumbered ty) b ≡ bits_tokens ty b
bits_tokens-same (primitive prim) b = refl
bits_tokens-same (vector prim n) b = refl
bits_tokens-same text b = refl
bits_tokens-same bytes b = refl
bits_tokens-same (list f) b = refl
bits_tokens-same (struct fs) b = refl

raw_tokens-same : (ty : PlainType ℕ) (s : List ℕ) → raw_tokens (type_unnumbered ty) s ≡ raw_tokens ty s
raw_tokens-same (primitive prim) s = refl
raw_tokens-same (vector prim n) s = refl
raw_tokens-same text s = refl
raw_tokens-same bytes s = refl
raw_tokens-same (list f) s = refl
raw_tokens-same (struct fs) s = refl

name_of-same : (f : PlainField ℕ) → name_of (unnumbered f) ≡ name_of f
name_of-same (field id name nullable ty) = refl

mutual
  tokens_same : (f : PlainField ℕ) (v : PlainValue) → field_tokens (unnumbered f) v ≡ field_tokens f v
  tokens_same (field id name nullable ty) null = refl
  tokens_same (field id name nullable ty) (bits b) = bits_tokens-same ty b
  tokens_same (field id name nullable ty) (raw s) = raw_tokens-same ty s
  tokens_same (field id name nullable (list f)) (items vs) = ap (λ ts. begin_array ∷ ts) (items_same f vs)
  tokens_same (field id name nullable (struct fs)) (group vs) = ap (λ ts. begin_object ∷ ts) (members_tokens-same fs vs)
  tokens_same f v = refl

  items_same : (f : PlainField ℕ) (vs : PlainValues) → items_tokens (unnumbered f) vs ≡ items_tokens f vs
  items_same f no_values = refl
  items_same f (one_value v vs) = let first = tokens_same f v in let rest = items_same f vs in rw (first, rest) refl

  members_tokens-same : (fs : PlainFields ℕ) (vs : PlainValues) → members_tokens (all_unnumbered fs) vs ≡ members_tokens fs vs
  members_tokens-same no_fields vs = refl
  members_tokens-same (one_field f fs) no_values = refl
  members_tokens-same (one_field f fs) (one_value v vs) = let first = tokens_same f v in let rest = members_tokens-same fs vs in let named = name_of-same f in rw (first, rest, named) refl

print_same : (fields : List (PlainField ℕ)) (row : List PlainValue) → line_of (map unnumbered fields) row ≡ line_of fields row
unfolding line_of
print_same fields row = rw (fields_same fields) (ap (λ ts. print (begin_object ∷ ts) ++ 10 ∷ []) (members_tokens-same (fields_from fields) (values_from row)))

pub columns_line : (fields : List Field) (row : List PlainValue) → line_of (map column_of fields) row ≡ line_of (map plain_field fields) row
columns_line fields row = ap (λ columns. line_of columns row) (columns_are fields) ∙ print_same (map plain_field fields) row
