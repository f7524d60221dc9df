-- Numbers that are given one after another.
use Rattle.std.proofs.Common.{◌≡◌, refl, sym, ap, ◌∙◌, subst, ℕ, ◌+◌, ◌^◌, ◌<◌, Bool, List, [], ◌∷◌, ◌++◌, length, map, drop, get_or, arith, append_assoc}
use Rattle.std.specs.Prelude.{Some, Ok, Err}
use Rattle.std.proofs.lemmas.List.{map-append}
use Rattle.serde_json.specs.Data.{Items}
use Rattle.serde_json.specs.View.{view, items_view}
use Rattle.serde_json.specs.declared.value.Value.{Value}
use Rattle.lan_model.specs.PlainTable.{column_of}
use Rattle.lan_model.specs.Table.{Column}
use Rattle.lan_form.specs.Judged.{Judged, on_good, and_then}
use Rattle.lan_form.specs.Form.{field_form, each_form}
use Rattle.lan_form.proofs.Lists.{next_of}
use Rattle.lan_model.specs.declared.tree.Field.{Field}
use Rattle.lan_model.specs.Plain.{PlainType, primitive, vector, text, bytes, list, struct, PlainField, field, one_field, plain_field, plain_fields, fields_from}
use Rattle.lan_schema.specs.Logical.{leaf_type, IsLeafType}
use Rattle.lan_schema.proofs.LawTerms.{named_once}
use Rattle.lan_form.specs.Numbers.{fields_in, all_in, CountsFrom, InsideFrom, CountFrom, FieldCounted, TypeCounted, AllCounted}

leaf_counted_of : (t : PlainType ℕ) (n : ℕ) → IsLeafType t → TypeCounted n t n
leaf_counted_of (primitive q) n leaf = λ small. (tt, omega arith)
leaf_counted_of (vector q m) n leaf = λ small. (tt, omega arith)
leaf_counted_of text n leaf = λ small. (tt, omega arith)
leaf_counted_of bytes n leaf = λ small. (tt, omega arith)
leaf_counted_of (list item) n leaf = absurd leaf
leaf_counted_of (struct members) n leaf = absurd leaf

pub leaf_counted : (s : List ℕ) (t : PlainType ℕ) (n : ℕ) → leaf_type s ≡ Some t → TypeCounted n t n
leaf_counted s t n is = leaf_counted_of t n (named_once s t is).0

-- a field, by what is in it
pub field_counted : (n after next : ℕ) (name : List ℕ) (nullable : Bool) (t : PlainType ℕ) → (n + 1 < 2 ^ 32 → after ≡ n + 1) → TypeCounted after t next → FieldCounted n (field n name nullable t) next
field_counted n after next name nullable t follows counted small =
    let here : after ≡ n + 1 = follows (omega (arith, small)) in
    let given = counted (omega (arith, small, here)) in
    ((refl, subst (λ k. InsideFrom k t) here given.0), omega (arith, given.1, here))

all_in_more : (fs : List (PlainField ℕ)) (f : PlainField ℕ) → all_in (fields_from (fs ++ f ∷ [])) ≡ all_in (fields_from fs) + fields_in f
all_in_more [] f = omega arith
all_in_more (g ∷ fs) f = omega (arith, all_in_more fs f)

count_more : (n : ℕ) (fs : List (PlainField ℕ)) (f : PlainField ℕ) → CountFrom n (fields_from fs) → CountsFrom (n + all_in (fields_from fs)) f → CountFrom n (fields_from (fs ++ f ∷ []))
count_more n [] f all one = (subst (λ k. CountsFrom k f) (omega arith) one, tt)
count_more n (g ∷ fs) f all one = (all.0, count_more (n + fields_in g) fs f all.1 (subst (λ k. CountsFrom k f) (omega arith) one))

pub plain_more : (fs : List Field) (f : Field) → plain_fields (fs ++ f ∷ []) ≡ fields_from (map plain_field fs ++ plain_field f ∷ [])
plain_more [] f = refl
plain_more (g ∷ fs) f = ap (one_field (plain_field g)) (plain_more fs f)

-- one field more
pub counted_more : (n between next : ℕ) (fs more : List Field) (f : Field) → AllCounted n (plain_fields fs) between → FieldCounted between (plain_field f) next → more ≡ fs ++ f ∷ [] → AllCounted n (plain_fields more) next
counted_more n between next fs more f all one is =
    let same : plain_fields more ≡ fields_from (map plain_field fs ++ plain_field f ∷ []) = ap plain_fields is ∙ plain_more fs f in
    let size = all_in_more (map plain_field fs) (plain_field f) in
    subst (λ gs. AllCounted n gs next) (sym same)
    (λ small.
    let before = all (omega (arith, small, size)) in
    let here = one (omega (arith, small, size, before.1)) in
    (count_more n (map plain_field fs) (plain_field f) before.0 (subst (λ k. CountsFrom k (plain_field f)) before.1 here.0), omega (arith, here.1, before.1, size)))

moved : (done : List Column) (c : Column) (more : List Column) (rest : Judged (List Column)) → more ≡ done ++ c ∷ [] → on_good (λ fs. done ++ fs) (on_good (λ fs. c ∷ fs) rest) ≡ on_good (λ fs. more ++ fs) rest
moved done c more (Ok fs) is = ap (λ l. Ok l) (sym (ap (λ l. l ++ fs) is ∙ append_assoc done (c ∷ []) fs))
moved done c more (Err e) is = refl

-- the fields of an answer, and the next one in front of it
pub forms_more : (items : Items) (xs : List Value) (i : ℕ) (x : Value) (done more : List Field) (f : Field) → each_form items ≡ on_good (λ fs. map column_of done ++ fs) (each_form (items_view (drop i xs)))
    → i < length xs → x ≡ get_or xs i x → field_form (view x) ≡ Ok (column_of f) → more ≡ done ++ f ∷ []
    → each_form items ≡ on_good (λ fs. map column_of more ++ fs) (each_form (items_view (drop (i + 1) xs)))
forms_more items xs i x done more f before below is read pushed =
    let rest = each_form (items_view (drop (i + 1) xs)) in
    before ∙ ap (λ l. on_good (λ fs. map column_of done ++ fs) (each_form (items_view l))) (next_of xs i x below is)
    ∙ ap (λ r. on_good (λ fs. map column_of done ++ fs) (and_then r (λ g. on_good (λ fs. g ∷ fs) rest))) read
    ∙ moved (map column_of done) (column_of f) (map column_of more) rest (ap (map column_of) pushed ∙ map-append column_of done (f ∷ []))
