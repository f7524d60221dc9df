-- Steps of reading, over plain values.
use Rattle.std.proofs.Common.{◌≡◌, ℕ, ◌+◌, zero, suc, ◌≤◌, List, [], ◌∷◌, ◌++◌, length, map, take, drop, append-nil, rules, true, false, Ok, Err, refl, sym, ap, subst, ◌∙◌, inl, inr, arith, append_assoc}
use Rattle.std.specs.Prelude.{nat_eq, is_some, Some, None}
use Rattle.std.specs.Int.{to_le_bytes, w64, byte_len}
use Rattle.std.proofs.lemmas.List.{map-append}
use Rattle.std.proofs.lemmas.Bool.{cases_Bool}
use Rattle.std.proofs.lemmas.Bool.Decides.{nat_tests}
use Rattle.serde_json.specs.Data.{Data, Items, Members}
use Rattle.serde_json.specs.Find.{as_null, as_array, as_object}
use Rattle.serde_json.specs.View.{view, items_view}
use Rattle.serde_json.specs.declared.value.Value.{Value}
use Rattle.lan_model.specs.declared.tree.Primitive.{Primitive}
use Rattle.lan_model.specs.declared.tree.Primitive.TheVariants as p
use Rattle.lan_model.specs.declared.tree.Val.{Val, Raw, Items as ItemsVal, Group, the_lemmas as val_lemmas}
use Rattle.lan_model.specs.declared.tree.Field.{Field, the_lemmas as field_lemmas}
use Rattle.lan_model.specs.declared.tree.Ty.{List as ListTy, the_lemmas}
use Rattle.lan_model.specs.Plain.{PlainField, field, PlainFields, one_field, PlainValue, raw, items, group, list, struct, values_from, plain_type, plain_field, plain_fields, plain_value, plain_values}
use Rattle.lan_model.specs.Fits.{Fits, AllFit, EachFits}
use Rattle.lan_rows.specs.Bits.{stored}
use Rattle.lan_rows.specs.declared.faults.RowFault.{RowFault}
use Rattle.lan_rows.specs.declared.faults.RowFault.TheVariants.{Count}
use Rattle.lan_rows.specs.Fitting.{FitsType}
use Rattle.lan_rows.specs.Judged.{Judged, and_then, on_good, each_item}
use Rattle.lan_rows.specs.Values.{count_items, vector_item, vector_in, joined, first_stray, unless_stray, only_members, list_in, group_in, type_value, field_value, members_values, named_value, column_value, row_values}

pub count_items-view : (vs : List Value) → count_items (items_view vs) ≡ length vs
count_items-view [] = refl
count_items-view (v ∷ vs) = omega (arith, count_items-view vs)

-- the lowest bytes of a number are those of its type
pub low_bytes : (prim : Primitive) (b : ℕ) → take (byte_len (stored prim)) (to_le_bytes w64 b) ≡ to_le_bytes (stored prim) b
low_bytes p.Bool b = refl
low_bytes p.Int8 b = refl
low_bytes p.Int16 b = refl
low_bytes p.Int32 b = refl
low_bytes p.Int64 b = refl
low_bytes p.Uint8 b = refl
low_bytes p.Uint16 b = refl
low_bytes p.Uint32 b = refl
low_bytes p.Uint64 b = refl
low_bytes p.Half b = refl
low_bytes p.Float b = refl
low_bytes p.Double b = refl
low_bytes p.Date b = refl

-- one value more
pub each_fits_more : (all rest : PlainFields ℕ) (f : PlainField ℕ) (done : List PlainValue) (v : PlainValue) → ((vs : List PlainValue) → EachFits (one_field f rest) (values_from vs) → EachFits all (values_from (done ++ vs)))
    → Fits f v → (vs : List PlainValue) → EachFits rest (values_from vs) → EachFits all (values_from ((done ++ v ∷ []) ++ vs))
each_fits_more all rest f done v h fit vs more = rw (append_assoc done (v ∷ []) vs) (h (v ∷ vs) (fit, more))

pub all_fit_more : (f : PlainField ℕ) (done : List PlainValue) (v : PlainValue) → AllFit f (values_from done) → Fits f v → AllFit f (values_from (done ++ v ∷ []))
all_fit_more f [] v h fit = (fit, tt)
all_fit_more f (w ∷ ws) v h fit = (h.0, all_fit_more f ws v h.1 fit)

pub all_fit_push : (f : PlainField ℕ) (vals more : List Val) (v : Val) → AllFit f (values_from (map plain_value vals)) → Fits f (plain_value v) → more ≡ vals ++ v ∷ [] → AllFit f (values_from (map plain_value more))
all_fit_push f vals more v h fit is = rw (is, map-append plain_value vals (v ∷ [])) (all_fit_more f (map plain_value vals) (plain_value v) h fit)

pub drop_past : {A : Type 0} (i : ℕ) (xs : List A) → length xs ≤ i → drop i xs ≡ []
drop_past zero [] h = refl
drop_past (suc i) [] h = refl
drop_past zero (x ∷ xs) h = absurd (omega (arith, h))
drop_past (suc i) (x ∷ xs) h = drop_past i xs (omega (arith, h))

-- ---- one more of what was judged

on_good-more : {A : Type 0} (done : List A) (v : A) (r : Judged (List A)) → on_good (λ later. done ++ later) (on_good (λ later. v ∷ later) r) ≡ on_good (λ later. (done ++ v ∷ []) ++ later) r
on_good-more done v (Ok later) = ap (λ l. Ok l) (sym (append_assoc done (v ∷ []) later))
on_good-more done v (Err e) = refl

-- what is done, where v is next
step_on : (done : List PlainValue) (v : PlainValue) (first : Judged PlainValue) (r : Judged (List PlainValue)) → first ≡ Ok v
    → on_good (λ later. done ++ later) (and_then first (λ a. on_good (λ later. a ∷ later) r)) ≡ on_good (λ later. (done ++ v ∷ []) ++ later) r
step_on done v first r is = rw is (on_good-more done v r)

pushed : (vals more : List Val) (v : Val) (r : Judged (List PlainValue)) → more ≡ vals ++ v ∷ [] → on_good (λ later. (map plain_value vals ++ plain_value v ∷ []) ++ later) r ≡ on_good (λ later. map plain_value more ++ later) r
pushed vals more v r is = ap (λ l. on_good (λ later. l ++ later) r) (sym (ap (map plain_value) is ∙ map-append plain_value vals (v ∷ [])))

pub items_push : (f : Data → Judged PlainValue) (all : Items) (vs : List Value) (i : ℕ) (x : Value) (vals more : List Val) (v : Val)
    → each_item f all ≡ on_good (λ later. map plain_value vals ++ later) (each_item f (items_view (drop i vs))) → drop i vs ≡ x ∷ drop (i + 1) vs → f (view x) ≡ Ok (plain_value v) → more ≡ vals ++ v ∷ []
    → each_item f all ≡ on_good (λ later. map plain_value more ++ later) (each_item f (items_view (drop (i + 1) vs)))
items_push f all vs i x vals more v before cut is more_is =
    let rest = items_view (drop (i + 1) vs) in
    before ∙ ap (λ l. on_good (λ later. map plain_value vals ++ later) (each_item f (items_view l))) cut ∙ step_on (map plain_value vals) (plain_value v) (f (view x)) (each_item f rest) is ∙ pushed vals more v (each_item f rest) more_is

pub members_push : (top : List ℕ) (ms : Members) (fields : List Field) (i : ℕ) (x : Field) (vals more : List Val) (v : Val)
    → members_values top (plain_fields fields) ms ≡ on_good (λ later. map plain_value vals ++ later) (members_values top (plain_fields (drop i fields)) ms) → drop i fields ≡ x ∷ drop (i + 1) fields
    → named_value top (plain_field x) ms ≡ Ok (plain_value v) → more ≡ vals ++ v ∷ []
    → members_values top (plain_fields fields) ms ≡ on_good (λ later. map plain_value more ++ later) (members_values top (plain_fields (drop (i + 1) fields)) ms)
members_push top ms fields i x vals more v before cut is more_is =
    let rest = members_values top (plain_fields (drop (i + 1) fields)) ms in
    before ∙ ap (λ l. on_good (λ later. map plain_value vals ++ later) (members_values top (plain_fields l) ms)) cut ∙ step_on (map plain_value vals) (plain_value v) (named_value top (plain_field x) ms) rest is ∙ pushed vals more v rest more_is

pub plain_field-parts : (f : Field) → plain_field f ≡ field f.id f.name f.nullable (plain_type f.ty)
plain_field-parts f = search (rules, field_lemmas)

column_value-named : (f : Field) (ms : Members) → column_value (plain_field f) ms ≡ named_value f.name (plain_field f) ms
column_value-named f ms = rw (plain_field-parts f) refl

pub columns_push : (ms : Members) (fields : List Field) (i : ℕ) (x : Field) (vals more : List Val) (v : Val)
    → row_values (plain_fields fields) ms ≡ on_good (λ later. map plain_value vals ++ later) (row_values (plain_fields (drop i fields)) ms) → drop i fields ≡ x ∷ drop (i + 1) fields
    → named_value x.name (plain_field x) ms ≡ Ok (plain_value v) → more ≡ vals ++ v ∷ []
    → row_values (plain_fields fields) ms ≡ on_good (λ later. map plain_value more ++ later) (row_values (plain_fields (drop (i + 1) fields)) ms)
columns_push ms fields i x vals more v before cut is more_is =
    let rest = row_values (plain_fields (drop (i + 1) fields)) ms in
    before ∙ ap (λ l. on_good (λ later. map plain_value vals ++ later) (row_values (plain_fields l) ms)) cut ∙ step_on (map plain_value vals) (plain_value v) (column_value (plain_field x) ms) rest (column_value-named x ms ∙ is) ∙ pushed vals more v rest more_is

pub each_fits_push : (fields : List Field) (i : ℕ) (x : Field) (vals more : List Val) (v : Val)
    → ((vs : List PlainValue) → EachFits (plain_fields (drop i fields)) (values_from vs) → EachFits (plain_fields fields) (values_from (map plain_value vals ++ vs))) → drop i fields ≡ x ∷ drop (i + 1) fields → Fits (plain_field x) (plain_value v) → more ≡ vals ++ v ∷ []
    → (vs : List PlainValue) → EachFits (plain_fields (drop (i + 1) fields)) (values_from vs) → EachFits (plain_fields fields) (values_from (map plain_value more ++ vs))
each_fits_push fields i x vals more v before cut fit more_is vs rest =
    let before' = rw cut at before in
    let one = each_fits_more (plain_fields fields) (plain_fields (drop (i + 1) fields)) (plain_field x) (map plain_value vals) (plain_value v) before' fit vs rest in
    subst (λ l. EachFits (plain_fields fields) (values_from (l ++ vs))) (sym (ap (map plain_value) more_is ∙ map-append plain_value vals (v ∷ []))) one

-- ---- all is judged

all_done : (vals : List Val) (r : Judged (List PlainValue)) → r ≡ Ok [] → on_good (λ later. map plain_value vals ++ later) r ≡ Ok (map plain_value vals)
all_done vals r is = rw is (ap (λ l. Ok l) (append-nil (map plain_value vals)))

plain_value-items : (vals : List Val) → plain_value (ItemsVal vals) ≡ items (plain_values vals)
plain_value-items vals = search (rules, val_lemmas)

plain_value-group : (vals : List Val) → plain_value (Group vals) ≡ group (plain_values vals)
plain_value-group vals = search (rules, val_lemmas)

plain_value-raw : (s : List ℕ) → plain_value (Raw s) ≡ raw s
plain_value-raw s = search (rules, val_lemmas)

pub list_done : (top : List ℕ) (f : Data → Judged PlainValue) (d : Data) (vs : List Value) (i : ℕ) (vals : List Val) → Some (items_view vs) ≡ as_array d → length vs ≤ i
    → each_item f (items_view vs) ≡ on_good (λ later. map plain_value vals ++ later) (each_item f (items_view (drop i vs))) → list_in top f d ≡ Ok (plain_value (ItemsVal vals))
list_done top f d vs i vals found past before =
    let over : each_item f (items_view (drop i vs)) ≡ Ok [] = ap (λ l. each_item f (items_view l)) (drop_past i vs past) in
    rw (← found, before) (ap (on_good (λ later. items (values_from later))) (all_done vals (each_item f (items_view (drop i vs))) over) ∙ ap (λ v. Ok v) (sym (plain_value-items vals)))

pub group_done : (top : List ℕ) (fields : List Field) (d : Data) (ms : Members) (i : ℕ) (vals : List Val) → Some ms ≡ as_object d → None ≡ first_stray (plain_fields fields) ms → length fields ≤ i
    → members_values top (plain_fields fields) ms ≡ on_good (λ later. map plain_value vals ++ later) (members_values top (plain_fields (drop i fields)) ms) → group_in top (plain_fields fields) (members_values top (plain_fields fields)) d ≡ Ok (plain_value (Group vals))
group_done top fields d ms i vals found none past before =
    let over : members_values top (plain_fields (drop i fields)) ms ≡ Ok [] = ap (λ l. members_values top (plain_fields l) ms) (drop_past i fields past) in
    let all : members_values top (plain_fields fields) ms ≡ Ok (map plain_value vals) = before ∙ all_done vals (members_values top (plain_fields (drop i fields)) ms) over in
    let only : only_members (plain_fields fields) (members_values top (plain_fields fields)) ms ≡ Ok (map plain_value vals) = ap (λ r. and_then r (unless_stray (first_stray (plain_fields fields) ms))) all ∙ ap (λ k. unless_stray k (map plain_value vals)) (sym none) in
    rw (← found) (ap (on_good (λ vs. group (values_from vs))) only ∙ ap (λ v. Ok v) (sym (plain_value-group vals)))

pub each_fits_all : (fields : List Field) (i : ℕ) (vals : List Val) → length fields ≤ i → ((vs : List PlainValue) → EachFits (plain_fields (drop i fields)) (values_from vs) → EachFits (plain_fields fields) (values_from (map plain_value vals ++ vs)))
    → EachFits (plain_fields fields) (plain_values vals)
each_fits_all fields i vals past before =
    let over = rw (drop_past i fields past) at before in
    subst (λ l. EachFits (plain_fields fields) (values_from l)) (append-nil (map plain_value vals)) (over [] tt)

pub group_fits : (fields : List Field) (i : ℕ) (vals : List Val) → length fields ≤ i → ((vs : List PlainValue) → EachFits (plain_fields (drop i fields)) (values_from vs) → EachFits (plain_fields fields) (values_from (map plain_value vals ++ vs)))
    → FitsType (struct (plain_fields fields)) (plain_value (Group vals))
group_fits fields i vals past before = λ id name nullable.
    let all = each_fits_all fields i vals past before in
    subst (λ v. Fits (field id name nullable (struct (plain_fields fields))) v) (sym (plain_value-group vals)) all

-- ---- a field of a list

plain_type-list : (item : Field) → plain_type (ListTy item) ≡ list (plain_field item)
plain_type-list item = search (rules, the_lemmas)

pub at_list : (top : List ℕ) (f item : Field) (d : Data) → f.ty ≡ ListTy item → is_some (as_null d) ≡ false → field_value top (plain_field f) d ≡ list_in top (field_value top (plain_field item)) d
at_list top f item d is some = rw (plain_field-parts f, is, some) (ap (λ t. type_value top t d) (plain_type-list item))

-- ---- a vector

differ : (a b : ℕ) → (a ≡ b → ⊥) → nat_eq a b ≡ false
differ a b other = elim (cases_Bool (nat_eq a b)) [ inl is ↦ absurd (other (grind (arith, nat_tests, is))) | inr differs ↦ differs ]

same : (a b : ℕ) → a ≡ b → nat_eq a b ≡ true
same a b is = grind (arith, nat_tests, is)

pub vector_count : (top : List ℕ) (prim : Primitive) (n : ℕ) (d : Data) (vs : List Value) → Some (items_view vs) ≡ as_array d → (length vs ≡ n → ⊥) → vector_in top prim n d ≡ Err (Count top)
vector_count top prim n d vs found other =
    let counted : nat_eq (count_items (items_view vs)) n ≡ false = differ (count_items (items_view vs)) n (λ is. other (sym (count_items-view vs) ∙ is)) in
    rw (← found, counted) refl

vector_here : (top : List ℕ) (prim : Primitive) (n : ℕ) (d : Data) (vs : List Value) → Some (items_view vs) ≡ as_array d → length vs ≡ n
    → vector_in top prim n d ≡ on_good (λ parts. raw (joined parts)) (each_item (vector_item top prim) (items_view vs))
vector_here top prim n d vs found is =
    let counted : nat_eq (count_items (items_view vs)) n ≡ true = same (count_items (items_view vs)) n (count_items-view vs ∙ is) in
    rw (← found, counted) refl

pub vector_err : (top : List ℕ) (prim : Primitive) (n : ℕ) (d : Data) (vs : List Value) (e : RowFault) → Some (items_view vs) ≡ as_array d → length vs ≡ n → each_item (vector_item top prim) (items_view vs) ≡ Err e → vector_in top prim n d ≡ Err e
vector_err top prim n d vs e found is fails = vector_here top prim n d vs found is ∙ ap (on_good (λ parts. raw (joined parts))) fails

joined_raw : (r : Judged (List (List ℕ))) → on_good (λ parts. raw (joined parts)) r ≡ on_good raw (on_good joined r)
joined_raw (Ok parts) = refl
joined_raw (Err e) = refl

pub vector_ok : (top : List ℕ) (prim : Primitive) (n : ℕ) (d : Data) (vs : List Value) (s : List ℕ) → Some (items_view vs) ≡ as_array d → length vs ≡ n → on_good joined (each_item (vector_item top prim) (items_view vs)) ≡ Ok s
    → vector_in top prim n d ≡ Ok (plain_value (Raw s))
vector_ok top prim n d vs s found is done =
    vector_here top prim n d vs found is ∙ joined_raw (each_item (vector_item top prim) (items_view vs)) ∙ ap (on_good raw) done ∙ ap (λ v. Ok v) (sym (plain_value-raw s))
