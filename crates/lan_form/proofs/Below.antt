-- What is looked up in an object.
use Rattle.std.proofs.Common.{◌≡◌, ℕ, zero, suc, ◌+◌, ◌*◌, ◌<◌, ◌≤◌, List, [], ◌∷◌, max, Option, Some, None, Ordering, Less, Equal, Greater, is_eq, nat_cmp, cond, bytes_eq, codes, IfSome, IfNone, option_map, Bor, Err, length, get_or, refl, sym, ap, ◌∙◌, arith}
use Rattle.std.specs.Cmp.Lexicographic.{slice_cmp}
use Rattle.std.specs.Ordering.{match_ordering}
use Rattle.std.proofs.lemmas.Map.Text.{is_eq-slice_cmp}
use Rattle.serde_json.specs.Data.{Data, null, boolean, number, string, array, object, Members, no_members, member, depth, items_depth, members_depth}
use Rattle.serde_json.specs.Find.{get, get_member, as_array}
use Rattle.serde_json.specs.View.{view, items_view}
use Rattle.serde_json.specs.declared.value.Value.{Value}
use Rattle.lan_form.specs.declared.faults.FormFault.TheVariants.{Form}
use Rattle.lan_form.specs.Form.{item_form, fields_form, field_form, list_form}

pub items_depth-within : (vs : List Value) (i : ℕ) (d : Value) → i < length vs → depth (view (get_or vs i d)) ≤ items_depth (items_view vs)
items_depth-within [] i d h = absurd (omega arith)
items_depth-within (v ∷ vs) zero d h = omega arith
items_depth-within (v ∷ vs) (suc i) d h = omega (arith, items_depth-within vs i d (omega arith))

-- a look-up by order, beside a recursion that tests for the same key
found_at : {A : Type 0} (f : Data → A) (o : Ordering) (c d : Data) (later : Option Data) (more : A) → (Some d ≡ later → more ≡ f d) → Some d ≡ match_ordering o later (Some c) later → cond (is_eq o) (f c) more ≡ f d
found_at f Less c d later more h e = h e
found_at f Equal c d later more h e = cc
found_at f Greater c d later more h e = h e

missed_at : {A : Type 0} (f : Data → A) (end : A) (o : Ordering) (c : Data) (later : Option Data) (more : A) → (None ≡ later → more ≡ end) → None ≡ match_ordering o later (Some c) later → cond (is_eq o) (f c) more ≡ end
missed_at f end Less c later more h e = h e
missed_at f end Equal c later more h e = absurd (cc)
missed_at f end Greater c later more h e = h e

shallow_at : (o : Ordering) (c d : Data) (later : Option Data) (n : ℕ) → (Some d ≡ later → depth d ≤ n) → Some d ≡ match_ordering o later (Some c) later → depth d ≤ max (depth c) n
shallow_at Less c d later n h e = omega (arith, h e)
shallow_at Equal c d later n h e = let same : d ≡ c = cc in omega (arith, ap depth same)
shallow_at Greater c d later n h e = omega (arith, h e)

pub get_member-shallow : (k : List ℕ) (ms : Members) (d : Data) → Some d ≡ get_member k ms → depth d ≤ members_depth ms
get_member-shallow k no_members d e = absurd (cc)
get_member-shallow k (member l c ms) d e = shallow_at (slice_cmp nat_cmp k l) c d (get_member k ms) (members_depth ms) (get_member-shallow k ms d) e

same_key : (k l : List ℕ) → bytes_eq k l ≡ is_eq (slice_cmp nat_cmp k l)
same_key k l = sym (is_eq-slice_cmp k l)

pub item_form-some : (ms : Members) (d : Data) → Some d ≡ get_member (codes "item") ms → item_form ms ≡ field_form d
item_form-some no_members d e = absurd (cc)
item_form-some (member l c ms) d e =
    ap (λ b. cond b (field_form c) (item_form ms)) (same_key (codes "item") l)
    ∙ found_at field_form (slice_cmp nat_cmp (codes "item") l) c d (get_member (codes "item") ms) (item_form ms) (item_form-some ms d) e

pub item_form-none : (ms : Members) → None ≡ get_member (codes "item") ms → item_form ms ≡ Err Form
item_form-none no_members e = refl
item_form-none (member l c ms) e =
    ap (λ b. cond b (field_form c) (item_form ms)) (same_key (codes "item") l)
    ∙ missed_at field_form (Err Form) (slice_cmp nat_cmp (codes "item") l) c (get_member (codes "item") ms) (item_form ms) (item_form-none ms) e

pub fields_form-some : (ms : Members) (d : Data) → Some d ≡ get_member (codes "fields") ms → fields_form ms ≡ list_form d
fields_form-some no_members d e = absurd (cc)
fields_form-some (member l c ms) d e =
    ap (λ b. cond b (list_form c) (fields_form ms)) (same_key (codes "fields") l)
    ∙ found_at list_form (slice_cmp nat_cmp (codes "fields") l) c d (get_member (codes "fields") ms) (fields_form ms) (fields_form-some ms d) e

pub fields_form-none : (ms : Members) → None ≡ get_member (codes "fields") ms → fields_form ms ≡ Err Form
fields_form-none no_members e = refl
fields_form-none (member l c ms) e =
    ap (λ b. cond b (list_form c) (fields_form ms)) (same_key (codes "fields") l)
    ∙ missed_at list_form (Err Form) (slice_cmp nat_cmp (codes "fields") l) c (get_member (codes "fields") ms) (fields_form ms) (fields_form-none ms) e

-- what `get` gives at an object
pub item_found : (o : Option (Bor Value)) (d : Data) (ms : Members) → option_map (λ v. view v.now) o ≡ get (codes "item") d → d ≡ object ms
    → IfNone o (item_form ms ≡ Err Form) × IfSome o (λ v. item_form ms ≡ field_form (view v.now)) × IfSome o (λ v. depth (view v.now) < depth d)
item_found None d ms e is = (item_form-none ms (e ∙ ap (get (codes "item")) is), tt, tt)
item_found (Some v) d ms e is =
    let here : Some (view v.now) ≡ get_member (codes "item") ms = e ∙ ap (get (codes "item")) is in
    (tt, item_form-some ms (view v.now) here, omega (arith, get_member-shallow (codes "item") ms (view v.now) here, ap depth is))

pub fields_found : (o : Option (Bor Value)) (d : Data) (ms : Members) → option_map (λ v. view v.now) o ≡ get (codes "fields") d → d ≡ object ms
    → IfNone o (fields_form ms ≡ Err Form) × IfSome o (λ v. fields_form ms ≡ list_form (view v.now)) × IfSome o (λ v. depth (view v.now) < depth d)
fields_found None d ms e is = (fields_form-none ms (e ∙ ap (get (codes "fields")) is), tt, tt)
fields_found (Some v) d ms e is =
    let here : Some (view v.now) ≡ get_member (codes "fields") ms = e ∙ ap (get (codes "fields")) is in
    (tt, fields_form-some ms (view v.now) here, omega (arith, get_member-shallow (codes "fields") ms (view v.now) here, ap depth is))

pub item_shallow : (d : Data) (vs : List Value) (i : ℕ) (x : Value) → Some (items_view vs) ≡ as_array d → i < length vs → x ≡ get_or vs i x → 3 * depth (view x) + 1 < 3 * depth d
item_shallow null vs i x e h is = absurd (cc)
item_shallow (boolean b) vs i x e h is = absurd (cc)
item_shallow (number n) vs i x e h is = absurd (cc)
item_shallow (string s) vs i x e h is = absurd (cc)
item_shallow (array ds) vs i x e h is =
    let same : items_view vs ≡ ds = cc in
    omega (arith, items_depth-within vs i x h, ap (λ v. depth (view v)) is, ap items_depth same)
item_shallow (object ms) vs i x e h is = absurd (cc)
