-- What a text stands for is what a table may have.
use Rattle.std.proofs.Common.{◌≡◌, ◌≢◌, inl, inr, refl, sym, ap, ◌∙◌, subst, ℕ, ◌+◌, ◌<◌, ◌≤◌, Bool, true, false, List, [], ◌∷◌, ◌++◌, length, map, arith}
use Rattle.std.specs.Prelude.{cond, ◌||◌, nat_eq, nat_le, bytes_eq, codes, Option, Some, None, Ok, Err, All, AllPairs}
use Rattle.std.specs.List.{list_any}
use Rattle.std.proofs.lemmas.Bool.{cases_Bool, false≢true}
use Rattle.std.proofs.lemmas.Bool.Decides.{nat_tests}
use Rattle.std.proofs.lemmas.List.Elements.{All-nil, All-cons, All-weaker}
use Rattle.std.proofs.lemmas.List.Folds.{list_any-append}
use Rattle.std.proofs.lemmas.List.Kept.{AllPairs-cons}
use Rattle.std.proofs.lemmas.Slice.Eq.{bytes_eq-Decides}
use Rattle.serde_json.specs.Data.{Data, null, boolean, number, string, array, object, Items, no_items, item, Members, no_members, member}
use Rattle.lan_model.specs.Plain.{PlainType, primitive, vector, text, bytes, list, struct, field, fields_from, type_unnumbered}
use Rattle.lan_model.specs.Table.{Column, name_of, names_of, AreNamed, IsField, AreFields, AreColumns, all_depths, HasNamedItems, HaveNamedItems}
use Rattle.lan_schema.specs.Logical.{leaf_type, IsLeafType}
use Rattle.lan_schema.proofs.LawTerms.{named_once}
use Rattle.lan_form.specs.declared.faults.FormFault.TheVariants as fault
use Rattle.lan_form.specs.Judged.{Judged, on_good, and_then}
use Rattle.lan_form.specs.Shape.{Label, label_of}
use Rattle.lan_form.specs.Names.{first_twice, unless_twice, distinct}
use Rattle.lan_form.specs.Limits.{are_shallow, within}
use Rattle.lan_form.proofs.Few.{and_both}
use Rattle.lan_form.specs.Form.{ColumnType, known, typed, named, field_from, field_form, item_form, fields_form, list_form, each_form}

-- ---- answers in steps

on_good_ok : {A B : Type 0} (f : A → B) (r : Judged A) (b : B) → on_good f r ≡ Ok b → (a : A) × (r ≡ Ok a) × (f a ≡ b)
on_good_ok f (Ok a) b is = (a, refl, cc is)
on_good_ok f (Err e) b is = absurd (cc is)

and_then_ok : {A B : Type 0} (r : Judged A) (f : A → Judged B) (b : B) → and_then r f ≡ Ok b → (a : A) × (r ≡ Ok a) × (f a ≡ Ok b)
and_then_ok (Ok a) f b is = (a, refl, is)
and_then_ok (Err e) f b is = absurd (cc is)

-- ---- names

pub names_are : (fs : List Column) → names_of (fields_from fs) ≡ map name_of fs
names_are [] = refl
names_are (field id name nullable ty ∷ fs) = ap (λ l. name ∷ l) (names_are fs)

or_none : (a b : Bool) → (a || (b || false)) ≡ false → (a ≡ false) × (b ≡ false)
or_none false false is = (refl, refl)
or_none false true is = absurd (false≢true (sym is))
or_none true b is = absurd (false≢true (sym is))

apart : (earlier names : List (List ℕ)) → first_twice earlier names ≡ None → AllPairs (λ a b. a ≢ b) names × All (λ name. list_any (bytes_eq name) earlier ≡ false) names
apart earlier [] is = ((λ i j d low high. absurd (omega (arith, high))), All-nil (λ name. list_any (bytes_eq name) earlier ≡ false))
apart earlier (n ∷ ns) is =
    elim (cases_Bool (list_any (bytes_eq n) earlier)) [
      | inl found ↦ absurd (cc (subst (λ b. cond b (Some n) (first_twice (earlier ++ n ∷ []) ns) ≡ None) found is))
      | inr fresh ↦
          let rest = apart (earlier ++ n ∷ []) ns (subst (λ b. cond b (Some n) (first_twice (earlier ++ n ∷ []) ns) ≡ None) fresh is) in
          let parts : (m : List ℕ) → list_any (bytes_eq m) (earlier ++ n ∷ []) ≡ false → (list_any (bytes_eq m) earlier ≡ false) × (bytes_eq m n ≡ false) = λ m none. or_none (list_any (bytes_eq m) earlier) (bytes_eq m n) (sym (list_any-append (bytes_eq m) earlier (n ∷ [])) ∙ none) in
          let others : All (λ m. n ≢ m) ns = All-weaker (λ m. list_any (bytes_eq m) (earlier ++ n ∷ []) ≡ false) (λ m. n ≢ m) (λ m none same. false≢true (sym (parts m none).1 ∙ (bytes_eq-Decides m n).1 (sym same))) ns rest.1 in
          let before : All (λ m. list_any (bytes_eq m) earlier ≡ false) ns = All-weaker (λ m. list_any (bytes_eq m) (earlier ++ n ∷ []) ≡ false) (λ m. list_any (bytes_eq m) earlier ≡ false) (λ m none. (parts m none).0) ns rest.1 in
          (AllPairs-cons (λ a b. a ≢ b) n ns others rest.0, All-cons (λ m. list_any (bytes_eq m) earlier ≡ false) n ns fresh before)
    ]

unless_ok : (gs fs : List Column) (twice : Option (List ℕ)) → unless_twice gs twice ≡ Ok fs → (gs ≡ fs) × (twice ≡ None)
unless_ok gs fs None is = (cc is, refl)
unless_ok gs fs (Some name) is = absurd (cc is)

-- ---- types

-- a type, of a field with any name
abbrev IsSound : ColumnType → Type 0
IsSound t = (name : List ℕ) (nullable : Bool) → IsField (field tt name nullable t) × HasNamedItems (field tt name nullable t)

leaf_is_field : (t : PlainType ℕ) → IsLeafType t → IsSound (type_unnumbered t)
leaf_is_field (primitive p) is = λ name nullable. (tt, tt)
leaf_is_field (vector p n) is = λ name nullable. (is, tt)
leaf_is_field text is = λ name nullable. (tt, tt)
leaf_is_field bytes is = λ name nullable. (tt, tt)
leaf_is_field (list f) is = absurd is
leaf_is_field (struct fs) is = absurd is

known_ok : (kind : List ℕ) (o : Option (PlainType ℕ)) (t : ColumnType) → leaf_type kind ≡ o → known kind o ≡ Ok t → IsSound t
known_ok kind None t found is = absurd (cc is)
known_ok kind (Some u) t found is =
    let same : type_unnumbered u ≡ t = cc is in
    subst IsSound same (leaf_is_field u (named_once kind u found).0)

-- a field with a name
abbrev pub IsGood : Column → Type 0
IsGood f = IsField f × (0 < length (name_of f)) × HasNamedItems f

-- fields beside each other, each with a name
abbrev pub AreGood : List Column → Type 0
AreGood fs = AreNamed (fields_from fs) × AreFields (fields_from fs) × HaveNamedItems (fields_from fs)

list_sound : (g : Column) → IsGood g → IsSound (list g)
list_sound g good = λ name nullable. (good.0, (good.1, good.2))

struct_sound : (gs : List Column) → AreGood gs → IsSound (struct (fields_from gs))
struct_sound gs good = λ name nullable. ((good.0, good.1), good.2)

typed_ok : (kind : List ℕ) (inner : Judged Column) (inside : Judged (List Column)) (t : ColumnType)
    → ((g : Column) → inner ≡ Ok g → IsGood g) → ((gs : List Column) → inside ≡ Ok gs → AreGood gs) → typed kind inner inside ≡ Ok t → IsSound t
typed_ok kind inner inside t one all is =
    let rest = cond (bytes_eq kind (codes "struct")) (on_good (λ fs. struct (fields_from fs)) inside) (known kind (leaf_type kind)) in
    elim (cases_Bool (bytes_eq kind (codes "list"))) [
      | inl same ↦
          let (g, g_is, made) = on_good_ok list inner t (subst (λ b. cond b (on_good list inner) rest ≡ Ok t) same is) in
          subst IsSound made (list_sound g (one g g_is))
      | inr other ↦
          let left : rest ≡ Ok t = subst (λ b. cond b (on_good list inner) rest ≡ Ok t) other is in
          elim (cases_Bool (bytes_eq kind (codes "struct"))) [
            | inl same ↦
                let (gs, gs_is, made) = on_good_ok (λ fs. struct (fields_from fs)) inside t (subst (λ b. cond b (on_good (λ fs. struct (fields_from fs)) inside) (known kind (leaf_type kind)) ≡ Ok t) same left) in
                subst IsSound made (struct_sound gs (all gs gs_is))
            | inr leaf ↦ known_ok kind (leaf_type kind) t refl (subst (λ b. cond b (on_good (λ fs. struct (fields_from fs)) inside) (known kind (leaf_type kind)) ≡ Ok t) leaf left)
          ]
    ]

named_ok : (l : Label) (r : Judged ColumnType) (f : Column) → ((t : ColumnType) → r ≡ Ok t → IsSound t) → named l r ≡ Ok f → IsGood f
named_ok l r f each is =
    let made = on_good (field tt l.name l.nullable) r in
    elim (cases_Bool (nat_eq (length l.name) 0)) [
      | inl empty ↦ absurd (cc (subst (λ b. cond b (Err fault.NoName) made ≡ Ok f) empty is))
      | inr some ↦
          let (t, t_is, f_is) = on_good_ok (field tt l.name l.nullable) r f (subst (λ b. cond b (Err fault.NoName) made ≡ Ok f) some is) in
          let long : 0 < length l.name = grind (arith, nat_tests, some) in
          let sound = each t t_is l.name l.nullable in
          subst IsGood f_is (sound.0, long, sound.1)
    ]

from_ok : (label : Judged Label) (inner : Judged Column) (inside : Judged (List Column)) (f : Column) → ((g : Column) → inner ≡ Ok g → IsGood g) → ((gs : List Column) → inside ≡ Ok gs → AreGood gs) → field_from label inner inside ≡ Ok f → IsGood f
from_ok (Err e) inner inside f one all is = absurd (cc is)
from_ok (Ok l) inner inside f one all is = named_ok l (typed l.kind inner inside) f (λ t t_is. typed_ok l.kind inner inside t one all t_is) is

-- ---- lists

count : (gs : List Column) → 0 < length gs → 0 < length (map name_of gs)
count [] some = some
count (g ∷ gs) some = omega arith

abbrev items_in : Items → ℕ
items_in no_items = 0
items_in (item d ds) = items_in ds + 1

list_good : (gs fs : List Column) → 0 < length gs → AreFields (fields_from gs) → All (λ name. 0 < length name) (map name_of gs) → HaveNamedItems (fields_from gs) → distinct gs ≡ Ok fs → AreGood fs
list_good gs fs some each names items is =
    let said = unless_ok gs fs (first_twice [] (map name_of gs)) is in
    let pairs = (apart [] (map name_of gs) said.1).0 in
    let same = names_are gs in
    subst AreGood said.0 (
      (
        subst (λ l. 0 < length l) (sym same) (count gs some),
        subst (λ l. All (λ name. 0 < length name) l) (sym same) names,
        subst (λ l. AllPairs (λ a b. a ≢ b) l) (sym same) pairs,
      ),
      each,
      items,
    )

mutual
  pub field_ok : (d : Data) (f : Column) → field_form d ≡ Ok f → IsGood f
  field_ok null f is = absurd (cc is)
  field_ok (boolean b) f is = absurd (cc is)
  field_ok (number n) f is = absurd (cc is)
  field_ok (string s) f is = absurd (cc is)
  field_ok (array ds) f is = absurd (cc is)
  field_ok (object ms) f is = from_ok (label_of ms) (item_form ms) (fields_form ms) f (λ g e. item_ok ms g e) (λ gs e. fields_ok ms gs e) is

  item_ok : (ms : Members) (f : Column) → item_form ms ≡ Ok f → IsGood f
  item_ok no_members f is = absurd (cc is)
  item_ok (member k d ms) f is =
      elim (cases_Bool (bytes_eq (codes "item") k)) [
        | inl here ↦ field_ok d f (subst (λ b. cond b (field_form d) (item_form ms) ≡ Ok f) here is)
        | inr later ↦ item_ok ms f (subst (λ b. cond b (field_form d) (item_form ms) ≡ Ok f) later is)
      ]

  fields_ok : (ms : Members) (fs : List Column) → fields_form ms ≡ Ok fs → AreGood fs
  fields_ok no_members fs is = absurd (cc is)
  fields_ok (member k d ms) fs is =
      elim (cases_Bool (bytes_eq (codes "fields") k)) [
        | inl here ↦ list_ok d fs (subst (λ b. cond b (list_form d) (fields_form ms) ≡ Ok fs) here is)
        | inr later ↦ fields_ok ms fs (subst (λ b. cond b (list_form d) (fields_form ms) ≡ Ok fs) later is)
      ]

  pub list_ok : (d : Data) (fs : List Column) → list_form d ≡ Ok fs → AreGood fs
  list_ok null fs is = absurd (cc is)
  list_ok (boolean b) fs is = absurd (cc is)
  list_ok (number n) fs is = absurd (cc is)
  list_ok (string s) fs is = absurd (cc is)
  list_ok (array no_items) fs is = absurd (cc is)
  list_ok (array (item d ds)) fs is =
      let (gs, gs_is, then) = and_then_ok (each_form (item d ds)) distinct fs is in
      let each = each_ok (item d ds) gs gs_is in
      list_good gs fs (each.3 (omega arith)) each.0 each.1 each.2 then
  list_ok (object ms) fs is = absurd (cc is)

  each_ok : (ds : Items) (fs : List Column) → each_form ds ≡ Ok fs → AreFields (fields_from fs) × All (λ name. 0 < length name) (map name_of fs) × HaveNamedItems (fields_from fs) × (0 < items_in ds → 0 < length fs)
  each_ok no_items fs is =
      let none : [] ≡ fs = cc is in
      subst (λ gs. AreFields (fields_from gs) × All (λ name. 0 < length name) (map name_of gs) × HaveNamedItems (fields_from gs) × (0 < 0 → 0 < length gs)) none (tt, All-nil (λ name. 0 < length name), tt, (λ some. absurd (omega (arith, some))))
  each_ok (item d ds) fs is =
      let (f, f_is, then) = and_then_ok (field_form d) (λ g. on_good (λ gs. g ∷ gs) (each_form ds)) fs is in
      let (gs, gs_is, made) = on_good_ok (λ gs. f ∷ gs) (each_form ds) fs then in
      let first = field_ok d f f_is in
      let rest = each_ok ds gs gs_is in
      subst (λ all. AreFields (fields_from all) × All (λ name. 0 < length name) (map name_of all) × HaveNamedItems (fields_from all) × (0 < items_in ds + 1 → 0 < length all)) made
      ((first.0, rest.0), All-cons (λ name. 0 < length name) (name_of f) (map name_of gs) first.1 rest.1, (first.2, rest.2), (λ some. omega arith))

-- ---- limits

shallow_all : (ds : List ℕ) → are_shallow ds ≡ true → All (λ depth. depth ≤ 16) ds
shallow_all [] is = All-nil (λ depth. depth ≤ 16)
shallow_all (d ∷ ds) is =
    let parts = and_both (nat_le d 16) (are_shallow ds) is in
    let low : d ≤ 16 = grind (arith, nat_tests, parts) in
    All-cons (λ depth. depth ≤ 16) d ds low (shallow_all ds parts.1)

limits_by : (shallow few : Bool) (cs : List Column) → cond shallow (cond few (Ok cs) (Err fault.TooManyLeaves)) (Err fault.TooDeep) ≡ Ok cs → (shallow ≡ true) × (few ≡ true)
limits_by true true cs is = (refl, refl)
limits_by true false cs is = absurd (cc is)
limits_by false few cs is = absurd (cc is)

pub limits_ok : (cs : List Column) → within cs ≡ Ok cs → (are_shallow (all_depths (fields_from cs) 0) ≡ true) × (length (all_depths (fields_from cs) 0) ≤ 1024)
limits_ok cs is =
    let both = limits_by (are_shallow (all_depths (fields_from cs) 0)) (nat_le (length (all_depths (fields_from cs) 0)) 1024) cs is in
    (both.0, grind (arith, nat_tests, both))

pub columns_formed : (cs : List Column) → AreGood cs → within cs ≡ Ok cs → AreColumns cs
columns_formed cs good is =
    let limits = limits_ok cs is in
    record { named = good.0; each = good.1; items = good.2; leaves = limits.1; layers = shallow_all (all_depths (fields_from cs) 0) limits.0 }

pub alone_good : (f : Column) → IsGood f → AreGood (f ∷ [])
alone_good (field id name nullable ty) good = (
  (
    omega arith,
    All-cons (λ n. 0 < length n) name [] good.1 (All-nil (λ n. 0 < length n)),
    (λ i j d low high. absurd (omega (arith, low, high))),
  ),
  (good.0, tt),
  (good.2, tt),
)
