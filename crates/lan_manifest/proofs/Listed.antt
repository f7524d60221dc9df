-- What walks over ids and over fragments keep, from the back.
use Rattle.std.proofs.Common.{◌≡◌, ◌↔◌, ℕ, zero, suc, ◌+◌, ◌^◌, ◌<◌, ◌≤◌, Bool, true, false, cond, not, List, [], ◌∷◌, length, drop, get_or, refl, sym, ap, subst, ◌∙◌, inl, inr, arith}
use Rattle.std.specs.Prelude.{ℤ, pos, ◌&&◌, ◌||◌, ◌⊎◌, nat_eq, All, IsTrue}
use Rattle.std.specs.Ordering.{int_cmp, is_eq}
use Rattle.std.proofs.lemmas.List.{drop_more, drop_all}
use Rattle.lan_schema.specs.Forest.{same}
use Rattle.lan_schema.specs.Listed.{is_negative}
use Rattle.lan_schema.proofs.Keys.{same_key}
use Rattle.lan_manifest.specs.declared.said.SaidFragment.{SaidFragment}
use Rattle.lan_manifest.specs.declared.schema.Top.{Top}
use Rattle.lan_manifest.specs.declared.fault.ManifestFault.{ManifestFault}
use Rattle.lan_manifest.specs.declared.keeping.FragmentRule.{FragmentRule}
use Rattle.lan_manifest.specs.FragmentRules.{are_indexed, repeats, is_whole, may_lack, Keeps, Breaks, KeepEach, BreakOne, has_id, BreaksId}
use Rattle.lan_manifest.specs.SchemaLeaves.{LeafShape, is_listed}

or_is : (a b : Bool) → cond a true b ≡ (a || b)
or_is true b = refl
or_is false b = refl

or_right : (a b : Bool) → b ≡ true → (a || b) ≡ true
or_right true b e = refl
or_right false b e = e

-- the list from a place on
pub front_of : {X : Type 0} (xs : List X) (i j : ℕ) (d x : X) → j ≡ i + 1 → i < length xs → x ≡ get_or xs i d → drop i xs ≡ x ∷ drop j xs
front_of {X} xs i j d x next lt is = drop_more xs i d lt ∙ ap (λ (y : X). y ∷ drop (i + 1) xs) (sym is) ∙ ap (λ (n : ℕ). x ∷ drop n xs) (sym next)

-- a set that has the numbers behind a place, and one more
pub listed_at : (old new : ℤ → Bool) (ids : List ℤ) (i j : ℕ) (z : ℤ) → j ≡ i + 1 → i < length ids → z ≡ get_or ids i (pos 0)
    → ((q : ℤ) → old q ≡ is_listed (drop j ids) q) → ((q : ℤ) → new q ≡ cond (is_eq (int_cmp z q)) true (old q)) → (q : ℤ) → new q ≡ is_listed (drop i ids) q
listed_at old new ids i j z next lt is was now q =
    now q
    ∙ ap (λ (b : Bool). cond b true (old q)) (same_key z q)
    ∙ or_is (same z q) (old q)
    ∙ ap (λ (b : Bool). same z q || b) (was q)
    ∙ sym (ap (λ (zs : List ℤ). is_listed zs q) (front_of ids i j (pos 0) z next lt is))

pub repeats_at : (leaf : ℤ → Bool) (ids : List ℤ) (i j : ℕ) (z : ℤ) → j ≡ i + 1 → i < length ids → z ≡ get_or ids i (pos 0) → repeats leaf (drop i ids) ≡ ((leaf z && is_listed (drop j ids) z) || repeats leaf (drop j ids))
repeats_at leaf ids i j z next lt is = ap (repeats leaf) (front_of ids i j (pos 0) z next lt is)

pub repeats_from : (leaf : ℤ → Bool) (i : ℕ) (ids : List ℤ) → repeats leaf (drop i ids) ≡ true → repeats leaf ids ≡ true
repeats_from leaf zero ids h = h
repeats_from leaf (suc i) [] h = h
repeats_from leaf (suc i) (z ∷ zs) h = or_right (leaf z && is_listed zs z) (repeats leaf zs) (repeats_from leaf i zs h)

pub found_twice : (a b r : Bool) → a ≡ true → b ≡ true → ((a && b) || r) ≡ true
found_twice true true r e f = refl
found_twice true false r e f = absurd cc
found_twice false b r e f = absurd cc

pub still_once : (a b r : Bool) → (a ≡ false) ⊎ (b ≡ false) → r ≡ false → ((a && b) || r) ≡ false
still_once true true r e h = elim e [ inl w ↦ absurd cc | inr w ↦ absurd cc ]
still_once true false r e h = h
still_once false b r e h = h

pub indexed_at : (leaf : ℤ → Bool) (ids columns : List ℤ) (i : ℕ) → i < length ids → i < length columns
    → are_indexed leaf (drop i ids) (drop i columns) ≡ (not (leaf (get_or ids i (pos 0)) && is_negative (get_or columns i (pos 0))) && are_indexed leaf (drop (i + 1) ids) (drop (i + 1) columns))
indexed_at leaf ids columns i lt below = λ k. are_indexed leaf (drop_more ids i (pos 0) lt k) (drop_more columns i (pos 0) below k)

pub not_indexed : (a b r : Bool) → a ≡ true → b ≡ true → (not (a && b) && r) ≡ false
not_indexed true true r e f = refl
not_indexed true false r e f = absurd cc
not_indexed false b r e f = absurd cc

pub indexed_so_far : (a b r : Bool) → (a ≡ false) ⊎ (b ≡ false) → (not (a && b) && r) ≡ r
indexed_so_far true true r e = elim e [ inl w ↦ absurd cc | inr w ↦ absurd cc ]
indexed_so_far true false r e = refl
indexed_so_far false b r e = refl

breaks_from : (id i : ℕ) (fs : List SaidFragment) → BreaksId id (drop i fs) → BreaksId id fs
breaks_from id zero fs h = h
breaks_from id (suc i) [] h = h
breaks_from id (suc i) (f ∷ fs) h = inr (breaks_from id i fs h)

pub breaks_at : (fs : List SaidFragment) (i j : ℕ) (d : SaidFragment) → j ≡ i + 1 → i < length fs → (2 ^ 32 ≤ (get_or fs i d).id) ⊎ (has_id (drop j fs) (get_or fs i d).id ≡ true) → BreaksId (get_or fs i d).id fs
breaks_at fs i j d next lt h =
    let f = get_or fs i d in
    breaks_from f.id i fs (subst (BreaksId f.id) (sym (front_of fs i j d f next lt refl)) (inl (refl, h)))

pub whole_same : (r : Bool) (g h : ℤ → Bool) (ts us : List Top) → ((q : ℤ) → g q ≡ h q) → ts ≡ us → IsTrue r ↔ All (λ top. IsTrue (is_whole g top)) ts → IsTrue r ↔ All (λ top. IsTrue (is_whole h top)) us
whole_same r g h ts us same tops p =
    subst (λ (vs : List Top). IsTrue r ↔ All (λ top. IsTrue (is_whole h top)) vs) tops (subst (λ (k : ℤ → Bool). IsTrue r ↔ All (λ top. IsTrue (is_whole k top)) ts) (λ i q. same q i) p)

pub lack_same : (r : Bool) (g h : ℤ → Bool) (ts us : List Top) → ((q : ℤ) → g q ≡ h q) → ts ≡ us → IsTrue r ↔ All (λ top. IsTrue (may_lack g top)) ts → IsTrue r ↔ All (λ top. IsTrue (may_lack h top)) us
lack_same r g h ts us same tops p =
    subst (λ (vs : List Top). IsTrue r ↔ All (λ top. IsTrue (may_lack h top)) vs) tops (subst (λ (k : ℤ → Bool). IsTrue r ↔ All (λ top. IsTrue (may_lack k top)) ts) (λ i q. same q i) p)

-- ---- rules in order

pub keep_front : (rules : List FragmentRule) (i : ℕ) (d : FragmentRule) (shape : LeafShape) (fs : List SaidFragment) → i < length rules → All (Keeps (get_or rules i d) shape) fs → KeepEach (drop (i + 1) rules) shape fs → KeepEach (drop i rules) shape fs
unfolding KeepEach
keep_front rules i d shape fs lt all rest = subst (λ (rs : List FragmentRule). KeepEach rs shape fs) (sym (drop_more rules i d lt)) (all, rest)

pub keep_none : (rules : List FragmentRule) (i : ℕ) (shape : LeafShape) (fs : List SaidFragment) → length rules ≤ i → KeepEach (drop i rules) shape fs
unfolding KeepEach
keep_none rules i shape fs end = subst (λ (rs : List FragmentRule). KeepEach rs shape fs) (sym (drop_all i rules end)) tt

pub break_front : (rules : List FragmentRule) (i : ℕ) (d : FragmentRule) (shape : LeafShape) (fs : List SaidFragment) (e : ManifestFault) → i < length rules → Breaks (get_or rules i d) shape fs e → BreakOne (drop i rules) shape fs e
unfolding BreakOne
break_front rules i d shape fs e lt b = subst (λ (rs : List FragmentRule). BreakOne rs shape fs e) (sym (drop_more rules i d lt)) (inl b)

pub break_later : (rules : List FragmentRule) (i : ℕ) (d : FragmentRule) (shape : LeafShape) (fs : List SaidFragment) (e : ManifestFault) → i < length rules → All (Keeps (get_or rules i d) shape) fs → BreakOne (drop (i + 1) rules) shape fs e → BreakOne (drop i rules) shape fs e
unfolding BreakOne
break_later rules i d shape fs e lt all b = subst (λ (rs : List FragmentRule). BreakOne rs shape fs e) (sym (drop_more rules i d lt)) (inr (all, b))
