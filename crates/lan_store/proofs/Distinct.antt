-- Names stay distinct when an object of a fresh name comes behind the others, and in each front of them.
use Rattle.std.proofs.Common.{◌≡◌, ◌≢◌, inl, inr, sym, ◌∙◌, ap, subst, ℕ, zero, suc, List, [], ◌∷◌, ◌++◌, length, get_or, take, arith, length-append, length-take, false}
use Rattle.std.specs.Prelude.{Result, Ok, Err, None, All, AllPairs, OnOk, OnErr}
use Rattle.std.proofs.lemmas.Bool.{cases_Bool, cases_lt}
use Rattle.std.proofs.lemmas.List.{get_or_append_left, get_or-take}
use Rattle.std.proofs.Math.Seq.{get_or-append_seam}
use Rattle.lan_store.specs.declared.name.Name.{Name}
use Rattle.lan_store.specs.declared.name.Object.{Object}
use Rattle.lan_store.specs.Names.{same_name}
use Rattle.lan_store.specs.Objects.{object, AreDistinct}
use Rattle.lan_store.proofs.Held.{same_name_itself}

-- where no object of a name is held, none has it
fresh_name : (objects : List Object) (name : Name) → object objects name ≡ None → All (λ o. o.name ≢ name) objects
unfolding object
fresh_name [] name none = λ k d below. absurd (omega (arith, below))
fresh_name (o ∷ os) name none = elim (cases_Bool (same_name o.name name)) [
  | inl same ↦ absurd (cc (rw same at none))
  | inr other ↦ each o os name other (fresh_name os name (rw other at none))
] where
  each : (o : Object) (os : List Object) (name : Name) → same_name o.name name ≡ false → All (λ o. o.name ≢ name) os → All (λ o. o.name ≢ name) (o ∷ os)
  each o os name other later zero d below = λ is. let same = ap (λ n. same_name n name) is ∙ same_name_itself name in absurd (cc (sym other ∙ same))
  each o os name other later (suc k) d below = later k d (omega (arith, below))

-- R of each two items, the earlier first, and of each item and one more
pub pairs_behind : {X : Type 0} (R : X → X → Type 0) (xs : List X) (x : X) → AllPairs R xs → All (λ y. R y x) xs → AllPairs R (xs ++ x ∷ [])
pairs_behind R xs x pairs each i j d before within = elim (cases_lt j (length xs)) [
  | inl inside ↦ rw (get_or_append_left xs (x ∷ []) d i (omega (arith, before, inside)), get_or_append_left xs (x ∷ []) d j inside) (pairs i j d before inside)
  | inr past ↦
      let at : j ≡ length xs = omega (arith, past, within, length-append xs (x ∷ [])) in
      let last : get_or (xs ++ x ∷ []) j d ≡ x = ap (λ k. get_or (xs ++ x ∷ []) k d) at ∙ get_or-append_seam xs x [] d in
      rw (get_or_append_left xs (x ∷ []) d i (omega (arith, before, at)), last) (each i d (omega (arith, before, at)))
]

-- what an attempt to add an object of a fresh name leaves
pub distinct_after : {E : Type 0} (old new : List Object) (o : Object) (r : Result Unit E) → AreDistinct old → object old o.name ≡ None
    → OnOk r (new ≡ old ++ o ∷ []) → OnErr r (new ≡ old) → AreDistinct new
distinct_after old new o (Ok _) distinct none grew same = subst AreDistinct (sym grew) (pairs_behind (λ a b. a.name ≢ b.name) old o distinct (fresh_name old o.name none))
distinct_after old new o (Err _) distinct none grew same = subst AreDistinct (sym same) distinct

pub distinct_take : (k : ℕ) (objects : List Object) → AreDistinct objects → AreDistinct (take k objects)
distinct_take k objects distinct i j d before within =
    let short = length-take k objects in
    rw (get_or-take k objects i d (omega (arith, before, within, short)), get_or-take k objects j d (omega (arith, within, short))) (distinct i j d before (omega (arith, within, short)))
