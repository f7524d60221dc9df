-- A front stands for one number of changes.
use Rattle.std.proofs.Common.{◌≡◌, inl, inr, ◌∙◌, ap, ℕ, zero, suc, ◌-◌, ◌<◌, ◌≤◌, List, length, get_or, arith}
use Rattle.std.proofs.lemmas.Bool.{cases_lt, cases_eq}
use Rattle.std.proofs.lemmas.List.{get_or_default}
use Rattle.std.proofs.lemmas.Map.Keys.{sorted_from_strictly_increasing, below_from_sorted}
use Rattle.lan_model.specs.Dataset.{Dataset}
use Rattle.lan_store.specs.declared.name.Object.{Object}
use Rattle.lan_manifest.specs.Versions.{AreListed}
use Rattle.lance_cli.specs.Chain.{Link, IsFront}

-- the place of a version in another listing
pub record At (ys : List ℕ) (k v : ℕ) : Type 0 where
  pub place : ℕ
  pub later : k ≤ place
  pub below : place < length ys
  pub is : get_or ys place 0 ≡ v

found : (objects : List Object) (xs ys : List ℕ) (k : ℕ) → AreListed objects xs → AreListed objects ys → k < length xs → At ys 0 (get_or xs k 0)
found objects xs ys k a b below =
    let there = b.all (get_or xs k 0) (a.only k 0 below) in
    record { place = there.0; later = omega arith; below = there.1; is = get_or_default ys there.0 0 (get_or xs k 0) there.1 ∙ there.2 }

-- the k-th version of a listing isn't before the k-th place of another of the same objects
no_sooner : (objects : List Object) (xs ys : List ℕ) (k : ℕ) → AreListed objects xs → AreListed objects ys → k < length xs → At ys k (get_or xs k 0)
no_sooner objects xs ys zero a b below = found objects xs ys zero a b below
no_sooner objects xs ys (suc k) a b below =
    let before = no_sooner objects xs ys k a b (omega (arith, below)) in
    let there = found objects xs ys (suc k) a b below in
    let rises = below_from_sorted xs k (suc k) 0 (sorted_from_strictly_increasing xs a.rising) (omega arith) below in
    record { place = there.place; later = past before there rises; below = there.below; is = there.is } where
      past : (before : At ys k (get_or xs k 0)) (there : At ys 0 (get_or xs (suc k) 0)) → get_or xs k 0 < get_or xs (suc k) 0 → suc k ≤ there.place
      past before there rises = elim (cases_lt before.place there.place) [
        | inl more ↦ omega (arith, more, before.later)
        | inr less ↦ absurd (elim (cases_eq there.place before.place) [
          | inl same ↦ omega (arith, rises, before.is, there.is, ap (λ n. get_or ys n 0) same)
          | inr other ↦ omega (arith, rises, before.is, there.is, below_from_sorted ys there.place before.place 0 (sorted_from_strictly_increasing ys b.rising) (omega (arith, less, other)) before.below)
        ])
      ]

no_longer : (objects : List Object) (xs ys : List ℕ) → AreListed objects xs → AreListed objects ys → length xs ≤ length ys
no_longer objects xs ys a b = elim (cases_lt 0 (length xs)) [
  | inl some ↦ let last = no_sooner objects xs ys (length xs - 1) a b (omega (arith, some)) in omega (arith, last.later, last.below)
  | inr none ↦ omega (arith, none)
]

pub one_count : (old : List Object) (d : Dataset) (links : List Link) (m n : ℕ) (part : List Object) → IsFront old d links m part → IsFront old d links n part → m ≡ n
one_count old d links m n part f g =
    let up = no_longer part _ _ f.agrees.listed g.agrees.listed in
    let down = no_longer part _ _ g.agrees.listed f.agrees.listed in
    omega (arith, f.listed, g.listed, up, down)
