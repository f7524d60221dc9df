-- Objects agree with a dataset: the versions that are listed, and the table of one that stands.
use Rattle.std.proofs.Common.{◌≡◌, inl, inr, refl, sym, subst, ℕ, zero, suc, ◌+◌, ◌^◌, ◌<◌, ◌≤◌, List, [], ◌∷◌, length, get_or, arith}
use Rattle.std.specs.Prelude.{Option, Some, None, IsSome, All, Contains, ◌⊎◌}
use Rattle.std.proofs.lemmas.Bool.{cases_lt}
use Rattle.lan_model.specs.Dataset.{Dataset}
use Rattle.lan_model.specs.Table.{Table}
use Rattle.lan_store.specs.Objects.{object}
use Rattle.lan_store.specs.declared.name.Object.{Object}
use Rattle.lan_manifest.specs.Versions.{IsListed, AreListed, manifest_name}
use Rattle.lan_read.specs.Tables.{AgreesWith, StandsFor}

-- the listed versions from a number on
record AreFrom (objects : List Object) (n : ℕ) (versions : List ℕ) : Type 0 where
  pub rising : (k : ℕ) → k + 1 < length versions → get_or versions k 0 < get_or versions (k + 1) 0
  pub only : All (λ v. IsListed objects v × (n ≤ v)) versions
  pub all : (v : ℕ) → IsListed objects v → n ≤ v → Contains versions v

is_held : (o : Option (List ℕ)) → IsSome o ⊎ (IsSome o → ⊥)
is_held None = inr (λ some. absurd (cc some))
is_held (Some bytes) = inl refl

is_listed : (objects : List Object) (n : ℕ) → n < 2 ^ 53 → IsListed objects n ⊎ (IsListed objects n → ⊥)
is_listed objects n below = elim (cases_lt 0 n) [
  | inl some ↦ elim (is_held (object objects (manifest_name n))) [
    | inl held ↦ inl ((omega (arith, some), below), held)
    | inr none ↦ inr (λ listed. none listed.1)
  ]
  | inr none ↦ inr (λ listed. absurd (omega (arith, none, listed.0.0)))
]

with_first : (objects : List Object) (n : ℕ) (versions : List ℕ) → IsListed objects n → AreFrom objects (n + 1) versions → AreFrom objects n (n ∷ versions)
with_first objects n versions listed from = record { rising = rising; only = only; all = all } where
  rising : (k : ℕ) → k + 1 < length (n ∷ versions) → get_or (n ∷ versions) k 0 < get_or (n ∷ versions) (k + 1) 0
  rising zero below = let at = from.only 0 0 (omega (arith, below)) in omega (arith, at.1)
  rising (suc k) below =
      let next : suc k + 1 ≡ suc (k + 1) = omega arith in
      subst (λ i. get_or versions k 0 < get_or (n ∷ versions) i 0) (sym next) (from.rising k (omega (arith, below)))

  only : All (λ v. IsListed objects v × (n ≤ v)) (n ∷ versions)
  only zero d below = (listed, omega arith)
  only (suc k) d below = let at = from.only k d (omega (arith, below)) in (at.0, omega (arith, at.1))

  all : (v : ℕ) → IsListed objects v → n ≤ v → Contains (n ∷ versions) v
  all v is from_n = elim (cases_lt n v) [
    | inl above ↦ let found = from.all v is (omega (arith, above)) in (suc found.0, omega (arith, found.1), found.2)
    | inr other ↦ (0, omega arith, omega (arith, other, from_n))
  ]

without_first : (objects : List Object) (n : ℕ) (versions : List ℕ) → (IsListed objects n → ⊥) → AreFrom objects (n + 1) versions → AreFrom objects n versions
without_first objects n versions none from = record { rising = from.rising; only = only; all = all } where
  only : All (λ v. IsListed objects v × (n ≤ v)) versions
  only k d below = let at = from.only k d below in (at.0, omega (arith, at.1))

  all : (v : ℕ) → IsListed objects v → n ≤ v → Contains versions v
  all v is from_n = elim (cases_lt n v) [
    | inl above ↦ from.all v is (omega (arith, above))
    | inr other ↦ let same : v ≡ n = omega (arith, other, from_n) in absurd (none (subst (IsListed objects) same is))
  ]

-- no version is left from the bound on
none_from : (objects : List Object) (n : ℕ) → n ≡ 2 ^ 53 → AreFrom objects n []
none_from objects n is = record { rising = λ k below. absurd (omega (arith, below)); only = λ k d below. absurd (omega (arith, below)); all = λ v listed from_n. absurd (omega (arith, listed.0.1, from_n, is)) }

listed_from : (objects : List Object) (gap n : ℕ) → n + gap ≡ 2 ^ 53 → (versions : List ℕ) × AreFrom objects n versions
listed_from objects zero n is = ([], none_from objects n (omega (arith, is)))
listed_from objects (suc gap) n is =
    let later = listed_from objects gap (n + 1) (omega (arith, is)) in
    elim (is_listed objects n (omega (arith, is))) [
      | inl listed ↦ (n ∷ later.0, with_first objects n later.0 listed later.1)
      | inr none ↦ (later.0, without_first objects n later.0 none later.1)
    ]

are_listed : (objects : List Object) (versions : List ℕ) → AreFrom objects 0 versions → AreListed objects versions
are_listed objects versions from = record { rising = from.rising; only = λ k d below. (from.only k d below).0; all = λ v listed. from.all v listed (omega arith) }

listed : (objects : List Object) → (versions : List ℕ) × AreListed objects versions
listed objects = let all = listed_from objects (2 ^ 53) 0 refl in (all.0, are_listed objects all.0 all.1)

-- a dataset with no table
pub bare_dataset : (objects : List Object) → (d : Dataset) × AgreesWith objects d
bare_dataset objects = let all = listed objects in (record { listed = all.0; stands = [] }, record { listed = all.1; stands = λ k p below. absurd (omega (arith, below)) })

-- a dataset with the table of one version
pub dataset_with : (objects : List Object) (d : Dataset) (version : ℕ) (t : Table) → AgreesWith objects d → StandsFor objects version t → AgreesWith objects (record { listed = d.listed; stands = (version, t) ∷ [] })
dataset_with objects d version t agrees stands = record { listed = agrees.listed; stands = one } where
  one : All (λ (p : ℕ × Table). StandsFor objects p.0 p.1) ((version, t) ∷ [])
  one zero p below = stands
  one (suc k) p below = absurd (omega (arith, below))

-- and one with those of two
pub dataset_with_both : (objects : List Object) (d : Dataset) (v w : ℕ) (t u : Table) → AgreesWith objects d → StandsFor objects v t → StandsFor objects w u → AgreesWith objects (record { listed = d.listed; stands = (v, t) ∷ ((w, u) ∷ []) })
dataset_with_both objects d v w t u agrees first second = record { listed = agrees.listed; stands = both } where
  both : All (λ (p : ℕ × Table). StandsFor objects p.0 p.1) ((v, t) ∷ ((w, u) ∷ []))
  both zero p below = first
  both (suc zero) p below = second
  both (suc (suc k)) p below = absurd (omega (arith, below))
