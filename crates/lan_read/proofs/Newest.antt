-- The last of the listed versions is the newest.
use Rattle.std.proofs.Common.{◌≡◌, inl, inr, refl, ◌∙◌, ap, ℕ, ◌-◌, List, [], ◌∷◌, length, get_or, arith}
use Rattle.std.specs.Prelude.{Option, Some, None, slice_get}
use Rattle.std.proofs.lemmas.Bool.{cases_eq}
use Rattle.std.proofs.lemmas.Option.{slice_get-get_or}
use Rattle.std.proofs.lemmas.List.{get_or_default}
use Rattle.std.proofs.lemmas.Map.Keys.{sorted_from_strictly_increasing, below_from_sorted}
use Rattle.lan_store.specs.declared.name.Object.{Object}
use Rattle.lan_manifest.specs.Versions.{IsNewest, AreListed, NoneListed}
use Rattle.lan_read.specs.Newest.{IsNewestOf}

-- the last of the listed versions is the newest
pub newest_last : (all : List Object) (versions : List ℕ) (newest : Option ℕ) → AreListed all versions → newest ≡ slice_get versions (length versions - 1) → IsNewestOf all newest
newest_last all [] newest listed is = rw is (λ version v_listed. let found = listed.all version v_listed in omega (arith, found.1))
newest_last all (v ∷ versions) newest listed is =
    rw (is, slice_get-get_or (v ∷ versions) (length (v ∷ versions) - 1) 0 (omega arith)) (record {
      listed = listed.only (length (v ∷ versions) - 1) 0 (omega arith);
      newest = λ other o_listed.
          let found = listed.all other o_listed in
          let at : get_or (v ∷ versions) found.0 0 ≡ other = get_or_default (v ∷ versions) found.0 0 other found.1 ∙ found.2 in
          elim (cases_eq found.0 (length (v ∷ versions) - 1)) [
            | inl last ↦ omega (arith, at, ap (λ k. get_or (v ∷ versions) k 0) last)
            | inr before ↦ omega (arith, at, below_from_sorted (v ∷ versions) found.0 (length (v ∷ versions) - 1) 0 (sorted_from_strictly_increasing (v ∷ versions) listed.rising) (omega (arith, found.1)) (omega arith))
          ];
    })

-- the same of the last itself
pub last_is : (objects : List Object) (versions : List ℕ) → AreListed objects versions → IsNewestOf objects (slice_get versions (length versions - 1))
last_is objects versions listed = newest_last objects versions (slice_get versions (length versions - 1)) listed refl

-- the last of the listed versions is the newest one
pub newest_is : (old : List Object) (versions : List ℕ) (version : ℕ) → AreListed old versions → IsNewest old version → slice_get versions (length versions - 1) ≡ Some version
newest_is old versions version listed is = same (slice_get versions (length versions - 1)) (last_is old versions listed) where
  same : (o : Option ℕ) → IsNewestOf old o → o ≡ Some version
  same None none = absurd (none version is.listed)
  same (Some other) other_is = let e : other ≡ version = omega (arith, is.newest other other_is.listed, other_is.newest version is.listed) in ap (λ n. Some n) e

-- where none is listed there is no last
pub none_is : (old : List Object) (versions : List ℕ) → AreListed old versions → NoneListed old → versions ≡ []
none_is old [] listed none = refl
none_is old (v ∷ vs) listed none = absurd (none v (listed.only 0 v (omega arith)))
