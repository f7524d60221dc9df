-- The greatest fragment id, fragment by fragment, and of a fresh one.
use Rattle.std.proofs.Common.{◌≡◌, refl, sym, ◌∙◌, ap, subst, ℕ, suc, ◌+◌, ◌<◌, ◌≤◌, max, List, [], ◌∷◌, map, drop, drop-cons, add-one, length, get_or, arith, append-nil}
use Rattle.std.specs.Prelude.{Option, Some, None, unwrap_or}
use Rattle.std.proofs.lemmas.List.{drop_all}
use Rattle.lan_fresh.specs.Fresh.{greatest_of, above, with_greatest, fresh_fragment}
use Rattle.lan_manifest.specs.Manifests.{PlainManifest}
use Rattle.lan_manifest.specs.declared.manifest.Fragment.{Fragment}
use Rattle.lan_commit.specs.Greatest.{greater, ids_of, greatest_written}

next_known : (known : Option ℕ) (id : ℕ) (ids : List ℕ) → greatest_of (with_greatest known (id ∷ ids)) ≡ greatest_of (with_greatest (Some (greater known id)) ids)
next_known None id ids = refl
next_known (Some n) id ids = ap (λ k. Some k) (omega arith)

-- one fragment more
pub known_more : (fs : List Fragment) (i : ℕ) (f : Fragment) (whole known : Option ℕ) → i < length fs → f ≡ get_or fs i f → whole ≡ greatest_of (with_greatest known (map (λ f. f.id) (drop i fs)))
    → whole ≡ greatest_of (with_greatest (Some (greater known f.id)) (map (λ f. f.id) (drop (i + 1) fs)))
known_more fs i f whole known within at is =
    let behind : drop i fs ≡ f ∷ drop (i + 1) fs = subst (λ j. drop i fs ≡ f ∷ drop j fs) (sym (add-one i)) (drop-cons fs i f within ∙ ap (λ (g : Fragment). g ∷ drop (suc i) fs) (sym at)) in
    is ∙ ap (λ (l : List Fragment). greatest_of (with_greatest known (map (λ f. f.id) l))) behind ∙ next_known known f.id (map (λ f. f.id) (drop (i + 1) fs))

alone : (known : Option ℕ) → greatest_of (with_greatest known []) ≡ known
alone None = refl
alone (Some n) = ap (λ k. Some k) (omega arith)

-- all fragments
pub known_done : (m : PlainManifest) (i : ℕ) (known : Option ℕ) → length m.fragments ≤ i → greatest_of (ids_of m) ≡ greatest_of (with_greatest known (map (λ f. f.id) (drop i m.fragments))) → known ≡ greatest_written m None []
known_done m i known past is =
    sym (is ∙ ap (λ (l : List Fragment). greatest_of (with_greatest known (map (λ f. f.id) l))) (drop_all i m.fragments past) ∙ alone known) ∙ ap greatest_of (sym (append-nil (ids_of m)))

-- a fresh id is the greatest
pub fresh_is_greatest : (m : PlainManifest) → greatest_written m None (fresh_fragment m ∷ []) ≡ Some (fresh_fragment m)
fresh_is_greatest m = ap (λ l. greatest_of (fresh_fragment m ∷ l)) (append-nil (ids_of m)) ∙ go (greatest_of (ids_of m)) where
  go : (known : Option ℕ) → Some (max (above known 0) (unwrap_or known 0)) ≡ Some (above known 0)
  go None = ap (λ k. Some k) (omega arith)
  go (Some n) = ap (λ k. Some k) (omega arith)
