-- The greatest fragment id of two manifests.
use Rattle.std.proofs.Common.{◌≡◌, refl, sym, ◌∙◌, ap, ap₂, ℕ, max, List, [], ◌∷◌, ◌++◌, arith, append-nil}
use Rattle.std.specs.Prelude.{Option, Some, None, unwrap_or}
use Rattle.lan_fresh.specs.Fresh.{greatest_of}
use Rattle.lan_manifest.specs.Manifests.{PlainManifest}
use Rattle.lan_commit.specs.Greatest.{greater, greatest_written, ids_of}

-- the greater of two that may be none
abbrev pub either_greater : Option ℕ → Option ℕ → Option ℕ
either_greater known None = known
either_greater known (Some id) = Some (greater known id)

joined : (xs ys : List ℕ) → greatest_of (xs ++ ys) ≡ either_greater (greatest_of xs) (greatest_of ys)
joined [] ys = alone (greatest_of ys) where
  alone : (known : Option ℕ) → known ≡ either_greater None known
  alone None = refl
  alone (Some id) = refl
joined (x ∷ xs) ys = ap (λ (known : Option ℕ). Some (max x (unwrap_or known 0))) (joined xs ys) ∙ beside (greatest_of xs) (greatest_of ys) where
  beside : (a b : Option ℕ) → Some (max x (unwrap_or (either_greater a b) 0)) ≡ either_greater (Some (max x (unwrap_or a 0))) b
  beside a None = refl
  beside None (Some id) = ap (λ (k : ℕ). Some k) (omega arith)
  beside (Some n) (Some id) = ap (λ (k : ℕ). Some k) (omega arith)

pub greatest_both : (newest old : PlainManifest) (a b : Option ℕ) → a ≡ greatest_written newest None [] → b ≡ greatest_written old None [] → either_greater a b ≡ greatest_written newest (Some old) []
greatest_both newest old a b is are =
    ap₂ either_greater (is ∙ ap greatest_of (append-nil (ids_of newest))) (are ∙ ap greatest_of (append-nil (ids_of old))) ∙ sym (joined (ids_of newest) (ids_of old))
