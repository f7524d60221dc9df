-- Rising numbers, by neighbours and by their places.
use Rattle.std.proofs.Common.{◌≡◌, ℕ, zero, suc, ◌+◌, ◌-◌, ◌<◌, ◌≤◌, ◌^◌, ◌⊎◌, inl, inr, List, length, get_or, refl, ap, arith, nat_eq, nat_cmp}
use Rattle.std.specs.List.{IsDistinct}
use Rattle.std.specs.List.Sorted.{IsPermutation, IsSorted, IsStrictlyIncreasing}
use Rattle.std.proofs.lemmas.Bool.{cases_lt}
use Rattle.std.proofs.lemmas.Bool.Decides.{nat_tests}
use Rattle.std.proofs.lemmas.List.Sorted.{IsNonDecreasingBy-from_sort}
use Rattle.std.proofs.lemmas.Map.Keys.{IsStrictlyIncreasing-from_distinct, IsDistinct-IsPermutation}
use Rattle.lan_arrow.specs.Kept.{IsSpread}

spread_by : (xs : List ℕ) → IsStrictlyIncreasing xs → (i d j : ℕ) → j ≡ i + d → j < length xs → get_or xs i 0 + d ≤ get_or xs j 0
spread_by xs up i zero j e l =
    let same : get_or xs j 0 ≡ get_or xs i 0 = ap (λ (k : ℕ). get_or xs k 0) (omega arith) in
    omega arith
spread_by xs up i (suc d) j e l =
    let before : get_or xs i 0 + d ≤ get_or xs (i + d) 0 = spread_by xs up i d (i + d) refl (omega arith) in
    let next : get_or xs (i + d) 0 < get_or xs (i + d + 1) 0 = up (i + d) (omega arith) in
    let same : get_or xs j 0 ≡ get_or xs (i + d + 1) 0 = ap (λ (k : ℕ). get_or xs k 0) (omega arith) in
    omega arith

pub spread : (xs : List ℕ) → IsStrictlyIncreasing xs → IsSpread xs
spread xs up i j h l =
    let far : get_or xs i 0 + (j - i) ≤ get_or xs j 0 = spread_by xs up i (j - i) j (omega arith) l in
    omega arith

flips : (x y : ℕ) → nat_eq x y ≡ nat_eq y x
flips x y = grind (arith, nat_tests)

-- distinct numbers rise after a sort
pub rising_from_sort : (xs ys : List ℕ) → IsDistinct nat_eq xs → IsPermutation xs ys → IsSorted nat_cmp ys → IsStrictlyIncreasing ys
rising_from_sort xs ys apart moved sorted =
    IsStrictlyIncreasing-from_distinct ys (IsNonDecreasingBy-from_sort (λ (x : ℕ). x) ys sorted)
    (IsDistinct-IsPermutation nat_eq flips xs ys moved apart)

few_by : (xs : List ℕ) → IsStrictlyIncreasing xs → ((i : ℕ) → i < length xs → get_or xs i 0 < 2 ^ 32)
    → (0 < length xs) ⊎ (length xs ≤ 0) → length xs ≤ 2 ^ 32
few_by xs up small (inr none) = omega arith
few_by xs up small (inl some) =
    let apart = spread xs up 0 (length xs - 1) (omega arith) (omega arith) in
    let top = small (length xs - 1) (omega arith) in
    omega arith

-- of rising numbers of 32 bits there are at most 2^32
pub few : (xs : List ℕ) → IsStrictlyIncreasing xs → ((i : ℕ) → i < length xs → get_or xs i 0 < 2 ^ 32) → length xs ≤ 2 ^ 32
few xs up small = few_by xs up small (cases_lt 0 (length xs))
