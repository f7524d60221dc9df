-- One above the greatest of some numbers, number by number.
use Rattle.std.proofs.Common.{◌≡◌, sym, ◌∙◌, ap, subst, ℕ, suc, ◌+◌, ◌<◌, ◌≤◌, max, List, ◌∷◌, map, drop, drop-cons, add-one, length, get_or, arith}
use Rattle.std.specs.Prelude.{Option, Some, None, unwrap_or, filter_map}
use Rattle.std.specs.List.{cons_option}
use Rattle.std.proofs.lemmas.List.{drop_all}
use Rattle.lan_fresh.specs.Fresh.{greatest_of, above, with_greatest}

-- the items behind place i are the item there, and those behind it
behind : {X : Type 0} (xs : List X) (i : ℕ) (x : X) → i < length xs → x ≡ get_or xs i x → drop i xs ≡ x ∷ drop (i + 1) xs
behind xs i x within at = subst (λ j. drop i xs ≡ x ∷ drop j xs) (sym (add-one i)) (drop-cons xs i x within ∙ ap (λ y. y ∷ drop (suc i) xs) (sym at))

pub above_with : (found : Option ℕ) (ns : List ℕ) (first : ℕ) → first ≤ 1 → above (greatest_of (with_greatest found ns)) first ≡ max (above found first) (above (greatest_of ns) first)
above_with None ns first low = elim (greatest_of ns) as (λ g. above g first ≡ max first (above g first)) [ None ↦ omega arith | Some m ↦ omega arith ]
above_with (Some n) ns first low = elim (greatest_of ns) as (λ g. above (Some (max n (unwrap_or g 0))) first ≡ max (n + 1) (above g first)) [ None ↦ omega arith | Some m ↦ omega arith ]

pub above_found : {X : Type 0} (of : X → Option ℕ) (x : X) (xs : List X) (first : ℕ) → first ≤ 1
    → above (greatest_of (filter_map of (x ∷ xs))) first ≡ max (above (of x) first) (above (greatest_of (filter_map of xs)) first)
above_found of x xs first low = elim (of x) as (λ o. above (greatest_of (cons_option o (filter_map of xs))) first ≡ max (above o first) (above (greatest_of (filter_map of xs)) first)) [
  | None ↦ above_with None (filter_map of xs) first low
  | Some n ↦ above_with (Some n) (filter_map of xs) first low
]

-- an item of a loop over numbers, and over what may give numbers
pub number_more : {X : Type 0} (of : X → ℕ) (xs : List X) (i : ℕ) (x : X) (whole fresh : ℕ) → i < length xs → x ≡ get_or xs i x
    → whole ≡ max fresh (above (greatest_of (map of (drop i xs))) 0) → whole ≡ max (max fresh (of x + 1)) (above (greatest_of (map of (drop (i + 1) xs))) 0)
number_more of xs i x whole fresh within at is =
    let step = above_with (Some (of x)) (map of (drop (i + 1) xs)) 0 (omega arith) in
    let now = subst (λ l. whole ≡ max fresh (above (greatest_of (map of l)) 0)) (behind xs i x within at) is in
    omega (arith, step, now)

pub found_more : {X : Type 0} (of : X → Option ℕ) (xs : List X) (i : ℕ) (x : X) (whole fresh : ℕ) → i < length xs → x ≡ get_or xs i x
    → whole ≡ max fresh (above (greatest_of (filter_map of (drop i xs))) 1) → whole ≡ max (max fresh (above (of x) 1)) (above (greatest_of (filter_map of (drop (i + 1) xs))) 1)
found_more of xs i x whole fresh within at is =
    let step = above_found of x (drop (i + 1) xs) 1 (omega arith) in
    let now = subst (λ l. whole ≡ max fresh (above (greatest_of (filter_map of l)) 1)) (behind xs i x within at) is in
    omega (arith, step, now)

pub numbers_done : {X : Type 0} (of : X → ℕ) (xs : List X) (i whole fresh : ℕ) → length xs ≤ i → whole ≡ max fresh (above (greatest_of (map of (drop i xs))) 0) → fresh ≡ whole
numbers_done of xs i whole fresh past is =
    let now = subst (λ l. whole ≡ max fresh (above (greatest_of (map of l)) 0)) (drop_all i xs past) is in
    omega (arith, now)

pub found_done : {X : Type 0} (of : X → Option ℕ) (xs : List X) (i whole fresh : ℕ) → length xs ≤ i → 1 ≤ fresh → whole ≡ max fresh (above (greatest_of (filter_map of (drop i xs))) 1) → fresh ≡ whole
found_done of xs i whole fresh past some is =
    let now = subst (λ l. whole ≡ max fresh (above (greatest_of (filter_map of l)) 1)) (drop_all i xs past) is in
    omega (arith, now)

pub above_low : (ns : List ℕ) → 1 ≤ above (greatest_of ns) 1
above_low ns = elim (greatest_of ns) as (λ g. 1 ≤ above g 1) [ None ↦ omega arith | Some n ↦ omega arith ]
