-- Offsets with their sizes, one further.
use Rattle.std.proofs.Common.{◌≡◌, ℕ, ◌+◌, ◌<◌, ◌≤◌, List, [], ◌∷◌, length, drop, get_or, min, refl, ap, ◌∙◌, arith, inl, inr}
use Rattle.std.proofs.lemmas.Bool.{cases_lt}
use Rattle.std.proofs.lemmas.List.{drop_more, drop_all}
use Rattle.lan_meta.specs.PageRules.{ranges_of}

pub ranges_more : (xs ys : List ℕ) (i : ℕ) → i < length xs → i < length ys → ranges_of (drop i xs) (drop i ys) ≡ record { at = get_or xs i 0; len = get_or ys i 0 } ∷ ranges_of (drop (i + 1) xs) (drop (i + 1) ys)
ranges_more xs ys i p q =
    ap (λ (us : List ℕ). ranges_of us (drop i ys)) (drop_more xs i 0 p) ∙ ap (λ (vs : List ℕ). ranges_of (get_or xs i 0 ∷ drop (i + 1) xs) vs) (drop_more ys i 0 q)

none_right : (us : List ℕ) → ranges_of us [] ≡ []
none_right [] = refl
none_right (u ∷ us) = refl

none_left : (vs : List ℕ) → ranges_of [] vs ≡ []
none_left [] = refl
none_left (v ∷ vs) = refl

pub ranges_done : (xs ys : List ℕ) (n : ℕ) → min (length xs) (length ys) ≤ n → ranges_of (drop n xs) (drop n ys) ≡ []
ranges_done xs ys n h = elim (cases_lt n (length xs)) [
  | inl more ↦ ap (ranges_of (drop n xs)) (drop_all n ys (omega (arith, h, more))) ∙ none_right (drop n xs)
  | inr end ↦ ap (λ (us : List ℕ). ranges_of us (drop n ys)) (drop_all n xs end) ∙ none_left (drop n ys)
]
