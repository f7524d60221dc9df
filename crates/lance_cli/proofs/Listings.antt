-- The versions that objects list, rising, are one list.
use Rattle.std.proofs.Common.{◌≡◌, inl, inr, refl, sym, ◌∙◌, ap, subst, ℕ, zero, suc, ◌+◌, ◌<◌, List, [], ◌∷◌, length, get_or, arith}
use Rattle.std.specs.Prelude.{Contains, ◌⊎◌}
use Rattle.std.specs.List.Sorted.{IsStrictlyIncreasing}
use Rattle.lan_store.specs.declared.name.Object.{Object}
use Rattle.lan_manifest.specs.Versions.{IsListed, AreListed}

rising_behind : (x : ℕ) (xs : List ℕ) → IsStrictlyIncreasing (x ∷ xs) → IsStrictlyIncreasing xs
rising_behind x xs rising = λ k below. (
    let next : suc k + 1 ≡ suc (k + 1) = omega arith in
    subst (λ i. get_or xs k 0 < get_or (x ∷ xs) i 0) next (rising (suc k) (omega (arith, below)))
    )

above : (x : ℕ) (xs : List ℕ) (k d : ℕ) → IsStrictlyIncreasing (x ∷ xs) → k < length xs → x < get_or xs k d
above x [] k d rising below = absurd (omega (arith, below))
above x (y ∷ ys) zero d rising below = rising 0 (omega (arith, below))
above x (y ∷ ys) (suc k) d rising below =
    let first : x < y = rising 0 (omega arith) in
    let later = above y ys k d (rising_behind x (y ∷ ys) rising) (omega (arith, below)) in
    omega (arith, first, later)

-- the first is the least
least : (x : ℕ) (xs : List ℕ) (v : ℕ) → IsStrictlyIncreasing (x ∷ xs) → Contains (x ∷ xs) v → (v ≡ x) ⊎ ((x < v) × Contains xs v)
least x xs v rising (zero, below, is) = inl (sym is)
least x xs v rising (suc k, below, is) =
    let within : k < length xs = omega (arith, below) in
    inr (subst (λ w. x < w) is (above x xs k v rising within), (k, within, is))

here : (x : ℕ) (xs : List ℕ) → Contains (x ∷ xs) x
here x xs = (0, omega arith, refl)

behind : (x : ℕ) (xs : List ℕ) (v : ℕ) → Contains xs v → Contains (x ∷ xs) v
behind x xs v (k, below, is) = (suc k, omega (arith, below), is)

one_rising : (xs ys : List ℕ) → IsStrictlyIncreasing xs → IsStrictlyIncreasing ys → ((v : ℕ) → Contains xs v → Contains ys v) → ((v : ℕ) → Contains ys v → Contains xs v) → xs ≡ ys
one_rising [] [] a b there back = refl
one_rising [] (y ∷ ys) a b there back = let none = back y (here y ys) in absurd (omega (arith, none.1))
one_rising (x ∷ xs) [] a b there back = let none = there x (here x xs) in absurd (omega (arith, none.1))
one_rising (x ∷ xs) (y ∷ ys) a b there back = ap (λ z. z ∷ xs) same ∙ ap (λ zs. y ∷ zs) (one_rising xs ys (rising_behind x xs a) (rising_behind y ys b) there_behind back_behind) where
  same : x ≡ y
  same = elim (least y ys x b (there x (here x xs))) [
    | inl is ↦ is
    | inr past ↦ elim (least x xs y a (back y (here y ys))) [
      | inl is ↦ sym is
      | inr also ↦ absurd (omega (arith, past.0, also.0))
    ]
  ]

  there_behind : (v : ℕ) → Contains xs v → Contains ys v
  there_behind v is = elim (least y ys v b (there v (behind x xs v is))) [
    | inl first ↦ let low : x < v = subst (λ w. x < w) is.2 (above x xs is.0 v a is.1) in absurd (omega (arith, low, first, same))
    | inr past ↦ past.1
  ]

  back_behind : (v : ℕ) → Contains ys v → Contains xs v
  back_behind v is = elim (least x xs v a (back v (behind y ys v is))) [
    | inl first ↦ let low : y < v = subst (λ w. y < w) is.2 (above y ys is.0 v b is.1) in absurd (omega (arith, low, first, same))
    | inr past ↦ past.1
  ]

-- a version that is in a listing is listed
is_listed : (old : List Object) (xs : List ℕ) (v : ℕ) → AreListed old xs → Contains xs v → IsListed old v
is_listed old xs v a (k, below, is) = subst (IsListed old) is (a.only k v below)

pub one_listing : (old : List Object) (xs ys : List ℕ) → AreListed old xs → AreListed old ys → xs ≡ ys
one_listing old xs ys a b = one_rising xs ys a.rising b.rising (λ v is. b.all v (is_listed old xs v a is)) (λ v is. a.all v (is_listed old ys v b is))
