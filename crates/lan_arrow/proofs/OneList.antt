-- Rising lists of the same numbers are one list.
use Rattle.std.proofs.Common.{◌≡◌, ℕ, zero, suc, ◌<◌, ◌≤◌, List, [], ◌∷◌, Bool, true, false, length, get_or, refl, ap, sym, ◌∙◌, arith, nat_eq, true≢false, subst}
use Rattle.std.proofs.lemmas.List.Sorted.{list_any-IsPermutation}
use Rattle.lan_arrow.specs.Kept.{is_in, IsSpread}
use Rattle.lan_arrow.specs.Deletions.{DeletionsOf, all_rows}
use Rattle.lan_arrow.proofs.Kept.{is_at, deleted_at}
use Rattle.lan_arrow.proofs.Spread.{spread}

-- the lists have the same numbers
abbrev Alike : List ℕ → List ℕ → Type 0
Alike xs ys = (x : ℕ) → is_in xs x ≡ is_in ys x

tail_spread : (x : ℕ) (xs : List ℕ) → IsSpread (x ∷ xs) → IsSpread xs
tail_spread x xs up i j h l = let g = up (suc i) (suc j) (omega arith) (omega arith) in omega arith

-- the first of a rising list is at most each of it
first_least : (x y : ℕ) (xs : List ℕ) → IsSpread (x ∷ xs) → is_in (x ∷ xs) y ≡ true → x ≤ y
first_least x y xs up t =
    let at = deleted_at (x ∷ xs) y t in
    let g = up 0 at.0 (omega arith) at.1 in
    omega (arith, at.2)

later_above : (x y : ℕ) (xs : List ℕ) → IsSpread (x ∷ xs) → is_in xs y ≡ true → x < y
later_above x y xs up t =
    let at = deleted_at xs y t in
    let g = up 0 (suc at.0) (omega arith) (let l = at.1 in omega arith) in
    omega (arith, at.2)

first_is : (x y : ℕ) (xs ys : List ℕ) → IsSpread (x ∷ xs) → IsSpread (y ∷ ys) → Alike (x ∷ xs) (y ∷ ys) → x ≡ y
first_is x y xs ys up down same =
    let a = first_least x y xs up (same y ∙ is_at (y ∷ ys) 0 y (omega arith) refl) in
    let b = first_least y x ys down (sym (same x) ∙ is_at (x ∷ xs) 0 x (omega arith) refl) in
    omega arith

-- one value under a test of which one side is known
both : (s t : Bool) → (s ≡ true → t ≡ true) → (t ≡ true → s ≡ true) → s ≡ t
both true t f g = sym (f refl)
both false true f g = g refl
both false false f g = refl

behind_at : (x z : ℕ) (ys : List ℕ) → x < z → (i : ℕ) → i < length (x ∷ ys) → get_or (x ∷ ys) i 0 ≡ z → is_in ys z ≡ true
behind_at x z ys l zero h e = absurd (omega arith)
behind_at x z ys l (suc i) h e = is_at ys i z (omega arith) e

behind : (x z : ℕ) (ys : List ℕ) → x < z → is_in (x ∷ ys) z ≡ true → is_in ys z ≡ true
behind x z ys l t = let at = deleted_at (x ∷ ys) z t in behind_at x z ys l at.0 at.1 at.2

in_tail : (x z : ℕ) (xs ys : List ℕ) → IsSpread (x ∷ xs) → Alike (x ∷ xs) (x ∷ ys) → is_in xs z ≡ true → is_in ys z ≡ true
in_tail x z xs ys up same t =
    let above = later_above x z xs up t in
    let at = deleted_at xs z t in
    let whole : is_in (x ∷ xs) z ≡ true = is_at (x ∷ xs) (suc at.0) z (let l = at.1 in omega arith) at.2 in
    behind x z ys above (sym (same z) ∙ whole)

alike_tail : (x : ℕ) (xs ys : List ℕ) → IsSpread (x ∷ xs) → IsSpread (x ∷ ys) → Alike (x ∷ xs) (x ∷ ys)
    → (Alike xs ys → xs ≡ ys) → x ∷ xs ≡ x ∷ ys
alike_tail x xs ys up down same rest =
    ap (λ (zs : List ℕ). x ∷ zs) (rest (λ (z : ℕ). both (is_in xs z) (is_in ys z) (in_tail x z xs ys up same)
    (in_tail x z ys xs down (λ (w : ℕ). sym (same w)))))

alike_next : (x y : ℕ) (xs ys : List ℕ) → IsSpread (x ∷ xs) → IsSpread (y ∷ ys) → Alike (x ∷ xs) (y ∷ ys)
    → (Alike xs ys → xs ≡ ys) → x ≡ y → x ∷ xs ≡ y ∷ ys
alike_next x y xs ys up down same rest e =
    subst (λ (z : ℕ). IsSpread (z ∷ ys) → Alike (x ∷ xs) (z ∷ ys) → x ∷ xs ≡ z ∷ ys) e
    (λ d s. alike_tail x xs ys up d s rest) down same

alike_is : (xs ys : List ℕ) → IsSpread xs → IsSpread ys → Alike xs ys → xs ≡ ys
alike_is [] [] up down same = refl
alike_is [] (y ∷ ys) up down same = absurd (true≢false (sym (is_at (y ∷ ys) 0 y (omega arith) refl) ∙ sym (same y)))
alike_is (x ∷ xs) [] up down same = absurd (true≢false (sym (is_at (x ∷ xs) 0 x (omega arith) refl) ∙ same x))
alike_is (x ∷ xs) (y ∷ ys) up down same =
    alike_next x y xs ys up down same (alike_is xs ys (tail_spread x xs up) (tail_spread y ys down)) (first_is x y xs ys up down same)

pub one_list : (file : List ℕ) (physical count : ℕ) (rows others : List ℕ) → DeletionsOf file physical count rows
    → DeletionsOf file physical count others → rows ≡ others
one_list file physical count rows others a b =
    alike_is rows others (spread rows a.rising) (spread others b.rising)
    (λ (x : ℕ). sym (list_any-IsPermutation (nat_eq x) (all_rows file) rows a.same) ∙ list_any-IsPermutation (nat_eq x) (all_rows file) others b.same)
