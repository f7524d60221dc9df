-- The length and the items of what successive numbers give.
use Rattle.std.proofs.Common.{◌≡◌, ℕ, zero, suc, ◌+◌, ◌*◌, ◌<◌, ◌≤◌, List, [], ◌∷◌, length, map, refl, ap, ap₂, sym, ◌∙◌, arith}
use Rattle.std.specs.Prelude.{slice_get, Some}
use Rattle.std.proofs.Math.Nat.{mul-le-mul_left, mul-suc}
use Rattle.lan_levels.specs.PlainSlots.{PlainPiece}
use Rattle.lan_levels.specs.Values.{Encoding, value_at, each_from, values_of, IsBuffer, ValuesOf}

length-each_from : (f : ℕ → PlainPiece) (i n : ℕ) → length (each_from f i n) ≡ n
unfolding each_from
length-each_from f i zero = refl
length-each_from f i (suc n) = ap suc (length-each_from f (i + 1) n)

slice_get-each_from : (f : ℕ → PlainPiece) (i n k : ℕ) → k < n → slice_get (each_from f i n) k ≡ Some (f (i + k))
unfolding each_from
slice_get-each_from f i zero k lt = absurd (omega arith)
slice_get-each_from f i (suc n) zero lt = let e : i ≡ i + 0 = omega arith in ap (λ (j : ℕ). Some (f j)) e
slice_get-each_from f i (suc n) (suc k) lt =
    let below : k < n = omega arith in
    let e : i + 1 + k ≡ i + suc k = omega arith in
    slice_get-each_from f (i + 1) n k below ∙ ap (λ (j : ℕ). Some (f j)) e

pub counted : (f : ℕ → PlainPiece) (n : ℕ) (xs : List PlainPiece) → each_from f 0 n ≡ xs → length xs ≡ n
counted f n xs e = sym (ap length e) ∙ length-each_from f 0 n

pub below_count : (f : ℕ → PlainPiece) (n i : ℕ) (xs : List PlainPiece) → each_from f 0 n ≡ xs → i < length xs → i < n
below_count f n i xs e lt = omega (arith, counted f n xs e)

pub got : (f : ℕ → PlainPiece) (n i : ℕ) (xs : List PlainPiece) → each_from f 0 n ≡ xs → i < length xs → slice_get xs i ≡ Some (f i)
got f n i xs e lt =
    let same : 0 + i ≡ i = omega arith in
    ap (λ (ys : List PlainPiece). slice_get ys i) (sym e)
    ∙ slice_get-each_from f 0 n i (below_count f n i xs e lt)
    ∙ ap (λ (j : ℕ). Some (f j)) same

-- a buffer's values
pub values_are : (encoding : Encoding) (n : ℕ) (all : List ℕ) → IsBuffer encoding n all → ValuesOf encoding n all (values_of encoding n all)
values_are encoding n all h = record { buffer = h; are = refl; count = length-each_from (value_at encoding all) 0 n }

pub flat_room : (width n i size : ℕ) → size ≡ width * n → i < n → width * i + width ≤ size
flat_room width n i size e lt = let le : width * suc i ≤ width * n = mul-le-mul_left width lt in omega (arith, mul-suc width i)

-- what successive numbers give, where each gives what the item of that number does
pub each_map : {X : Type 0} (g : X → PlainPiece) (f : ℕ → PlainPiece) (i : ℕ) (vs : List X) → ((k : ℕ) (v : X) → k < length vs → slice_get vs k ≡ Some v → f (i + k) ≡ g v) → map g vs ≡ each_from f i (length vs)
unfolding each_from
each_map g f i [] h = refl
each_map g f i (v ∷ vs) h =
    let e : i + 0 ≡ i = omega arith in
    let here : g v ≡ f i = sym (ap f (sym e) ∙ h 0 v (omega arith) refl) in
    ap₂ (λ (x : PlainPiece) (xs : List PlainPiece). x ∷ xs) here
    (each_map g f (i + 1) vs (λ k w lt q. let j : i + 1 + k ≡ i + suc k = omega arith in ap f j ∙ h (suc k) w (omega arith) q))
