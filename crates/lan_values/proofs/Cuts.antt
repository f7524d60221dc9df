-- Bytes cut into values.
use Rattle.std.proofs.Common.{◌≡◌, ℕ, suc, ◌+◌, ◌≤◌, List, [], ◌∷◌, ◌++◌, length, map, take, drop, sum, refl, ap, ap₂, sym, ◌∙◌, arith, length-drop}
use Rattle.std.proofs.lemmas.List.{take-append-le, drop-append-le, length-take-le, take-append-drop, take_all, nil_from_length}
use Rattle.std.proofs.lemmas.List.Sums.{sum_by-cons}
use Rattle.std.specs.List.{concat}
use Rattle.lan_values.specs.Cut.{cut_by}

pub sum-cons : (n : ℕ) (ns : List ℕ) → sum (n ∷ ns) ≡ n + sum ns
sum-cons n ns = sum_by-cons (λ (x : ℕ). x) n ns

pub cut_nil : (all : List ℕ) → cut_by [] all ≡ []
unfolding cut_by
cut_nil all = refl

pub cut_push : (ns all value : List ℕ) (n : ℕ) → n ≡ length value → sum ns ≡ length all → cut_by (ns ++ n ∷ []) (all ++ value) ≡ cut_by ns all ++ value ∷ []
unfolding cut_by
cut_push [] all value n e h =
    let none : all ≡ [] = nil_from_length all (omega arith) in
    let whole : take n value ≡ value = take_all n value (omega arith) in
    ap (λ (bs : List ℕ). take n (bs ++ value) ∷ []) none ∙ ap (λ (bs : List ℕ). bs ∷ []) whole
cut_push (m ∷ ns) all value n e h =
    let le : m ≤ length all = omega (arith, sum-cons m ns) in
    let rest : sum ns ≡ length (drop m all) = omega (arith, length-drop m all, sum-cons m ns) in
    ap₂ (λ (x : List ℕ) (xs : List (List ℕ)). x ∷ xs) (take-append-le m all value le) (ap (cut_by (ns ++ n ∷ [])) (drop-append-le m all value le) ∙ cut_push ns (drop m all) value n e rest)

pub lengths_cut : (ns all : List ℕ) → sum ns ≡ length all → map (λ (v : List ℕ). length v) (cut_by ns all) ≡ ns
unfolding cut_by
lengths_cut [] all h = refl
lengths_cut (m ∷ ns) all h =
    let le : m ≤ length all = omega (arith, sum-cons m ns) in
    let rest : sum ns ≡ length (drop m all) = omega (arith, length-drop m all, sum-cons m ns) in
    ap₂ (λ (x : ℕ) (xs : List ℕ). x ∷ xs) (length-take-le m all le) (lengths_cut ns (drop m all) rest)

pub concat_cut : (ns all : List ℕ) → sum ns ≡ length all → concat (cut_by ns all) ≡ all
unfolding cut_by
concat_cut [] all h = sym (nil_from_length all (omega arith))
concat_cut (m ∷ ns) all h =
    let rest : sum ns ≡ length (drop m all) = omega (arith, length-drop m all, sum-cons m ns) in
    ap (λ (bs : List ℕ). take m all ++ bs) (concat_cut ns (drop m all) rest) ∙ take-append-drop m all

pub count_cut : (ns all : List ℕ) → length (cut_by ns all) ≡ length ns
unfolding cut_by
count_cut [] all = refl
count_cut (m ∷ ns) all = ap suc (count_cut ns (drop m all))

-- a value is added at the end
pub pushed : (ns now all bytes value : List ℕ) (whole : List (List ℕ)) → cut_by ns all ≡ whole → sum ns ≡ length all → now ≡ ns ++ length value ∷ [] → bytes ≡ all ++ value → cut_by now bytes ≡ whole ++ value ∷ []
pushed ns now all bytes value whole is h e f =
    ap₂ cut_by e f ∙ cut_push ns all value (length value) refl h ∙ ap (λ (vs : List (List ℕ)). vs ++ value ∷ []) is
