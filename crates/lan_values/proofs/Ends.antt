-- The offsets of a buffer that is built, one more at a time.
use Rattle.std.proofs.Common.{◌≡◌, ℕ, ◌+◌, ◌*◌, ◌<◌, ◌≤◌, List, [], ◌∷◌, ◌++◌, length, drop, get_or, sum, refl, ap, ap₂, sym, ◌∙◌, append_assoc}
use Rattle.std.proofs.lemmas.List.{append-nil, at_drop_more, at_drop_all}
use Rattle.std.specs.List.{concat}
use Rattle.lan_levels.specs.BuiltValues.{four_bytes, ends_bytes, variable_bytes}
use Rattle.lan_values.specs.Cut.{cut_by}
use Rattle.lan_values.proofs.Cuts.{sum-cons, lengths_cut, concat_cut, count_cut}

pub ends_step : (end n : ℕ) (ns : List ℕ) → ends_bytes end (n ∷ ns) ≡ four_bytes (end + n) ++ ends_bytes (end + n) ns
unfolding ends_bytes
ends_step end n ns = refl

ends_none : (end : ℕ) → ends_bytes end [] ≡ []
unfolding ends_bytes
ends_none end = refl

pub sum_more : (ns : List ℕ) (i : ℕ) → i < length ns → sum (drop i ns) ≡ get_or ns i 0 + sum (drop (i + 1) ns)
sum_more ns i lt = at_drop_more sum ns i 0 lt ∙ sum-cons (get_or ns i 0) (drop (i + 1) ns)

pub ends_more : (end i : ℕ) (ns all now whole : List ℕ) → i < length ns → now ≡ all ++ four_bytes (end + get_or ns i 0) → all ++ ends_bytes end (drop i ns) ≡ whole
    → now ++ ends_bytes (end + get_or ns i 0) (drop (i + 1) ns) ≡ whole
ends_more end i ns all now whole lt e h =
    let n = get_or ns i 0 in
    let rest = drop (i + 1) ns in
    ap (λ (bs : List ℕ). bs ++ ends_bytes (end + n) rest) e
    ∙ append_assoc all (four_bytes (end + n)) (ends_bytes (end + n) rest)
    ∙ ap (λ (bs : List ℕ). all ++ bs) (sym (at_drop_more (ends_bytes end) ns i 0 lt ∙ ends_step end n rest))
    ∙ h

pub all_ends : (end i : ℕ) (ns bytes all now : List ℕ) → sum ns ≡ length bytes → length ns ≤ i
    → all ++ ends_bytes end (drop i ns) ≡ four_bytes (4 * (length ns + 1)) ++ ends_bytes (4 * (length ns + 1)) ns → now ≡ all ++ bytes → now ≡ variable_bytes (cut_by ns bytes)
all_ends end i ns bytes all now h le e f =
    let values = cut_by ns bytes in
    let first : 4 * (length ns + 1) ≡ 4 * (length values + 1) = ap (λ (k : ℕ). 4 * (k + 1)) (sym (count_cut ns bytes)) in
    let whole : all ≡ four_bytes (4 * (length ns + 1)) ++ ends_bytes (4 * (length ns + 1)) ns =
    sym (append-nil all) ∙ ap (λ (bs : List ℕ). all ++ bs) (sym (at_drop_all (ends_bytes end) ns i le ∙ ends_none end)) ∙ e in
    f
    ∙ ap₂ (λ (xs ys : List ℕ). xs ++ ys) whole (sym (concat_cut ns bytes h))
    ∙ ap₂ (λ (k : ℕ) (ms : List ℕ). four_bytes k ++ ends_bytes k ms ++ concat values) first (sym (lengths_cut ns bytes h))
