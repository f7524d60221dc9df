-- Parts of a list of slots.
use Rattle.std.proofs.Common.{◌≡◌, ◌∙◌, ℕ, ◌+◌, ◌-◌, ◌<◌, ◌≤◌, List, [], ◌∷◌, ◌++◌, length, take, drop, get_or, All, ap, subst, sym, arith}
use Rattle.std.specs.Prelude.{slice_get, Some}
use Rattle.std.proofs.lemmas.List.{take_more, drop_more, get_or-drop, get_or-take, length-drop, length-take-le, drop-drop, take-take, drop-take, take-append-drop}
use Rattle.std.proofs.lemmas.Option.{get_or_from_slice_get, slice_get_read, slice_get_within}
use Rattle.lan_levels.specs.PlainSlots.{PlainSlot, range}

pub range_none : (xs : List PlainSlot) (i : ℕ) → range xs i i ≡ []
range_none xs i = let e : i - i ≡ 0 = omega arith in ap (λ (n : ℕ). take n (drop i xs)) e

pub range_length : (xs : List PlainSlot) (from to : ℕ) → from ≤ to → to ≤ length xs → length (range xs from to) ≡ to - from
range_length xs from to le end = length-take-le (to - from) (drop from xs) (omega (arith, length-drop from xs))

pub range_more : (xs : List PlainSlot) (from i : ℕ) (s : PlainSlot) → from ≤ i → slice_get xs i ≡ Some s → range xs from (i + 1) ≡ range xs from i ++ s ∷ []
range_more xs from i s le e =
    let k = i - from in
    let lt = slice_get_within xs i s e in
    let place : from + k ≡ i = omega arith in
    let count : i + 1 - from ≡ k + 1 = omega arith in
    let is : get_or (drop from xs) k s ≡ s = get_or-drop from xs k s ∙ ap (λ (j : ℕ). get_or xs j s) place ∙ get_or_from_slice_get xs i s s e in
    ap (λ (n : ℕ). take n (drop from xs)) count
    ∙ take_more (drop from xs) k s (omega (arith, length-drop from xs))
    ∙ ap (λ (x : PlainSlot). take k (drop from xs) ++ x ∷ []) is

pub take_range : (xs : List PlainSlot) (from to n : ℕ) → from + n ≤ to → take n (range xs from to) ≡ range xs from (from + n)
take_range xs from to n le =
    let e : n ≡ from + n - from = omega arith in
    take-take n (to - from) (drop from xs) (omega arith) ∙ ap (λ (k : ℕ). take k (drop from xs)) e

pub drop_range : (xs : List PlainSlot) (from to n : ℕ) → from + n ≤ to → drop n (range xs from to) ≡ range xs (from + n) to
drop_range xs from to n le =
    let m = to - (from + n) in
    let e : to - from ≡ n + m = omega arith in
    ap (λ (k : ℕ). drop n (take k (drop from xs))) e ∙ drop-take n m (drop from xs) ∙ ap (take m) (drop-drop n from xs)

pub range_join : (xs : List PlainSlot) (from mid to : ℕ) → from ≤ mid → mid ≤ to → range xs from mid ++ range xs mid to ≡ range xs from to
range_join xs from mid to a b =
    let n = mid - from in
    let e : from + n ≡ mid = omega arith in
    let front : take n (range xs from to) ≡ range xs from mid = take_range xs from to n (omega arith) ∙ ap (range xs from) e in
    let back : drop n (range xs from to) ≡ range xs mid to = drop_range xs from to n (omega arith) ∙ ap (λ (k : ℕ). range xs k to) e in
    ap (λ (ys : List PlainSlot). ys ++ range xs mid to) (sym front) ∙ ap (λ (ys : List PlainSlot). take n (range xs from to) ++ ys) (sym back) ∙ take-append-drop n (range xs from to)

range_at : (xs : List PlainSlot) (from to k : ℕ) (d : PlainSlot) → from + k < to → get_or (range xs from to) k d ≡ get_or xs (from + k) d
range_at xs from to k d lt = get_or-take (to - from) (drop from xs) k d (omega arith) ∙ get_or-drop from xs k d

pub slot_in_range : (xs : List PlainSlot) (from to k : ℕ) (s : PlainSlot) → from + k < to → to ≤ length xs → slice_get xs (from + k) ≡ Some s → slice_get (range xs from to) k ≡ Some s
slot_in_range xs from to k s lt end e =
    let count = range_length xs from to (omega arith) end in
    slice_get_read (range xs from to) (to - from) k s (sym count) (omega arith) (sym (range_at xs from to k s lt ∙ get_or_from_slice_get xs (from + k) s s e))

pub all_within : (P : PlainSlot → Type 0) (xs : List PlainSlot) (from to a b : ℕ) → from ≤ a → a ≤ b → b ≤ to → to ≤ length xs → All P (range xs from to) → All P (range xs a b)
all_within P xs from to a b le ab bt end h = λ k d less.
    let count = range_length xs a b ab (omega arith) in
    let all = range_length xs from to (omega arith) end in
    let j = a - from + k in
    let place : from + j ≡ a + k = omega arith in
    let is : get_or (range xs from to) j d ≡ get_or (range xs a b) k d = range_at xs from to j d (omega arith) ∙ ap (λ (i : ℕ). get_or xs i d) place ∙ sym (range_at xs a b k d (omega arith)) in
    subst P is (h j d (omega arith))

-- the slots up to the place behind the slot
pub take_next : (xs : List PlainSlot) (i : ℕ) (s : PlainSlot) → slice_get xs i ≡ Some s → take (i + 1) xs ≡ take i xs ++ s ∷ []
take_next xs i s e = take_more xs i s (slice_get_within xs i s e) ∙ ap (λ (x : PlainSlot). take i xs ++ x ∷ []) (get_or_from_slice_get xs i s s e)

-- the slots from the slot on
pub drop_here : (xs : List PlainSlot) (i : ℕ) (s : PlainSlot) → slice_get xs i ≡ Some s → drop i xs ≡ s ∷ drop (i + 1) xs
drop_here xs i s e = drop_more xs i s (slice_get_within xs i s e) ∙ ap (λ (x : PlainSlot). x ∷ drop (i + 1) xs) (get_or_from_slice_get xs i s s e)

pub holds_at : (P : PlainSlot → Type 0) (xs : List PlainSlot) (i : ℕ) (s : PlainSlot) → slice_get xs i ≡ Some s → All P xs → P s
holds_at P xs i s e h = subst P (get_or_from_slice_get xs i s s e) (h i s (slice_get_within xs i s e))
