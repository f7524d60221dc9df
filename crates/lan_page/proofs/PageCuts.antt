-- How slots are cut into pages.
use Rattle.std.proofs.Common.{◌≡◌, ◌==◌, ◌&&◌, ◌||◌, ℕ, zero, suc, ◌+◌, ◌-◌, ◌^◌, ◌<◌, ◌≤◌, Bool, true, false, cond, min, List, [], ◌∷◌, ◌++◌, Some, length, take, drop, get_or, slice_get, refl, ap, ap₂, sym, ◌∙◌, inl, inr, arith, length-drop}
use Rattle.std.specs.Prelude.{nat_le, sum_by, All}
use Rattle.std.specs.List.{list_all}
use Rattle.std.proofs.lemmas.Bool.{cases_lt, le-leb, lt-leb}
use Rattle.std.proofs.lemmas.List.{drop_more, drop_all, get_or-take, get_or-drop, length-take-le}
use Rattle.std.proofs.lemmas.List.Elements.{All-take, All-drop}
use Rattle.std.proofs.lemmas.List.Folds.{list_all-append, list_all_at}
use Rattle.std.proofs.lemmas.List.Sums.{sum_by_push}
use Rattle.lan_levels.specs.PagesWritten.{slot_size, is_full, pages_from, cut_pages}
use Rattle.lan_levels.specs.PlainSlots.{PlainSlot}
use Rattle.lan_levels.specs.ZipForm.{PlainForm}
use Rattle.lan_levels.specs.ZipSlots.{starts}
use Rattle.lan_levels.specs.ZipWritten.{begins}
use Rattle.lan_index.proofs.RowSlots.{starts_append}
use Rattle.lan_zip.proofs.Gathering.{range_more}

-- ---- parts of slots

-- the slots from one place to before another
abbrev pub range : List PlainSlot → ℕ → ℕ → List PlainSlot
range xs from to = take (to - from) (drop from xs)

found : (xs : List PlainSlot) (i : ℕ) (s d : PlainSlot) → slice_get xs i ≡ Some s → (i < length xs) × (get_or xs i d ≡ s)
found [] i s d e = absurd (cc)
found (x ∷ xs) zero s d e = (omega arith, cc)
found (x ∷ xs) (suc i) s d e = let h = found xs i s d e in let lt = h.0 in (omega arith, h.1)

pub drop_at_slot : (xs : List PlainSlot) (i : ℕ) (s : PlainSlot) → slice_get xs i ≡ Some s → drop i xs ≡ s ∷ drop (i + 1) xs
drop_at_slot xs i s e = let h = found xs i s s e in drop_more xs i s h.0 ∙ ap (λ (x : PlainSlot). x ∷ drop (i + 1) xs) h.1

pub none_ranged : (xs : List PlainSlot) (from : ℕ) → range xs from from ≡ []
none_ranged xs from = let e : from - from ≡ 0 = omega arith in ap (λ (n : ℕ). take n (drop from xs)) e

pub ranged_length : (xs : List PlainSlot) (from to : ℕ) → from ≤ to → to ≤ length xs → length (range xs from to) ≡ to - from
ranged_length xs from to le within = length-take-le (to - from) (drop from xs) (omega (arith, length-drop from xs))

pub ranged_slot : (xs : List PlainSlot) (from to i : ℕ) (s d : PlainSlot) → from ≤ i → i < to → to ≤ length xs → slice_get xs i ≡ Some s → get_or (range xs from to) (i - from) d ≡ s
ranged_slot xs from to i s d le lt within e =
    let place : from + (i - from) ≡ i = omega arith in
    get_or-take (to - from) (drop from xs) (i - from) d (omega arith) ∙ get_or-drop from xs (i - from) d ∙ ap (λ (k : ℕ). get_or xs k d) place ∙ (found xs i s d e).1

pub all_ranged : (P : PlainSlot → Type 0) (xs : List PlainSlot) (from to : ℕ) → All P xs → All P (range xs from to)
all_ranged P xs from to h = All-take P (to - from) (drop from xs) (All-drop P from xs h)

-- ---- slots that are all the same

pub all_more : (t : PlainSlot → Bool) (xs : List PlainSlot) (from i : ℕ) (s : PlainSlot) → from ≤ i → slice_get xs i ≡ Some s → list_all t (range xs from i) ≡ true → t s ≡ true → list_all t (range xs from (i + 1)) ≡ true
all_more t xs from i s le e h k =
    let both : (list_all t (range xs from i) && (t s && true)) ≡ true = ap₂ (λ (a b : Bool). a && (b && true)) h k in
    ap (list_all t) (range_more xs from i s le e) ∙ list_all-append t (range xs from i) (s ∷ []) ∙ both

pub all_stops : (t : PlainSlot → Bool) (xs : List PlainSlot) (from to i : ℕ) (s : PlainSlot) → from ≤ i → i < to → to ≤ length xs → slice_get xs i ≡ Some s → t s ≡ false → list_all t (range xs from to) ≡ false
all_stops t xs from to i s le lt within e k =
    let many = ranged_length xs from to (omega arith) within in
    list_all_at t (range xs from to) (i - from) s (omega arith) (ap t (ranged_slot xs from to i s s le lt within e) ∙ k)

-- ---- rows that begin

pub starts_more : (lists : ℕ) (xs : List PlainSlot) (from i : ℕ) (s : PlainSlot) → from ≤ i → slice_get xs i ≡ Some s → starts lists (range xs from (i + 1)) ≡ starts lists (range xs from i) + cond (s.rep == lists) 1 0
starts_more lists xs from i s le e =
    let one : starts lists (s ∷ []) ≡ cond (s.rep == lists) 1 0 = omega arith in
    ap (starts lists) (range_more xs from i s le e) ∙ starts_append lists (range xs from i) (s ∷ []) ∙ ap (λ (n : ℕ). starts lists (range xs from i) + n) one

-- ---- where pages end

never : (b : Bool) → (b && false) ≡ false
never true = refl
never false = refl

none_full : (f : PlainForm) → is_full f [] ≡ false
unfolding is_full
none_full f = refl

from_test : (f : PlainForm) (page : List PlainSlot) (s : PlainSlot) (rest : List PlainSlot) → pages_from f page (s ∷ rest) ≡ cond (begins f.lists s && is_full f page) (page ∷ pages_from f (s ∷ []) rest) (pages_from f (page ++ s ∷ []) rest)
unfolding pages_from
from_test f page s rest = refl

from_none : (f : PlainForm) (page : List PlainSlot) → pages_from f page [] ≡ page ∷ []
unfolding pages_from
from_none f page = refl

pub cut_more : (f : PlainForm) (page : List PlainSlot) (s : PlainSlot) (rest : List PlainSlot) → (begins f.lists s && is_full f page) ≡ false → pages_from f page (s ∷ rest) ≡ pages_from f (page ++ s ∷ []) rest
cut_more f page s rest e = from_test f page s rest ∙ ap (λ (b : Bool). cond b (page ∷ pages_from f (s ∷ []) rest) (pages_from f (page ++ s ∷ []) rest)) e

pub cut_stop : (f : PlainForm) (page : List PlainSlot) (s : PlainSlot) (rest : List PlainSlot) → (begins f.lists s && is_full f page) ≡ true → pages_from f page (s ∷ rest) ≡ page ∷ cut_pages f (s ∷ rest)
cut_stop f page s rest e = from_test f page s rest ∙ ap (λ (b : Bool). cond b (page ∷ pages_from f (s ∷ []) rest) (pages_from f (page ++ s ∷ []) rest)) e

cut_begin : (f : PlainForm) (s : PlainSlot) (rest : List PlainSlot) → cut_pages f (s ∷ rest) ≡ pages_from f [] (s ∷ rest)
cut_begin f s rest = sym (cut_more f [] s rest (ap (λ (b : Bool). begins f.lists s && b) (none_full f) ∙ never (begins f.lists s)))

some_begin : (f : PlainForm) (xs : List PlainSlot) → 0 < length xs → cut_pages f xs ≡ pages_from f [] xs
some_begin f [] lt = absurd (omega arith)
some_begin f (s ∷ rest) lt = cut_begin f s rest

pub cut_starts : (f : PlainForm) (xs : List PlainSlot) (from : ℕ) → from < length xs → cut_pages f (drop from xs) ≡ pages_from f (range xs from from) (drop from xs)
cut_starts f xs from lt = some_begin f (drop from xs) (omega (arith, length-drop from xs)) ∙ ap (λ (page : List PlainSlot). pages_from f page (drop from xs)) (sym (none_ranged xs from))

pub cut_goes_on : (f : PlainForm) (xs : List PlainSlot) (from i : ℕ) (s : PlainSlot) → from ≤ i → slice_get xs i ≡ Some s → (begins f.lists s && is_full f (range xs from i)) ≡ false → cut_pages f (drop from xs) ≡ pages_from f (range xs from i) (drop i xs)
    → cut_pages f (drop from xs) ≡ pages_from f (range xs from (i + 1)) (drop (i + 1) xs)
cut_goes_on f xs from i s le e t h =
    h ∙ ap (pages_from f (range xs from i)) (drop_at_slot xs i s e) ∙ cut_more f (range xs from i) s (drop (i + 1) xs) t ∙ ap (λ (page : List PlainSlot). pages_from f page (drop (i + 1) xs)) (sym (range_more xs from i s le e))

pub cut_ends : (f : PlainForm) (xs : List PlainSlot) (from i : ℕ) (s : PlainSlot) → slice_get xs i ≡ Some s → (begins f.lists s && is_full f (range xs from i)) ≡ true → cut_pages f (drop from xs) ≡ pages_from f (range xs from i) (drop i xs)
    → cut_pages f (drop from xs) ≡ range xs from i ∷ cut_pages f (drop i xs)
cut_ends f xs from i s e t h =
    h ∙ ap (pages_from f (range xs from i)) (drop_at_slot xs i s e) ∙ cut_stop f (range xs from i) s (drop (i + 1) xs) t ∙ ap (λ (rest : List PlainSlot). range xs from i ∷ cut_pages f rest) (sym (drop_at_slot xs i s e))

pub cut_last : (f : PlainForm) (xs : List PlainSlot) (from n : ℕ) → length xs ≤ n → cut_pages f (drop from xs) ≡ pages_from f (range xs from n) (drop n xs) → cut_pages f (drop from xs) ≡ range xs from n ∷ cut_pages f (drop n xs)
cut_last f xs from n le h =
    let none = drop_all n xs le in
    h ∙ ap (pages_from f (range xs from n)) none ∙ from_none f (range xs from n) ∙ ap (λ (rest : List PlainSlot). range xs from n ∷ cut_pages f rest) (sym none)

-- a sum that is capped passes as the sum does
capped : (m n : ℕ) → nat_le m (min m n) ≡ nat_le m n
capped m n = elim (cases_lt n m) [
  | inl lt ↦ lt-leb m (min m n) (omega arith) ∙ sym (lt-leb m n lt)
  | inr le ↦ le-leb m (min m n) (omega arith) ∙ sym (le-leb m n le)
]

full_is : (f : PlainForm) (page : List PlainSlot) (count size : ℕ) → count ≡ length page → size ≡ min (2 ^ 20) (sum_by (slot_size f) page) → (nat_le 32768 count || nat_le (2 ^ 20) size) ≡ is_full f page
unfolding is_full
full_is f page count size a b = ap₂ (λ (m n : ℕ). nat_le 32768 m || nat_le (2 ^ 20) n) a b ∙ ap (λ (t : Bool). nat_le 32768 (length page) || t) (capped (2 ^ 20) (sum_by (slot_size f) page))

pub page_test : (f : PlainForm) (page : List PlainSlot) (s : PlainSlot) (lists count size : ℕ) (b : Bool) → lists ≡ f.lists → count ≡ length page → size ≡ min (2 ^ 20) (sum_by (slot_size f) page)
    → b ≡ (((lists == 0) || (s.rep == lists)) && (nat_le 32768 count || nat_le (2 ^ 20) size)) → (begins f.lists s && is_full f page) ≡ b
page_test f page s lists count size b l a z e =
    sym (e ∙ ap₂ (λ (n : ℕ) (t : Bool). ((n == 0) || (s.rep == n)) && t) l (full_is f page count size a z))

pub size_more : (f : PlainForm) (xs : List PlainSlot) (from i : ℕ) (s : PlainSlot) (size now : ℕ) → from ≤ i → slice_get xs i ≡ Some s → size ≡ min (2 ^ 20) (sum_by (slot_size f) (range xs from i)) → now ≡ min (2 ^ 20) (slot_size f s + size)
    → now ≡ min (2 ^ 20) (sum_by (slot_size f) (range xs from (i + 1)))
size_more f xs from i s size now le e z n =
    let sums : sum_by (slot_size f) (range xs from (i + 1)) ≡ sum_by (slot_size f) (range xs from i) + slot_size f s = ap (sum_by (slot_size f)) (range_more xs from i s le e) ∙ sum_by_push (slot_size f) (range xs from i) s in
    omega_sums (slot_size f s) (sum_by (slot_size f) (range xs from i)) (sum_by (slot_size f) (range xs from (i + 1))) size now z n sums
  where
    omega_sums : (x a b size now : ℕ) → size ≡ min (2 ^ 20) a → now ≡ min (2 ^ 20) (x + size) → b ≡ a + x → now ≡ min (2 ^ 20) b
    omega_sums x a b size now z n e = omega arith
