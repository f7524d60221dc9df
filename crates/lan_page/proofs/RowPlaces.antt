-- Where rows begin among the slots of some of them.
use Rattle.std.proofs.Common.{◌≡◌, ◌==◌, ℕ, zero, suc, ◌+◌, ◌-◌, ◌<◌, ◌≤◌, inl, inr, Bool, true, false, cond, List, [], ◌∷◌, ◌++◌, Some, length, take, drop, slice_get, refl, ap, ap₂, sym, ◌∙◌, arith, length-take, length-drop}
use Rattle.std.proofs.lemmas.Bool.{cases_lt, eq-eqb, ne_eqb}
use Rattle.std.proofs.lemmas.List.{take_all, drop_all, take-append-drop, take-append-le, drop-append-le}
use Rattle.lan_levels.specs.PlainSlots.{PlainSlot}
use Rattle.lan_levels.specs.ZipRows.{slots_before, slots_of_rows}
use Rattle.lan_levels.specs.ZipSlots.{starts, FirstBegins}
use Rattle.lan_index.proofs.RowSlots.{before_first, starts_append, behind_begins, before_take, before_starts, before_le}
use Rattle.lan_index.proofs.ZipPlaces.{before_within}
use Rattle.lan_page.specs.PieceRows.{HasRows}
use Rattle.lan_page.proofs.PageCuts.{drop_at_slot}
use Rattle.lan_page.proofs.Parts.{part-part}

-- how many slots stand before a row
abbrev pub place : ℕ → ℕ → List PlainSlot → ℕ
place lists row slots = length (slots_before lists row slots)

-- ---- the next row begins with the next slot that begins one

next_zero : (b : Bool) (lists : ℕ) (s : PlainSlot) (slots : List PlainSlot)
    → (place lists 0 slots < length slots → place lists 1 slots ≡ suc (place lists 0 slots + place lists 0 (drop (suc (place lists 0 slots)) slots))) → length (cond b [] (s ∷ slots_before lists 0 slots)) < length (s ∷ slots)
    → suc (place lists (cond b 0 1) slots) ≡ suc (length (cond b [] (s ∷ slots_before lists 0 slots)) + place lists 0 (drop (suc (length (cond b [] (s ∷ slots_before lists 0 slots)))) (s ∷ slots)))
next_zero true lists s slots later less = omega arith
next_zero false lists s slots later less = let e = later (omega arith) in omega arith

next_suc : (b : Bool) (lists n : ℕ) (s : PlainSlot) (slots : List PlainSlot)
    → ((m : ℕ) → place lists m slots < length slots → place lists (suc m) slots ≡ suc (place lists m slots + place lists 0 (drop (suc (place lists m slots)) slots))) → suc (place lists (cond b n (suc n)) slots) < suc (length slots)
    → suc (place lists (cond b (suc n) (suc (suc n))) slots) ≡ suc (suc (place lists (cond b n (suc n)) slots) + place lists 0 (drop (suc (place lists (cond b n (suc n)) slots)) slots))
next_suc true lists n s slots later less = let e = later n (omega arith) in omega arith
next_suc false lists n s slots later less = let e = later (suc n) (omega arith) in omega arith

next_place : (lists n : ℕ) (slots : List PlainSlot) → place lists n slots < length slots → place lists (suc n) slots ≡ suc (place lists n slots + place lists 0 (drop (suc (place lists n slots)) slots))
next_place lists n [] less = absurd (omega arith)
next_place lists zero (s ∷ slots) less = next_zero (s.rep == lists) lists s slots (next_place lists 0 slots) less
next_place lists (suc n) (s ∷ slots) less = next_suc (s.rep == lists) lists n s slots (λ m l. next_place lists m slots l) less

pub row_behind : (lists n at : ℕ) (slots : List PlainSlot) → at ≡ place lists n slots → at < length slots → place lists (n + 1) slots ≡ at + 1 + place lists 0 (drop (at + 1) slots)
row_behind lists n at slots e less =
    let up : n + 1 ≡ suc n = omega arith in
    let there : suc (place lists n slots) ≡ at + 1 = omega arith in
    let next = next_place lists n slots (omega arith) in
    let behind = ap (λ (k : ℕ). place lists 0 (drop k slots)) there in
    let same = ap (λ (k : ℕ). place lists k slots) up in
    omega arith

first_true : (b : Bool) (s : PlainSlot) (front : List PlainSlot) → b ≡ true → length (cond b [] (s ∷ front)) ≡ 0
first_true true s front e = refl
first_true false s front e = absurd (cc)

first_false : (b : Bool) (s : PlainSlot) (front : List PlainSlot) → b ≡ false → length (cond b [] (s ∷ front)) ≡ suc (length front)
first_false true s front e = absurd (cc)
first_false false s front e = refl

-- from a slot that begins a row none stands before it, and from another one more than from the next
pub begins_here : (lists i : ℕ) (slots : List PlainSlot) (s : PlainSlot) → slice_get slots i ≡ Some s → s.rep ≡ lists → place lists 0 (drop i slots) ≡ 0
begins_here lists i slots s e same = ap (place lists 0) (drop_at_slot slots i s e) ∙ first_true (s.rep == lists) s _ (eq-eqb s.rep lists same)

pub begins_later : (lists i : ℕ) (slots : List PlainSlot) (s : PlainSlot) → slice_get slots i ≡ Some s → (s.rep ≡ lists → ⊥) → place lists 0 (drop i slots) ≡ suc (place lists 0 (drop (i + 1) slots))
begins_later lists i slots s e other = ap (place lists 0) (drop_at_slot slots i s e) ∙ first_false (s.rep == lists) s _ (ne_eqb s.rep lists other)

pub none_behind : (lists i : ℕ) (slots : List PlainSlot) → length slots ≤ i → place lists 0 (drop i slots) ≡ 0
none_behind lists i slots le = ap (place lists 0) (drop_all i slots le)

-- ---- each row has a slot

pub before_less : (lists k : ℕ) (slots : List PlainSlot) → k < starts lists slots → place lists k slots < length slots
before_less lists k slots less = elim (cases_lt (place lists k slots) (length slots)) [
  | inl l ↦ l
  | inr ge ↦
      let all : slots_before lists k slots ≡ slots = before_take lists k slots ∙ take_all (place lists k slots) slots ge in
      let many = ap (starts lists) all in
      let count = before_starts lists k slots (omega arith) in
      absurd (omega arith)
]

few_starts : (b : Bool) → cond b 1 0 ≤ 1
few_starts true = omega arith
few_starts false = omega arith

starts_within : (lists : ℕ) (slots : List PlainSlot) → starts lists slots ≤ length slots
starts_within lists [] = omega arith
starts_within lists (s ∷ slots) = let few = few_starts (s.rep == lists) in let rest = starts_within lists slots in omega arith

-- where each slot begins a row, a row's place is its number
pub place_single : (lists k : ℕ) (slots : List PlainSlot) → starts lists slots ≡ length slots → k ≤ length slots → place lists k slots ≡ k
place_single lists k slots all le =
    let n = place lists k slots in
    let front = before_starts lists k slots (omega arith) in
    let same = ap (starts lists) (before_take lists k slots) in
    let both : starts lists (take n slots) + starts lists (drop n slots) ≡ starts lists slots = sym (starts_append lists (take n slots) (drop n slots)) ∙ ap (starts lists) (take-append-drop n slots) in
    let a = starts_within lists (take n slots) in
    let b = starts_within lists (drop n slots) in
    let fits = before_within lists k slots in
    let c = length-take n slots in
    let d = length-drop n slots in
    omega arith

pub place_alone : (lists rows k : ℕ) (slots : List PlainSlot) → HasRows lists rows slots → lists ≡ 0 → k ≤ rows → k ≡ place lists k slots
place_alone lists rows k slots h e le =
    let many = h.alone e in
    let count = h.starts_are in
    let same = ap (λ (n : ℕ). starts n slots) e in
    let is = place_single 0 k slots (omega arith) (omega arith) in
    let there = ap (λ (n : ℕ). place n k slots) e in
    omega arith

-- ---- rows of rows

cond_length : (b : Bool) (s : PlainSlot) (f g : List PlainSlot) → length f ≡ length g → length (cond b [] (s ∷ f)) ≡ length (cond b [] (s ∷ g))
cond_length true s f g e = refl
cond_length false s f g e = omega arith

from_zero_case : (b : Bool) (lists j : ℕ) (s : PlainSlot) (slots : List PlainSlot) → (s.rep == lists) ≡ b → ((k : ℕ) → place lists k slots ≡ place lists 0 slots + place lists k (drop (place lists 0 slots) slots))
    → suc (place lists (cond b j (suc j)) slots) ≡ length (cond b [] (s ∷ slots_before lists 0 slots)) + place lists (suc j) (drop (length (cond b [] (s ∷ slots_before lists 0 slots))) (s ∷ slots))
from_zero_case true lists j s slots e later = let same = ap (λ (t : Bool). place lists (cond t j (suc j)) slots) e in omega arith
from_zero_case false lists j s slots e later = let rest = later (suc j) in omega arith

from_zero : (lists k : ℕ) (slots : List PlainSlot) → place lists k slots ≡ place lists 0 slots + place lists k (drop (place lists 0 slots) slots)
from_zero lists k [] = refl
from_zero lists zero (s ∷ slots) = let none = before_first lists (drop (place lists 0 (s ∷ slots)) (s ∷ slots)) (behind_begins lists 0 (s ∷ slots)) in omega arith
from_zero lists (suc j) (s ∷ slots) = from_zero_case (s.rep == lists) lists j s slots refl (λ k. from_zero lists k slots)

from_row_case : (b : Bool) (lists m p k : ℕ) (slots : List PlainSlot) → suc p ≡ suc m + k → ((a n : ℕ) → n ≡ a + k → place lists n slots ≡ place lists a slots + place lists k (drop (place lists a slots) slots))
    → suc (place lists (cond b p (suc p)) slots) ≡ suc (place lists (cond b m (suc m)) slots) + place lists k (drop (place lists (cond b m (suc m)) slots) slots)
from_row_case true lists m p k slots e later = let rest = later m p (omega arith) in omega arith
from_row_case false lists m p k slots e later = let rest = later (suc m) (suc p) e in omega arith

-- a later row's place, counted from that of a row
from_row : (lists a k n : ℕ) (slots : List PlainSlot) → n ≡ a + k → place lists n slots ≡ place lists a slots + place lists k (drop (place lists a slots) slots)
from_row lists a k n [] e = refl
from_row lists zero k n (s ∷ slots) e = ap (λ (m : ℕ). place lists m (s ∷ slots)) (let same : n ≡ k = omega arith in same) ∙ from_zero lists k (s ∷ slots)
from_row lists (suc m) k zero (s ∷ slots) e = absurd (omega arith)
from_row lists (suc m) k (suc p) (s ∷ slots) e = from_row_case (s.rep == lists) lists m p k slots e (λ a n h. from_row lists a k n slots h)

front_zero_case : (b : Bool) (lists : ℕ) (s : PlainSlot) (slots : List PlainSlot) → (s.rep == lists) ≡ b → place lists 0 (slots_before lists 0 slots) ≡ place lists 0 slots
    → place lists 0 (cond b [] (s ∷ slots_before lists 0 slots)) ≡ length (cond b [] (s ∷ slots_before lists 0 slots))
front_zero_case true lists s slots e later = refl
front_zero_case false lists s slots e later = first_false (s.rep == lists) s (slots_before lists 0 (slots_before lists 0 slots)) e ∙ ap suc later

front_suc_case : (b : Bool) (lists k q : ℕ) (slots : List PlainSlot) → suc k ≤ suc q → ((a p : ℕ) → a ≤ p → place lists a (slots_before lists p slots) ≡ place lists a slots)
    → suc (place lists (cond b k (suc k)) (slots_before lists (cond b q (suc q)) slots)) ≡ suc (place lists (cond b k (suc k)) slots)
front_suc_case true lists k q slots le later = ap suc (later k q (omega arith))
front_suc_case false lists k q slots le later = ap suc (later (suc k) (suc q) le)

-- among the slots before a later row, a row has the same place
front_row : (lists k p : ℕ) (slots : List PlainSlot) → k ≤ p → place lists k (slots_before lists p slots) ≡ place lists k slots
front_row lists k p [] le = refl
front_row lists zero zero (s ∷ slots) le = front_zero_case (s.rep == lists) lists s slots refl (front_row lists 0 0 slots le)
front_row lists zero (suc q) (s ∷ slots) le = cond_length (s.rep == lists) s _ _ (front_row lists 0 (cond (s.rep == lists) q (suc q)) slots (omega arith))
front_row lists (suc k) zero (s ∷ slots) le = absurd (omega arith)
front_row lists (suc k) (suc q) (s ∷ slots) le = front_suc_case (s.rep == lists) lists k q slots le (λ a p h. front_row lists a p slots h)

-- a row among the slots of rows that have it
pub row_within : (lists from past row : ℕ) (slots : List PlainSlot) → from ≤ row → row < past → slots_of_rows lists (row - from) (row - from + 1) (slots_of_rows lists from past slots) ≡ slots_of_rows lists row (row + 1) slots
row_within lists from past row slots le less =
    let k = row - from in
    let n = past - from in
    let rest = drop (place lists from slots) slots in
    let whole = from_row lists from n past slots (omega arith) in
    let here = from_row lists from k row slots (omega arith) in
    let next = from_row lists from (k + 1) (row + 1) slots (omega arith) in
    let many : place lists past slots - place lists from slots ≡ place lists n rest = omega arith in
    let are : slots_of_rows lists from past slots ≡ slots_before lists n rest = ap (λ (m : ℕ). take m rest) many ∙ sym (before_take lists n rest) in
    let a : place lists k (slots_of_rows lists from past slots) ≡ place lists row slots - place lists from slots = ap (place lists k) are ∙ front_row lists k n rest (omega arith) ∙ (let e : place lists k rest ≡ place lists row slots - place lists from slots = omega arith in e) in
    let b : place lists (k + 1) (slots_of_rows lists from past slots) ≡ place lists (row + 1) slots - place lists from slots =
    ap (place lists (k + 1)) are ∙ front_row lists (k + 1) n rest (omega arith) ∙ (let e : place lists (k + 1) rest ≡ place lists (row + 1) slots - place lists from slots = omega arith in e) in
    let first = before_le lists from row slots le in
    let order = before_le lists row (row + 1) slots (omega arith) in
    let last = before_le lists (row + 1) past slots (omega arith) in
    let p = place lists from slots in
    let q = place lists row slots in
    let r = place lists (row + 1) slots in
    let size : r - p - (q - p) ≡ r - q = omega arith in
    let there : p + (q - p) ≡ q = omega arith in
    ap₂ (λ (i j : ℕ). take (j - i) (drop i (slots_of_rows lists from past slots))) a b
    ∙ ap (λ (m : ℕ). take m (drop (q - p) (slots_of_rows lists from past slots))) size
    ∙ part-part slots p (place lists past slots - p) (q - p) (r - q) (omega arith)
    ∙ ap (λ (m : ℕ). take (r - q) (drop m slots)) there

-- ---- rows of slots one after another

behind_case : (b : Bool) (lists m k : ℕ) (xs ys : List PlainSlot) → suc m ≡ cond b 1 0 + starts lists xs + k → ((n : ℕ) → n ≡ starts lists xs + k → place lists n (xs ++ ys) ≡ length xs + place lists k ys)
    → suc (place lists (cond b m (suc m)) (xs ++ ys)) ≡ suc (length xs) + place lists k ys
behind_case true lists m k xs ys e later = let rest = later m (omega arith) in omega arith
behind_case false lists m k xs ys e later = let rest = later (suc m) (omega arith) in omega arith

behind_zero_case : (b : Bool) (lists k : ℕ) (s : PlainSlot) (xs ys : List PlainSlot) → 0 ≡ cond b 1 0 + starts lists xs + k → (0 ≡ starts lists xs + k → place lists 0 (xs ++ ys) ≡ length xs + place lists k ys)
    → length (cond b [] (s ∷ slots_before lists 0 (xs ++ ys))) ≡ suc (length xs) + place lists k ys
behind_zero_case true lists k s xs ys e later = absurd (omega arith)
behind_zero_case false lists k s xs ys e later = let rest = later (omega arith) in omega arith

row_after : (lists k n : ℕ) (xs ys : List PlainSlot) → n ≡ starts lists xs + k → place lists n (xs ++ ys) ≡ length xs + place lists k ys
row_after lists k n [] ys e = let same = ap (λ (m : ℕ). place lists m ys) (let h : n ≡ k = omega arith in h) in omega arith
row_after lists k zero (s ∷ xs) ys e = behind_zero_case (s.rep == lists) lists k s xs ys (omega arith) (λ h. row_after lists k 0 xs ys h)
row_after lists k (suc m) (s ∷ xs) ys e = behind_case (s.rep == lists) lists m k xs ys (omega arith) (λ n h. row_after lists k n xs ys h)

ahead_case : (b : Bool) (lists k : ℕ) (xs ys : List PlainSlot) → suc k ≤ cond b 1 0 + starts lists xs → ((n : ℕ) → n ≤ starts lists xs → place lists n (xs ++ ys) ≡ place lists n xs)
    → suc (place lists (cond b k (suc k)) (xs ++ ys)) ≡ suc (place lists (cond b k (suc k)) xs)
ahead_case true lists k xs ys le later = ap suc (later k (omega arith))
ahead_case false lists k xs ys le later = ap suc (later (suc k) (omega arith))

row_ahead : (lists k : ℕ) (xs ys : List PlainSlot) → k ≤ starts lists xs → FirstBegins lists ys → place lists k (xs ++ ys) ≡ place lists k xs
row_ahead lists zero [] ys le h = before_first lists ys h
row_ahead lists (suc k) [] ys le h = absurd (omega arith)
row_ahead lists zero (s ∷ xs) ys le h = cond_length (s.rep == lists) s _ _ (row_ahead lists 0 xs ys (omega arith) h)
row_ahead lists (suc k) (s ∷ xs) ys le h = ahead_case (s.rep == lists) lists k xs ys le (λ n l. row_ahead lists n xs ys l h)

drop_behind : (m : ℕ) (xs ys : List PlainSlot) → drop (length xs + m) (xs ++ ys) ≡ drop m ys
drop_behind m [] ys = let e : 0 + m ≡ m = omega arith in ap (λ (n : ℕ). drop n ys) e
drop_behind m (x ∷ xs) ys = let e : suc (length xs) + m ≡ suc (length xs + m) = omega arith in ap (λ (n : ℕ). drop n (x ∷ (xs ++ ys))) e ∙ drop_behind m xs ys

pub rows_behind : (lists n r : ℕ) (xs ys : List PlainSlot) → starts lists xs ≡ n → slots_of_rows lists (n + r) (n + r + 1) (xs ++ ys) ≡ slots_of_rows lists r (r + 1) ys
rows_behind lists n r xs ys e =
    let a = row_after lists r (n + r) xs ys (omega arith) in
    let b = row_after lists (r + 1) (n + r + 1) xs ys (omega arith) in
    let size : length xs + place lists (r + 1) ys - (length xs + place lists r ys) ≡ place lists (r + 1) ys - place lists r ys = omega arith in
    ap₂ (λ (i j : ℕ). take (j - i) (drop i (xs ++ ys))) a b
    ∙ ap (λ (m : ℕ). take m (drop (length xs + place lists r ys) (xs ++ ys))) size
    ∙ ap (take (place lists (r + 1) ys - place lists r ys)) (drop_behind (place lists r ys) xs ys)

pub rows_ahead : (lists r : ℕ) (xs ys : List PlainSlot) → r < starts lists xs → FirstBegins lists ys → slots_of_rows lists r (r + 1) (xs ++ ys) ≡ slots_of_rows lists r (r + 1) xs
rows_ahead lists r xs ys less h =
    let p = place lists r xs in
    let q = place lists (r + 1) xs in
    let fits = before_within lists (r + 1) xs in
    let order = before_le lists r (r + 1) xs (omega arith) in
    let rest = length-drop p xs in
    ap₂ (λ (i j : ℕ). take (j - i) (drop i (xs ++ ys))) (row_ahead lists r xs ys (omega arith) h) (row_ahead lists (r + 1) xs ys (omega arith) h)
    ∙ ap (take (q - p)) (drop-append-le p xs ys (omega arith))
    ∙ take-append-le (q - p) (drop p xs) ys (omega arith)
