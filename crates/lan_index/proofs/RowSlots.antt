-- The slots of some rows of a page.
use Rattle.std.proofs.Common.{◌≡◌, ◌==◌, ℕ, zero, suc, ◌+◌, ◌-◌, ◌≤◌, Bool, true, false, cond, List, [], ◌∷◌, ◌++◌, Some, length, take, drop, refl, ap, subst, sym, ◌∙◌, arith, length-take}
use Rattle.std.proofs.lemmas.Bool.{eqb-true, eq-eqb}
use Rattle.lan_levels.specs.PlainSlots.{PlainSlot}
use Rattle.lan_levels.specs.ZipForm.{PlainForm}
use Rattle.lan_levels.specs.ZipSlots.{first_slot, Part, spelled, starts, FirstBegins, AreRows, IsZip}
use Rattle.lan_levels.proofs.ZipWalks.{spelled_none, spelled_more, opened, count_slots}
use Rattle.lan_levels.specs.ZipRows.{slots_before, slots_of_rows, slot_place, row_place}
use Rattle.lan_levels.proofs.ZipSpelling.{parted, first_front}
pub use Rattle.lan_levels.proofs.Starts.{starts_append}
use Rattle.lan_index.proofs.Segments.{part, segment}

-- no repetition number is above the list layers
abbrev pub RepsWithin : ℕ → List PlainSlot → Type 0
RepsWithin lists [] = Unit {0}
RepsWithin lists (s ∷ slots) = (s.rep ≤ lists) × RepsWithin lists slots

pub spelled_reps : (f : PlainForm) (n : ℕ) (all : List ℕ) (p : Part) → spelled f n all ≡ Some p → RepsWithin f.lists p.slots
spelled_reps f zero all p e =
    let same : ◌≡◌ {A = Part} (parted [] all) p = let both = sym (spelled_none f all) ∙ e in cc in
    subst (λ (q : Part). RepsWithin f.lists q.slots) same tt
spelled_reps f (suc n) all p e =
    let o = opened (first_slot f all) (λ rest. spelled f n rest) p (sym (spelled_more f n all) ∙ e) in
    subst (RepsWithin f.lists) (sym o.whole) ((first_front f all o.first o.next o.read).is.within, spelled_reps f n o.next (parted o.slots p.rest) o.is)

one_if : (b : Bool) → b ≡ true → ◌≡◌ {A = ℕ} (cond b 1 0) 1
one_if b e = ap (λ (t : Bool). let n : ℕ = cond t 1 0 in n) e

zero_if : (b : Bool) → b ≡ false → ◌≡◌ {A = ℕ} (cond b 1 0) 0
zero_if b e = ap (λ (t : Bool). let n : ℕ = cond t 1 0 in n) e

-- without lists each slot begins a row
pub starts_all : (slots : List PlainSlot) → RepsWithin 0 slots → starts 0 slots ≡ length slots
starts_all [] h = refl
starts_all (s ∷ slots) h =
    let le = h.0 in
    let one = one_if (s.rep == 0) (eq-eqb s.rep 0 (omega arith)) in
    omega (arith, starts_all slots h.1)

rows_single : (lists rows : ℕ) (slots : List PlainSlot) → RepsWithin lists slots → starts lists slots ≡ rows → FirstBegins lists slots → AreRows lists rows slots
rows_single zero rows slots h e b = sym (starts_all slots h) ∙ e
rows_single (suc l) rows slots h e b = (e, b)

begins_single : (slots : List PlainSlot) → RepsWithin 0 slots → FirstBegins 0 slots
begins_single [] h = tt
begins_single (s ∷ slots) h = let le = h.0 in omega arith

pub starts_of : (lists rows : ℕ) (slots : List PlainSlot) → RepsWithin lists slots → AreRows lists rows slots → starts lists slots ≡ rows
starts_of zero rows slots h a = starts_all slots h ∙ a
starts_of (suc l) rows slots h a = a.0

-- the first slot of rows begins one
pub first_of : (lists rows : ℕ) (slots : List PlainSlot) → RepsWithin lists slots → AreRows lists rows slots → FirstBegins lists slots
first_of zero rows slots h a = begins_single slots h
first_of (suc l) rows slots h a = a.1

first_case : (b : Bool) (s : PlainSlot) (front : List PlainSlot) → b ≡ true → length (cond b [] (s ∷ front)) ≡ 0
first_case true s front e = refl
first_case false s front e = absurd (cc)

-- before the first row stands no slot
pub before_first : (lists : ℕ) (slots : List PlainSlot) → FirstBegins lists slots → length (slots_before lists 0 slots) ≡ 0
before_first lists [] h = refl
before_first lists (s ∷ slots) h = first_case (s.rep == lists) s (slots_before lists 0 slots) (eq-eqb s.rep lists h)

-- what is behind the slots before a row begins that row
begins_case : (b : Bool) (lists : ℕ) (s : PlainSlot) (slots : List PlainSlot) → (s.rep == lists) ≡ b → FirstBegins lists (drop (length (slots_before lists 0 slots)) slots) → FirstBegins lists (drop (length (cond b [] (s ∷ slots_before lists 0 slots))) (s ∷ slots))
begins_case true lists s slots e h = eqb-true s.rep lists e
begins_case false lists s slots e h = h

pub behind_begins : (lists row : ℕ) (slots : List PlainSlot) → FirstBegins lists (drop (length (slots_before lists row slots)) slots)
behind_begins lists row [] = tt
behind_begins lists zero (s ∷ slots) =
    begins_case (s.rep == lists) lists s slots refl (behind_begins lists 0 slots)
behind_begins lists (suc row) (s ∷ slots) = behind_begins lists (cond (s.rep == lists) row (suc row)) slots

before_take_case : (b : Bool) (s : PlainSlot) (slots front : List PlainSlot) → front ≡ take (length front) slots → cond b [] (s ∷ front) ≡ take (length (cond b [] (s ∷ front))) (s ∷ slots)
before_take_case true s slots front e = refl
before_take_case false s slots front e = ap (λ (ss : List PlainSlot). s ∷ ss) e

-- the slots before a row are the first ones
pub before_take : (lists row : ℕ) (slots : List PlainSlot) → slots_before lists row slots ≡ take (length (slots_before lists row slots)) slots
before_take lists row [] = refl
before_take lists zero (s ∷ slots) = before_take_case (s.rep == lists) s slots (slots_before lists 0 slots) (before_take lists 0 slots)
before_take lists (suc row) (s ∷ slots) = ap (λ (ss : List PlainSlot). s ∷ ss) (before_take lists (cond (s.rep == lists) row (suc row)) slots)

before_none_case : (b : Bool) (lists : ℕ) (s : PlainSlot) (front : List PlainSlot) → (s.rep == lists) ≡ b → starts lists front ≡ 0 → starts lists (cond b [] (s ∷ front)) ≡ 0
before_none_case true lists s front h e = refl
before_none_case false lists s front h e = let none = zero_if (s.rep == lists) h in omega arith

before_some_case : (b : Bool) (lists row : ℕ) (s : PlainSlot) (slots : List PlainSlot) → (s.rep == lists) ≡ b → suc row ≤ cond b 1 0 + starts lists slots
    → ((n : ℕ) → n ≤ starts lists slots → starts lists (slots_before lists n slots) ≡ n) → cond b 1 0 + starts lists (slots_before lists (cond b row (suc row)) slots) ≡ suc row
before_some_case true lists row s slots h le later = let e = later row (omega arith) in omega arith
before_some_case false lists row s slots h le later = let e = later (suc row) (omega arith) in omega arith

-- before a row begin as many as its number
pub before_starts : (lists row : ℕ) (slots : List PlainSlot) → row ≤ starts lists slots → starts lists (slots_before lists row slots) ≡ row
before_starts lists zero [] le = refl
before_starts lists (suc row) [] le = absurd (omega arith)
before_starts lists zero (s ∷ slots) le = before_none_case (s.rep == lists) lists s (slots_before lists 0 slots) refl (before_starts lists 0 slots (omega arith))
before_starts lists (suc row) (s ∷ slots) le = before_some_case (s.rep == lists) lists row s slots refl le (λ n h. before_starts lists n slots h)

before_le_zero : (b : Bool) (s : PlainSlot) (front more : List PlainSlot) → length front ≤ length more → length (cond b [] (s ∷ front)) ≤ length (s ∷ more)
before_le_zero true s front more h = omega arith
before_le_zero false s front more h = omega arith

before_le_suc : (b : Bool) (lists a c : ℕ) (slots : List PlainSlot) → a ≤ c → ((m n : ℕ) → m ≤ n → length (slots_before lists m slots) ≤ length (slots_before lists n slots))
    → length (slots_before lists (cond b a (suc a)) slots) ≤ length (slots_before lists (cond b c (suc c)) slots)
before_le_suc true lists a c slots le h = h a c le
before_le_suc false lists a c slots le h = h (suc a) (suc c) (omega arith)

before_zero : (b : Bool) (lists c : ℕ) (slots : List PlainSlot) → ((m n : ℕ) → m ≤ n → length (slots_before lists m slots) ≤ length (slots_before lists n slots)) → length (slots_before lists 0 slots) ≤ length (slots_before lists (cond b c (suc c)) slots)
before_zero true lists c slots h = h 0 c (omega arith)
before_zero false lists c slots h = h 0 (suc c) (omega arith)

-- before a later row stand no fewer slots
pub before_le : (lists a b : ℕ) (slots : List PlainSlot) → a ≤ b → length (slots_before lists a slots) ≤ length (slots_before lists b slots)
before_le lists a b [] le = omega arith
before_le lists zero zero (s ∷ slots) le = omega arith
before_le lists zero (suc c) (s ∷ slots) le =
    before_le_zero (s.rep == lists) s (slots_before lists 0 slots) (slots_before lists (cond (s.rep == lists) c (suc c)) slots) (before_zero (s.rep == lists) lists c slots (λ m n h. before_le lists m n slots h))
before_le lists (suc a) zero (s ∷ slots) le = absurd (omega arith)
before_le lists (suc a) (suc c) (s ∷ slots) le =
    let later = before_le_suc (s.rep == lists) lists a c slots (omega arith) (λ m n h. before_le lists m n slots h) in
    omega arith

take_nil : (n : ℕ) → ◌≡◌ {A = List PlainSlot} (take n []) []
take_nil zero = refl
take_nil (suc n) = refl

pub take_plus : (i k : ℕ) (xs : List PlainSlot) → take (i + k) xs ≡ take i xs ++ take k (drop i xs)
take_plus zero k xs = let none : 0 + k ≡ k = omega arith in ap (λ (n : ℕ). take n xs) none
take_plus (suc i) k [] = take_nil (suc i + k) ∙ sym (take_nil k)
take_plus (suc i) k (x ∷ xs) = let count : suc i + k ≡ suc (i + k) = omega arith in ap (λ (n : ℕ). take n (x ∷ xs)) count ∙ ap (λ (ss : List PlainSlot). x ∷ ss) (take_plus i k xs)

pub begins_take : (lists k : ℕ) (slots : List PlainSlot) → FirstBegins lists slots → FirstBegins lists (take k slots)
begins_take lists zero slots h = tt
begins_take lists (suc k) [] h = tt
begins_take lists (suc k) (s ∷ slots) h = h

-- the bytes from the front of one row to that of another are these rows' slots
pub pieces_are_rows : (f : PlainForm) (rows row past : ℕ) (all : List ℕ) (slots : List PlainSlot) → IsZip f rows all slots → row ≤ past → past ≤ rows
    → IsZip f (past - row) (part all (row_place f row all slots) (row_place f past all slots - row_place f row all slots)) (slots_of_rows f.lists row past slots)
pieces_are_rows f rows row past all slots z le within =
    let lists = f.lists in
    let reps = spelled_reps f (length slots) all (parted slots []) z.are in
    let all_starts = starts_of lists rows slots reps z.rows_are in
    let i = length (slots_before lists row slots) in
    let j = length (slots_before lists past slots) in
    let order : i ≤ j = before_le lists row past slots le in
    let end : j ≡ length (take j slots) = ap (length {A = PlainSlot}) (before_take lists past slots) in
    let fits : j ≤ length slots = omega (arith, length-take j slots) in
    let k = j - i in
    let slice = take k (drop i slots) in
    let count : length slots ≡ i + (k + (length slots - j)) = omega arith in
    let seg = segment f i k (length slots - j) all slots (ap (λ (n : ℕ). spelled f n all) (sym count) ∙ z.are) in
    let last : i + k ≡ j = omega arith in
    let here : spelled f k (part all (row_place f row all slots) (row_place f past all slots - row_place f row all slots)) ≡ Some (parted slice []) =
    ap (λ (n : ℕ). spelled f k (part all (slot_place f i all) (slot_place f n all - slot_place f i all))) (sym last) ∙ seg in
    let size = count_slots f k (part all (row_place f row all slots) (row_place f past all slots - row_place f row all slots)) (parted slice []) here in
    let front : starts lists (take i slots) ≡ row = ap (starts lists) (sym (before_take lists row slots)) ∙ before_starts lists row slots (omega arith) in
    let back : starts lists (take j slots) ≡ past = ap (starts lists) (sym (before_take lists past slots)) ∙ before_starts lists past slots (omega arith) in
    let cut : starts lists (take j slots) ≡ starts lists (take i slots) + starts lists slice = ap (λ (n : ℕ). starts lists (take n slots)) (sym last) ∙ ap (starts lists) (take_plus i k slots) ∙ starts_append lists (take i slots) slice in
    record {
      are = ap (λ (n : ℕ). spelled f n (part all (row_place f row all slots) (row_place f past all slots - row_place f row all slots))) size ∙ here;
      rows_are = rows_single lists (past - row) slice (spelled_reps f k (part all (row_place f row all slots) (row_place f past all slots - row_place f row all slots)) (parted slice []) here) (omega arith) (begins_take lists k (drop i slots) (behind_begins lists row slots));
    }
