-- The rows of slots, and why bytes are no slots of so many rows.
use Rattle.std.proofs.Common.{◌≡◌, ◌≢◌, ◌==◌, ◌⊎◌, inl, inr, ℕ, zero, suc, ◌+◌, ◌<◌, cond, List, [], ◌∷◌, ◌++◌, Some, length, refl, ap, ap₂, subst, sym, ◌∙◌, arith}
use Rattle.lan_levels.specs.PlainSlots.{PlainSlot}
use Rattle.lan_zip.specs.declared.fault.ZipFault.{ZipFault}
use Rattle.lan_zip.specs.declared.fault.ZipFault.TheVariants as fault
use Rattle.lan_levels.specs.ZipForm.{PlainForm}
use Rattle.lan_levels.specs.ZipSlots.{Read, cut, level, slot, first_slot, Part, spelled, starts, FirstBegins, AreRows, IsZip}
use Rattle.lan_zip.specs.Walk.{Begins, Listed, Whole, slots_in}
use Rattle.lan_zip.specs.Refusals.{OneFollows, StopsAt, OtherRows, Stands}
use Rattle.lan_levels.proofs.ZipFirst.{first_nil}
use Rattle.lan_levels.proofs.ZipWalks.{spelled_none, spelled_more, Opened, opened, count_slots, no_more}

-- slots that are spelled so far
pub record Walked (f : PlainForm) (n : ℕ) (all rest : List ℕ) : Type 0 where
  pub slots : List PlainSlot
  pub is : spelled f n all ≡ Some (record { slots = slots; rest = rest })

pub starts_last : (lists : ℕ) (slots : List PlainSlot) (s : PlainSlot) → starts lists (slots ++ s ∷ []) ≡ starts lists slots + cond (s.rep == lists) 1 0
starts_last lists [] s = omega arith
starts_last lists (t ∷ slots) s = omega (arith, starts_last lists slots s)

pub listed_rows : (lists rows : ℕ) (slots : List PlainSlot) → 0 < lists → starts lists slots ≡ rows → FirstBegins lists slots → AreRows lists rows slots
listed_rows zero rows slots lt h b = absurd (omega arith)
listed_rows (suc l) rows slots lt h b = (h, b)

listed_starts : (lists rows : ℕ) (slots : List PlainSlot) → 0 < lists → AreRows lists rows slots → (starts lists slots ≡ rows) × FirstBegins lists slots
listed_starts zero rows slots lt h = absurd (omega arith)
listed_starts (suc l) rows slots lt h = h

pub single_rows : (lists rows : ℕ) (slots : List PlainSlot) → lists ≡ 0 → length slots ≡ rows → AreRows lists rows slots
single_rows zero rows slots e h = h
single_rows (suc l) rows slots e h = absurd (omega arith)

single_count : (lists rows : ℕ) (slots : List PlainSlot) → lists ≡ 0 → AreRows lists rows slots → length slots ≡ rows
single_count zero rows slots e h = h
single_count (suc l) rows slots e h = absurd (omega arith)

follows_single : (lists rows n : ℕ) (rest : List ℕ) → lists ≡ 0 → n < rows → OneFollows lists rows n rest
follows_single zero rows n rest e lt = lt
follows_single (suc l) rows n rest e lt = absurd (omega arith)

follows_list : (lists rows n : ℕ) (rest : List ℕ) → 0 < lists → rest ≢ [] → OneFollows lists rows n rest
follows_list zero rows n rest lt h = absurd (omega arith)
follows_list (suc l) rows n rest lt h = h

pub stops_single : (f : PlainForm) (rows n : ℕ) (all rest : List ℕ) (r : Read) → f.lists ≡ 0 → n < rows → Walked f n all rest → r ≡ first_slot f rest → StopsAt f rows n all r
stops_single f rows n all rest r e lt w h = record { front = record { slots = w.slots; rest = rest }; is = w.is; follows = follows_single f.lists rows n rest e lt; here = sym h }

pub stops_list : (f : PlainForm) (rows n : ℕ) (all rest : List ℕ) (r : Read) → 0 < f.lists → rest ≢ [] → Walked f n all rest → r ≡ first_slot f rest → StopsAt f rows n all r
stops_list f rows n all rest r lt ne w h = record { front = record { slots = w.slots; rest = rest }; is = w.is; follows = follows_list f.lists rows n rest lt ne; here = sym h }

-- the first of slots that are spelled is the slot at the front
pub first_begins : (f : PlainForm) (lists n : ℕ) (all : List ℕ) (p : Part) → spelled f n all ≡ Some p → Begins lists (first_slot f all) → FirstBegins lists p.slots
first_begins f lists zero all p e h =
    let both = sym (spelled_none f all) ∙ e in
    let same : ◌≡◌ {A = Part} (record { slots = []; rest = all }) p = cc in
    subst (λ (q : Part). FirstBegins lists q.slots) same tt
first_begins f lists (suc n) all p e h =
    let o = opened (first_slot f all) (λ rest. spelled f n rest) p (sym (spelled_more f n all) ∙ e) in
    subst (FirstBegins lists) (sym o.whole) (subst (Begins lists) o.read h)

begins_first : (f : PlainForm) (lists n : ℕ) (all : List ℕ) (p : Part) → 0 < f.word → p.rest ≡ [] → spelled f n all ≡ Some p → FirstBegins lists p.slots → Begins lists (first_slot f all)
begins_first f lists zero all p lt r e h =
    let both = sym (spelled_none f all) ∙ e in
    let same : ◌≡◌ {A = Part} (record { slots = []; rest = all }) p = cc in
    let none : all ≡ [] = ap (λ (q : Part). q.rest) same ∙ r in
    subst (Begins lists) (sym (ap (first_slot f) none ∙ first_nil f lt)) tt
begins_first f lists (suc n) all p lt r e h =
    let o = opened (first_slot f all) (λ rest. spelled f n rest) p (sym (spelled_more f n all) ∙ e) in
    subst (Begins lists) (sym o.read) (subst (FirstBegins lists) o.whole h)

no_slot : (r : Read) (s : PlainSlot) (next : List ℕ) → (r ≡ cut) ⊎ (r ≡ level) → r ≡ slot s next → ⊥
no_slot r s next (inl e) h = cc
no_slot r s next (inr e) h = cc

stopped_single : (f : PlainForm) (rows n : ℕ) (all : List ℕ) (r : Read) (slots : List PlainSlot) → (r ≡ cut) ⊎ (r ≡ level) → f.lists ≡ 0 → StopsAt f rows n all r → IsZip f rows all slots → ⊥
stopped_single f rows n all r slots k e h z =
    let count = single_count f.lists rows slots e z.rows_are in
    let lt : n < rows = subst (λ (l : ℕ). OneFollows l rows n h.front.rest) e h.follows in
    no_more f n (length slots) all h.front (record { slots = slots; rest = [] }) h.is (λ s next g. no_slot r s next k (sym h.here ∙ g)) (omega arith) z.are

-- bytes that were wholly spelled by fewer slots are spelled by no more
whole_ends : (f : PlainForm) (n m : ℕ) (all : List ℕ) (p q : Part) → 0 < f.word → spelled f n all ≡ Some p → p.rest ≡ [] → n < m → spelled f m all ≡ Some q → ⊥
whole_ends f n m all p q lt e r less g = no_more f n m all p q e (λ s next h. no_slot cut s next (inl refl) (sym (ap (first_slot f) r ∙ first_nil f lt) ∙ h)) less g

same_part : (f : PlainForm) (n m : ℕ) (all : List ℕ) (p q : Part) → n ≡ m → spelled f n all ≡ Some p → spelled f m all ≡ Some q → p ≡ q
same_part f n m all p q e g h = let both : Some p ≡ Some q = sym g ∙ ap (λ (k : ℕ). spelled f k all) e ∙ h in cc

three_suc : (n m : ℕ) → (n < m) ⊎ ((n ≡ m) ⊎ (m < n)) → (suc n < suc m) ⊎ ((suc n ≡ suc m) ⊎ (suc m < suc n))
three_suc n m (inl h) = inl (omega arith)
three_suc n m (inr (inl h)) = inr (inl (omega arith))
three_suc n m (inr (inr h)) = inr (inr (omega arith))

three : (n m : ℕ) → (n < m) ⊎ ((n ≡ m) ⊎ (m < n))
three zero zero = inr (inl refl)
three zero (suc m) = inl (omega arith)
three (suc n) zero = inr (inr (omega arith))
three (suc n) (suc m) = three_suc n m (three n m)

stopped_list : (f : PlainForm) (n m : ℕ) (all : List ℕ) (r : Read) (front whole : Part) → (r ≡ cut) ⊎ (r ≡ level) → 0 < f.word → spelled f n all ≡ Some front → front.rest ≢ [] → first_slot f front.rest ≡ r
    → spelled f m all ≡ Some whole → whole.rest ≡ [] → (n < m) ⊎ ((n ≡ m) ⊎ (m < n)) → ⊥
stopped_list f n m all r front whole k lt e ne here g none (inl less) = no_more f n m all front whole e (λ s next h. no_slot r s next k (sym here ∙ h)) less g
stopped_list f n m all r front whole k lt e ne here g none (inr (inl same)) = ne (ap (λ (p : Part). p.rest) (same_part f n m all front whole same e g) ∙ none)
stopped_list f n m all r front whole k lt e ne here g none (inr (inr more)) = whole_ends f m n all whole front lt g none more e

stopped : (f : PlainForm) (rows n : ℕ) (all : List ℕ) (r : Read) (slots : List PlainSlot) (lists : ℕ) → lists ≡ f.lists → (r ≡ cut) ⊎ (r ≡ level) → (0 < f.lists → 0 < f.word) → StopsAt f rows n all r → IsZip f rows all slots → ⊥
stopped f rows n all r slots zero e k w h z = stopped_single f rows n all r slots k (sym e) h z
stopped f rows n all r slots (suc l) e k w h z =
    let ne : h.front.rest ≢ [] = subst (λ (x : ℕ). OneFollows x rows n h.front.rest) (sym e) h.follows in
    stopped_list f n (length slots) all r h.front (record { slots = slots; rest = [] }) k (w (omega arith)) h.is ne h.here z.are refl (three n (length slots))

other_rows : (f : PlainForm) (n m : ℕ) (all : List ℕ) (p q : Part) → 0 < f.word → spelled f n all ≡ Some p → p.rest ≡ [] → spelled f m all ≡ Some q → q.rest ≡ [] → (n < m) ⊎ ((n ≡ m) ⊎ (m < n)) → p ≡ q
other_rows f n m all p q lt e r g t (inl less) = absurd (whole_ends f n m all p q lt e r less g)
other_rows f n m all p q lt e r g t (inr (inl same)) = same_part f n m all p q same e g
other_rows f n m all p q lt e r g t (inr (inr more)) = absurd (whole_ends f m n all q p lt g t more e)

-- where a reason stands, the bytes are no slots of so many rows
pub refused : (f : PlainForm) (rows : ℕ) (all : List ℕ) (fault : ZipFault) (slots : List PlainSlot) → (0 < f.lists → 0 < f.word) → Stands f rows all fault → IsZip f rows all slots → ⊥
refused f rows all (fault.Cut n) slots w h z = stopped f rows n all cut slots f.lists refl (inl refl) w h z
refused f rows all (fault.Level n) slots w h z = stopped f rows n all level slots f.lists refl (inr refl) w h z
refused f rows all fault.Rows slots w h z =
    let same = other_rows f (length h.slots) (length slots) all (record { slots = h.slots; rest = [] }) (record { slots = slots; rest = [] }) (w h.listed) h.are refl z.are refl (three (length h.slots) (length slots)) in
    h.other (subst (AreRows f.lists rows) (sym (ap (λ (p : Part). p.slots) same)) z.rows_are)
refused f rows all fault.Extra slots w h z =
    let count = single_count f.lists rows slots h.single z.rows_are in
    h.extra (ap (λ (p : Part). p.rest) (same_part f rows (length slots) all h.front (record { slots = slots; rest = [] }) (sym count) h.is z.are))

pub other : (f : PlainForm) (rows n : ℕ) (all : List ℕ) (slots : List PlainSlot) → 0 < f.lists → 0 < f.word → spelled f n all ≡ Some (record { slots = slots; rest = [] })
    → ((starts f.lists slots ≡ rows) → Begins f.lists (first_slot f all) → ⊥) → OtherRows f rows all
other f rows n all slots lt w e h =
    let p : Part = record { slots = slots; rest = [] } in
    let count = count_slots f n all p e in
    record {
      slots = slots;
      listed = lt;
      are = ap (λ (k : ℕ). spelled f k all) count ∙ e;
      other = λ rows_are. let both = listed_starts f.lists rows slots lt rows_are in h both.0 (begins_first f f.lists n all p w refl e both.1);
    }

-- the slots of a page, counted
pub zip_of : (f : PlainForm) (rows n : ℕ) (all : List ℕ) → Listed f rows n all → IsZip f rows all (slots_in (spelled f n all))
zip_of f rows n all h =
    let p : Part = record { slots = h.slots; rest = [] } in
    let same : h.slots ≡ slots_in (spelled f n all) = sym (ap slots_in h.is) in
    let count = count_slots f n all p h.is in
    let z : IsZip f rows all h.slots = record { are = ap (λ (k : ℕ). spelled f k all) count ∙ h.is; rows_are = h.rows_are } in
    subst (IsZip f rows all) same z

-- one slot less is still spelled wholly
pub whole_next : (f : PlainForm) (n m : ℕ) (all : List ℕ) (s : PlainSlot) (next : List ℕ) → Whole f n all → n ≡ suc m → first_slot f all ≡ slot s next → Opened (slot s next) (λ rest. spelled f m rest) (record { slots = slots_in (spelled f n all); rest = [] })
whole_next f n m all s next w e h =
    let p : Part = record { slots = w.slots; rest = [] } in
    let is : slots_in (spelled f n all) ≡ w.slots = ap slots_in w.is in
    let o = opened (first_slot f all) (λ rest. spelled f m rest) p (sym (spelled_more f m all) ∙ ap (λ (k : ℕ). spelled f k all) (sym e) ∙ w.is) in
    record { first = o.first; next = o.next; slots = o.slots; read = sym h ∙ o.read; is = o.is; whole = is ∙ o.whole }

pub walk_on : (f : PlainForm) (n m : ℕ) (all : List ℕ) (s : PlainSlot) (next : List ℕ) → Whole f n all → n ≡ suc m → first_slot f all ≡ slot s next → Whole f m next
walk_on f n m all s next w e h =
    let o = whole_next f n m all s next w e h in
    let both = o.read in
    let same : o.next ≡ next = cc in
    record { slots = o.slots; is = ap (λ (bs : List ℕ). spelled f m bs) (sym same) ∙ o.is }

pub walk_gives : (f : PlainForm) (n m : ℕ) (all : List ℕ) (s : PlainSlot) (next : List ℕ) → Whole f n all → n ≡ suc m → first_slot f all ≡ slot s next → slots_in (spelled f n all) ≡ s ∷ slots_in (spelled f m next)
walk_gives f n m all s next w e h =
    let o = whole_next f n m all s next w e h in
    let both = o.read in
    let first : o.first ≡ s = cc in
    let same : o.next ≡ next = cc in
    let later : o.slots ≡ slots_in (spelled f m next) = sym (ap slots_in o.is) ∙ ap (λ (bs : List ℕ). slots_in (spelled f m bs)) same in
    o.whole ∙ ap₂ (λ (x : PlainSlot) (xs : List PlainSlot). x ∷ xs) first later

pub walk_stops : (f : PlainForm) (n m : ℕ) (all : List ℕ) (r : Read) → (r ≡ cut) ⊎ (r ≡ level) → Whole f n all → n ≡ suc m → r ≡ first_slot f all → ⊥
walk_stops f n m all r k w e h =
    let p : Part = record { slots = w.slots; rest = [] } in
    let o = opened (first_slot f all) (λ rest. spelled f m rest) p (sym (spelled_more f m all) ∙ ap (λ (i : ℕ). spelled f i all) (sym e) ∙ w.is) in
    no_slot r o.first o.next k (h ∙ o.read)

pub walk_ends : (f : PlainForm) (n : ℕ) (all : List ℕ) → n ≡ 0 → slots_in (spelled f n all) ≡ []
walk_ends f n all e = ap (λ (k : ℕ). slots_in (spelled f k all)) e ∙ ap slots_in (spelled_none f all)
