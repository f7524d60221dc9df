-- What is left of the slots at a place.
use Rattle.std.proofs.Common.{◌≡◌, ℕ, zero, suc, ◌+◌, ◌<◌, ◌≤◌, inl, inr, List, [], ◌∷◌, Option, Some, None, length, drop, get_or, slice_get, refl, ap, sym, subst, ◌∙◌, arith}
use Rattle.std.proofs.Math.ListN.{set}
use Rattle.std.proofs.lemmas.List.{get_or-set_same, get_or-set_other}
use Rattle.std.proofs.lemmas.Option.{slice_get_past}
use Rattle.std.specs.List.{Contains}
use Rattle.std.specs.Option.{IfNone}
use Rattle.lan_levels.specs.declared.slot.Slot.{Slot}
use Rattle.lan_levels.specs.declared.slot.SlotRun.{SlotRun}
use Rattle.lan_levels.specs.PlainSlots.{PlainSlot, plain_slot, plain_slots}
use Rattle.lan_levels.specs.BadSlots.{slots_at}
use Rattle.lan_levels.specs.Taken.{left_at, Step}
use Rattle.lan_levels.proofs.Chosen.{less_or_not}

drop_nothing : (n : ℕ) → drop {A = PlainSlot} n [] ≡ []
drop_nothing zero = refl
drop_nothing (suc n) = refl

slots_at_none : (runs : List SlotRun) (j : ℕ) → slice_get runs j ≡ None → slots_at runs j ≡ []
slots_at_none [] j h = refl
slots_at_none (run ∷ runs) zero h = absurd (cc)
slots_at_none (run ∷ runs) (suc j) h = slots_at_none runs j h

pub slots_at_run : (runs : List SlotRun) (j : ℕ) (run : SlotRun) → slice_get runs j ≡ Some run → slots_at runs j ≡ plain_slots run.slots
slots_at_run [] j run h = absurd (cc)
slots_at_run (r ∷ runs) zero run h = let e : r ≡ run = cc in ap (λ (x : SlotRun). plain_slots x.slots) e
slots_at_run (r ∷ runs) (suc j) run h = slots_at_run runs j run h

drop_none : (slots : List Slot) (n : ℕ) → slice_get slots n ≡ None → drop n (plain_slots slots) ≡ []
drop_none [] n h = drop_nothing n
drop_none (s ∷ slots) zero h = absurd (cc)
drop_none (s ∷ slots) (suc n) h = drop_none slots n h

drop_some : (slots : List Slot) (n : ℕ) (s : Slot) → slice_get slots n ≡ Some s → drop n (plain_slots slots) ≡ plain_slot s ∷ drop (n + 1) (plain_slots slots)
drop_some [] n s h = absurd (cc)
drop_some (x ∷ slots) zero s h = let e : x ≡ s = cc in ap (λ (y : Slot). plain_slot y ∷ plain_slots slots) e
drop_some (x ∷ slots) (suc n) s h =
    let e : suc (n + 1) ≡ suc n + 1 = omega arith in
    subst (λ (k : ℕ). drop n (plain_slots slots) ≡ plain_slot s ∷ drop k (plain_slots (x ∷ slots))) e (drop_some slots n s h)

pub left_no_run : (runs : List SlotRun) (places : List ℕ) (j : ℕ) → slice_get runs j ≡ None → left_at runs places j ≡ []
left_no_run runs places j h = ap (drop (get_or places j 0)) (slots_at_none runs j h) ∙ drop_nothing (get_or places j 0)

pub left_none : (runs : List SlotRun) (places : List ℕ) (j : ℕ) (run : SlotRun) → slice_get runs j ≡ Some run → slice_get run.slots (get_or places j 0) ≡ None → left_at runs places j ≡ []
left_none runs places j run h k = ap (drop (get_or places j 0)) (slots_at_run runs j run h) ∙ drop_none run.slots (get_or places j 0) k

pub left_some : (runs : List SlotRun) (places : List ℕ) (j : ℕ) (run : SlotRun) (s : Slot) → slice_get runs j ≡ Some run → slice_get run.slots (get_or places j 0) ≡ Some s
    → left_at runs places j ≡ plain_slot s ∷ drop (get_or places j 0 + 1) (slots_at runs j)
left_some runs places j run s h k =
    subst (λ (x : List PlainSlot). drop (get_or places j 0) x ≡ plain_slot s ∷ drop (get_or places j 0 + 1) x) (sym (slots_at_run runs j run h)) (drop_some run.slots (get_or places j 0) s k)

-- one place goes on
pub step_at : (runs : List SlotRun) (places : List ℕ) (i : ℕ) (s : PlainSlot) → i < length places → left_at runs places i ≡ s ∷ drop (get_or places i 0 + 1) (slots_at runs i)
    → Step i (left_at runs places) (left_at runs (set places i (get_or places i 0 + 1))) s
step_at runs places i s lt h =
    let new : List ℕ = set places i (get_or places i 0 + 1) in
    record {
      here = h ∙ ap (λ (n : ℕ). s ∷ drop n (slots_at runs i)) (sym (get_or-set_same places i (get_or places i 0 + 1) 0 lt));
      keeps = record {
        before = λ j less. ap (λ (n : ℕ). drop n (slots_at runs j)) (get_or-set_other places i j (get_or places i 0 + 1) 0 (omega arith));
        after = λ j more. ap (λ (n : ℕ). drop n (slots_at runs j)) (get_or-set_other places i j (get_or places i 0 + 1) 0 (omega arith));
      };
    }

drop_stands : (xs : List PlainSlot) (n : ℕ) (s : PlainSlot) (rest : List PlainSlot) → drop n xs ≡ s ∷ rest → (k : ℕ) × (k < length xs) × (get_or xs k s ≡ s)
drop_stands [] zero s rest h = absurd (cc)
drop_stands [] (suc n) s rest h = absurd (cc)
drop_stands (x ∷ xs) zero s rest h = let e : x ≡ s = cc in (0, omega arith, e)
drop_stands (x ∷ xs) (suc n) s rest h = let (k, lt, e) = drop_stands xs n s rest h in (suc k, omega arith, e)

-- what is left is of the leaf's slots
pub left_stands : (runs : List SlotRun) (places : List ℕ) (j : ℕ) (s : PlainSlot) (rest : List PlainSlot) → left_at runs places j ≡ s ∷ rest → Contains (slots_at runs j) s
left_stands runs places j s rest h = drop_stands (slots_at runs j) (get_or places j 0) s rest h

pub IfNone-always : {X : Type 0} (o : Option X) (P : Type 0) → P → IfNone o P
IfNone-always None P p = p
IfNone-always (Some x) P p = tt

-- nothing is left at a place past the end
pub slots_past : (runs : List SlotRun) (j : ℕ) → length runs ≤ j → slots_at runs j ≡ []
slots_past runs j h = slots_at_none runs j (slice_get_past runs j h)

pub left_past : (runs : List SlotRun) (places : List ℕ) (j : ℕ) → length runs ≤ j → left_at runs places j ≡ []
left_past runs places j h = ap (drop (get_or places j 0)) (slots_past runs j h) ∙ drop_nothing (get_or places j 0)

-- nothing is left at any place, if nothing is at those of the runs
pub all_read : (runs : List SlotRun) (places : List ℕ) (end : ℕ) → length runs ≤ end → ((j : ℕ) → j < end → left_at runs places j ≡ []) → (j : ℕ) → left_at runs places j ≡ []
all_read runs places end le h j = elim (less_or_not j end) [ inl lt ↦ h j lt | inr ge ↦ left_past runs places j (omega arith) ]
