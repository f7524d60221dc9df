-- A walk's steps over a list of slots.
use Rattle.std.proofs.Common.{◌≡◌, ◌∙◌, ℕ, zero, suc, ◌+◌, List, [], ◌∷◌, drop, ap, sym}
use Rattle.std.specs.Prelude.{Option, Some, None, IfSome, IfNone, slice_get}
use Rattle.std.proofs.lemmas.List.{drop-drop}
use Rattle.lan_levels.specs.declared.slot.Slot.{Slot}
use Rattle.lan_levels.specs.PlainSlots.{PlainSlot, plain_slot}

stepped : (o : Option Slot) (old new : List PlainSlot) → IfSome o (λ slot. old ≡ plain_slot slot ∷ new) → IfNone o ((old ≡ []) × (new ≡ [])) → new ≡ drop 1 old
stepped (Some s) old new some none = sym (ap (drop 1) some)
stepped None old new some none = none.1 ∙ sym (ap (drop 1) none.0)

pub one_further : (o : Option Slot) (xs : List PlainSlot) (k : ℕ) (old new : List PlainSlot) → old ≡ drop k xs → IfSome o (λ slot. old ≡ plain_slot slot ∷ new) → IfNone o ((old ≡ []) × (new ≡ [])) → new ≡ drop (k + 1) xs
one_further o xs k old new e some none = stepped o old new some none ∙ ap (drop 1) e ∙ drop-drop 1 k xs

pub first_of : (xs : List PlainSlot) (i : ℕ) (s : PlainSlot) (later : List PlainSlot) → drop i xs ≡ s ∷ later → slice_get xs i ≡ Some s
first_of xs zero s later e = ap (λ (ys : List PlainSlot). slice_get ys 0) e
first_of [] (suc i) s later e = cc
first_of (x ∷ xs) (suc i) s later e = first_of xs i s later e
