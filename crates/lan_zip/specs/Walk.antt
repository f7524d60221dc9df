-- What a walk over the slots of a page sees.
use Rattle.std.specs.Prelude.{◌≡◌, ℕ, ⊤, List, [], Option, Some, None}
use Rattle.lan_levels.specs.PlainSlots.{PlainSlot, plain_piece, plain_slot}
use Rattle.lan_levels.specs.ZipForm.{PlainForm}
use Rattle.lan_levels.specs.ZipSlots.{Valued, Read, cut, level, slot, Part, spelled, AreRows}
use Rattle.lan_zip.specs.declared.step.Found.{Found}
use Rattle.lan_zip.specs.declared.step.Step.{Step}
use Rattle.lan_zip.specs.declared.step.Step.TheVariants as step

-- what is read, where it is a slot, begins a row
abbrev pub Begins : ℕ → Read → Type 0
Begins lists (slot s rest) = s.rep ≡ lists
Begins lists _ = ⊤

-- the slots of a part, where there is one
abbrev pub slots_in : Option Part → List PlainSlot
slots_in None = []
slots_in (Some p) = p.slots

-- the bytes are `n` slots, and nothing follows
pub record Whole (f : PlainForm) (n : ℕ) (all : List ℕ) : Type 0 where
  pub slots : List PlainSlot
  pub is : spelled f n all ≡ Some (record { slots = slots; rest = [] })

-- the bytes are `n` slots, of so many rows
pub record Listed (f : PlainForm) (rows n : ℕ) (all : List ℕ) : Type 0 where
  pub slots : List PlainSlot
  pub is : spelled f n all ≡ Some (record { slots = slots; rest = [] })
  pub rows_are : AreRows f.lists rows slots

abbrev pub plain_step : Step → Read
plain_step step.Cut = cut
plain_step step.Level = level
plain_step (step.Slot s rest) = slot (plain_slot s) rest.now

abbrev pub plain_part : Option Found → Option Valued
plain_part None = None
plain_part (Some v) = Some (record { piece = plain_piece v.value; rest = v.rest.now })
