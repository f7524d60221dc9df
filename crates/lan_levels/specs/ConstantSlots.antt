-- The slots of a page that has one value for all of them, or none.
use Rattle.std.specs.Prelude.{ℕ, ◌==◌, not, List, replicate, slice_index, Option, Some, None}
use Rattle.lan_model.specs.declared.tree.Primitive.TheVariants as kind
use Rattle.lan_model.specs.Plain.{PlainType, primitive}
use Rattle.lan_levels.specs.declared.slot.State.TheVariants as state
use Rattle.lan_levels.specs.PlainSlots.{PlainPiece, nothing, bit, bytes, PlainSlot}
use Rattle.lan_levels.specs.SlotsOf.{slot}

-- a value that stands by itself: a bool has one byte, which is 0 for false
abbrev pub own_piece : PlainType ℕ → List ℕ → PlainPiece
own_piece (primitive kind.Bool) all = bit (not (slice_index all 0 == 0))
own_piece ty all = bytes all

-- the slot that all are: one with the value, or the leaf's null where there is none
abbrev pub constant_slot : PlainType ℕ → Option (List ℕ) → PlainSlot
constant_slot ty (Some value) = slot 0 state.Here (own_piece ty value)
constant_slot ty None = slot 0 (state.Null 0) nothing

abbrev pub constant_slots : PlainType ℕ → ℕ → Option (List ℕ) → List PlainSlot
constant_slots ty n value = replicate n (constant_slot ty value)
