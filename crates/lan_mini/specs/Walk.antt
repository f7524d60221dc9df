-- What a walk over the slots of a chunk sees.
use Rattle.std.specs.Prelude.{◌≡◌, ℕ, ◌+◌, ◌≤◌, List, length, drop}
use Rattle.lan_levels.specs.PlainSlots.{PlainPiece, PlainSlot}
use Rattle.lan_levels.specs.ChunkForm.{ChunkForm}
use Rattle.lan_levels.specs.ChunkSlots.{woven, state_named, first_kept, value_count}
use Rattle.lan_mini.specs.declared.parts.Parts.{Parts}
use Rattle.lan_mini.specs.Form.{plain_form}
use Rattle.lan_mini.specs.Cutting.{AreParts, pieces_of, reps_of, defs_of}

-- the slot with these levels, whose value, where it has one, is the first
abbrev pub slot_with : ChunkForm → ℕ → ℕ → List PlainPiece → PlainSlot
slot_with f rep def vs = let s = state_named f.states def in record { rep = rep; state = s; value = first_kept s vs }

-- the slots from the number `i` on, before which `values` values stand
abbrev pub slots_behind : Parts → ℕ → ℕ → List PlainSlot
slots_behind p i values = woven (plain_form p.form) (drop i (reps_of p)) (drop i (defs_of p)) (drop values (pieces_of p.values))

abbrev pub slots_of : Parts → List PlainSlot
slots_of p = woven (plain_form p.form) (reps_of p) (defs_of p) (pieces_of p.values)

-- a walk has come to the slot `i`, before which `values` values stand
pub record HasCome (p : Parts) (i values : ℕ) : Type 0 where
  pub parts : AreParts p
  pub within : i ≤ p.count
  pub left : values + value_count (plain_form p.form) (drop i (defs_of p)) ≡ length (pieces_of p.values)

pub record SameParts (p q : Parts) : Type 0 where
  pub form : p.form ≡ q.form
  pub reps : p.reps ≡ q.reps
  pub defs : p.defs ≡ q.defs
  pub values : pieces_of p.values ≡ pieces_of q.values
  pub count : p.count ≡ q.count
