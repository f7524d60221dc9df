-- The buffers of the full-zip page of slots, with the first number of each state.
use Rattle.std.specs.Prelude.{ℕ, ◌+◌, ◌==◌, cond, Bool, true, false, List, [], ◌∷◌, ◌++◌, length, map}
use Rattle.std.specs.List.{concat}
use Rattle.lan_bytes.specs.Numbers.{low_first}
use Rattle.lan_levels.specs.declared.slot.State.{State}
use Rattle.lan_levels.specs.declared.slot.State.TheVariants as state
use Rattle.lan_levels.specs.PlainSlots.{PlainSlot}
use Rattle.lan_levels.specs.ZipForm.{PlainForm}
use Rattle.lan_levels.specs.ZipWritten.{slot_bytes, row_starts, is_indexed}

abbrev pub same_state : State → State → Bool
same_state state.Here state.Here = true
same_state (state.Null j) (state.Null k) = j == k
same_state (state.Empty j) (state.Empty k) = j == k
same_state s t = false

-- the first number of the state among these, where it is one
abbrev pub state_number : List State → State → ℕ
state_number [] s = 0
state_number (t ∷ states) s = cond (same_state t s) 0 (state_number states s + 1)

abbrev pub zip_part : PlainForm → PlainSlot → List ℕ
zip_part f s = slot_bytes f (state_number f.states s.state) s

-- the slots, one after another
abbrev pub zip_content : PlainForm → List PlainSlot → List ℕ
zip_content f slots = concat (map (zip_part f) slots)

-- where their rows begin, and where the last ends
abbrev pub zip_places : PlainForm → List PlainSlot → List ℕ
zip_places f slots = row_starts f.lists 0 slots (map (zip_part f) slots) ++ low_first 8 (length (zip_content f slots))

abbrev pub zip_buffers : PlainForm → List PlainSlot → List (List ℕ)
zip_buffers f slots = zip_content f slots ∷ cond (is_indexed f) (zip_places f slots ∷ []) []
