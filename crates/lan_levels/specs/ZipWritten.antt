-- The buffers of a full-zip page that is written.
use Rattle.std.specs.Prelude.{◌≡◌, ℕ, ◌+◌, ◌*◌, ◌^◌, ◌<◌, ◌≤◌, ◌==◌, ◌||◌, not, cond, ⊤, Bool, true, false, List, [], ◌∷◌, ◌++◌, replicate, Some, length, slice_get}
use Rattle.std.specs.List.{concat}
use Rattle.lan_bytes.specs.Numbers.{low_first}
use Rattle.lan_levels.specs.declared.shape.ValueForm.{ValueForm}
use Rattle.lan_levels.specs.declared.shape.ValueForm.TheVariants as value
use Rattle.lan_levels.specs.declared.slot.State.{State}
use Rattle.lan_levels.specs.declared.slot.State.TheVariants as state
use Rattle.lan_levels.specs.PlainSlots.{PlainPiece, nothing, bit, bytes, PlainSlot}
use Rattle.lan_levels.specs.ZipForm.{PlainForm}
use Rattle.lan_levels.specs.ZipSlots.{is_bare}

-- a present value is of the form, and a slot in any other state has none
abbrev pub FitsForm : ValueForm → State → PlainPiece → Type 0
FitsForm value.Bool state.Here (bit b) = ⊤
FitsForm (value.Fixed n) state.Here (bytes bs) = length bs ≡ n
FitsForm value.Variable state.Here (bytes bs) = length bs < 2 ^ 32
FitsForm form state.Here _ = ⊥
FitsForm form _ nothing = ⊤
FitsForm form _ _ = ⊥

-- the slot can be a slot of a page of that form
pub record CanStand (f : PlainForm) (s : PlainSlot) : Type 0 where
  pub rep : s.rep ≤ f.lists
  pub number : ℕ
  pub numbered : slice_get f.states number ≡ Some s.state
  pub value : FitsForm f.value s.state s.value

-- a value; where there is none, zero bytes, false or the empty text
abbrev pub value_bytes : ValueForm → PlainPiece → List ℕ
value_bytes value.Bool (bit true) = 1 ∷ []
value_bytes value.Bool _ = 0 ∷ []
value_bytes (value.Fixed n) (bytes bs) = bs
value_bytes (value.Fixed n) _ = replicate n 0
value_bytes value.Variable (bytes bs) = low_first 4 (length bs) ++ bs
value_bytes value.Variable _ = low_first 4 0

-- a slot with that definition number
abbrev pub slot_bytes : PlainForm → ℕ → PlainSlot → List ℕ
slot_bytes f def s = low_first f.word (s.rep * 2 ^ f.bits + def) ++ cond (is_bare f.layers s.state) [] (value_bytes f.value s.value)

-- the bytes are the slot, with the number of its state
pub record SlotIs (f : PlainForm) (s : PlainSlot) (all : List ℕ) : Type 0 where
  pub def : ℕ
  pub numbered : slice_get f.states def ≡ Some s.state
  pub is : all ≡ slot_bytes f def s

-- the parts are the slots one by one
abbrev pub PartsAre : PlainForm → List PlainSlot → List (List ℕ) → Type 0
PartsAre f [] [] = ⊤
PartsAre f (s ∷ ss) (p ∷ ps) = SlotIs f s p × PartsAre f ss ps
PartsAre f _ _ = ⊥

-- without list layers each slot begins a row
abbrev pub begins : ℕ → PlainSlot → Bool
begins lists s = (lists == 0) || (s.rep == lists)

-- where the rows begin, the first part lying at `at`, as numbers of eight bytes
abbrev pub row_starts : ℕ → ℕ → List PlainSlot → List (List ℕ) → List ℕ
row_starts lists at (s ∷ ss) (p ∷ ps) = cond (begins lists s) (low_first 8 at) [] ++ row_starts lists (at + length p) ss ps
row_starts lists at _ _ = []

abbrev pub is_variable : ValueForm → Bool
is_variable value.Variable = true
is_variable _ = false

-- whether the places of the rows are stored: where rows may differ in length
abbrev pub is_indexed : PlainForm → Bool
is_indexed f = not (f.lists == 0) || is_variable f.value

-- the slots one after another, and where their rows begin
pub record Gathered (f : PlainForm) (slots : List PlainSlot) (content starts : List ℕ) : Type 0 where
  pub parts : List (List ℕ)
  pub are : PartsAre f slots parts
  pub whole : content ≡ concat parts
  pub begin_at : starts ≡ row_starts f.lists 0 slots parts

-- the buffers of the slots: the slots, and where rows may differ in length the places of the rows
-- with the end behind them
pub record ArePage (f : PlainForm) (slots : List PlainSlot) (buffers : List (List ℕ)) : Type 0 where
  pub content : List ℕ
  pub starts : List ℕ
  pub gathered : Gathered f slots content starts
  pub are : buffers ≡ content ∷ cond (is_indexed f) ((starts ++ low_first 8 (length content)) ∷ []) []
