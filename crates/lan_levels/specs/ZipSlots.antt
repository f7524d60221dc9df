-- Slots one after another, as a full-zip page has them.
use Rattle.std.specs.Prelude.{◌≡◌, ℕ, zero, suc, ◌+◌, ◌/◌, ◌%◌, ◌^◌, ◌==◌, not, cond, ⊤, Bool, List, [], ◌∷◌, Option, Some, None, length, take, drop, slice_get}
use lib.Dec.{ltb}
use Rattle.std.specs.Int.{w16, w32}
use Rattle.lan_bytes.specs.Numbers.{number_at}
use Rattle.lan_model.specs.declared.tree.Layer.{Layer}
use Rattle.lan_levels.specs.declared.shape.ValueForm.{ValueForm}
use Rattle.lan_levels.specs.declared.shape.ValueForm.TheVariants as value
use Rattle.lan_levels.specs.declared.slot.State.{State}
use Rattle.lan_levels.specs.declared.slot.State.TheVariants as state
use Rattle.lan_levels.specs.PlainSlots.{PlainPiece, nothing, bit, bytes, PlainSlot}
use Rattle.lan_levels.specs.SlotsOf.{lists_in}
use Rattle.lan_levels.specs.ZipForm.{PlainForm}

-- a value and the bytes behind it
pub record Valued : Type 0 where
  pub piece : PlainPiece
  pub rest : List ℕ

-- what stands at the front of bytes: a slot that passes their end, one with a level that is too
-- great, or a slot and the bytes behind it
pub data Read : Type 0 where
  cut : Read
  level : Read
  slot : PlainSlot → List ℕ → Read

-- so many bytes as a value
abbrev pub sized_part : ℕ → List ℕ → Option Valued
sized_part n all = cond (ltb (length all) n) None (Some (record { piece = bytes (take n all); rest = drop n all }))

abbrev pub value_part : ValueForm → List ℕ → Option Valued
value_part value.Bool [] = None
value_part value.Bool (b ∷ rest) = Some (record { piece = bit (not (b == 0)); rest = rest })
value_part (value.Fixed n) all = sized_part n all
value_part value.Variable all = cond (ltb (length all) 4) None (sized_part (number_at w32 all 0) (drop 4 all))

-- only a present value is kept
abbrev pub kept : State → Option Valued → Option Valued
kept s None = None
kept state.Here (Some v) = Some v
kept s (Some v) = Some (record { piece = nothing; rest = v.rest })

-- whether a slot in that state has no value
abbrev pub is_bare : List Layer → State → Bool
is_bare layers state.Here = ltb 0 0
is_bare layers (state.Null k) = ltb 0 (lists_in (take (k + 1) layers))
is_bare layers (state.Empty k) = ltb 0 (lists_in (take (k + 1) layers))

abbrev pub slot_value : PlainForm → State → List ℕ → Option Valued
slot_value f s all = cond (is_bare f.layers s) (Some (record { piece = nothing; rest = all })) (kept s (value_part f.value all))

-- the number of a control word, the lowest byte first
abbrev pub word_number : List ℕ → ℕ
word_number [] = 0
word_number (b ∷ []) = b
word_number (b ∷ c ∷ rest) = number_at w16 (b ∷ c ∷ rest) 0

abbrev pub with_value : PlainForm → ℕ → State → Option Valued → Read
with_value f rep s None = cut
with_value f rep s (Some v) = cond (ltb f.lists rep) level (slot (record { rep = rep; state = s; value = v.piece }) v.rest)

abbrev pub with_state : PlainForm → ℕ → Option State → List ℕ → Read
with_state f rep None all = level
with_state f rep (Some s) all = with_value f rep s (slot_value f s all)

-- the repetition number stands above the bits of the definition number. A bit beyond both makes it
-- greater than the list layers.
abbrev pub with_word : PlainForm → ℕ → List ℕ → Read
with_word f n all = with_state f (n / 2 ^ f.bits) (slice_get f.states (n % 2 ^ f.bits)) all

-- the slot at the front of bytes
unfoldable pub first_slot : PlainForm → List ℕ → Read
first_slot f all = cond (ltb (length all) f.word) cut (with_word f (word_number (take f.word all)) (drop f.word all))

-- slots and the bytes behind them
pub record Part : Type 0 where
  pub slots : List PlainSlot
  pub rest : List ℕ

abbrev pub before : PlainSlot → Option Part → Option Part
before s None = None
before s (Some p) = Some (record { slots = s ∷ p.slots; rest = p.rest })

abbrev pub onward : Read → (List ℕ → Option Part) → Option Part
onward (slot s rest) later = before s (later rest)
onward _ later = None

-- the first `n` slots of bytes, where these have so many
unfoldable pub spelled : PlainForm → ℕ → List ℕ → Option Part
spelled f zero all = Some (record { slots = []; rest = all })
spelled f (suc n) all = onward (first_slot f all) (λ rest. spelled f n rest)

-- the bytes are these slots, and nothing follows
abbrev pub AreSlots : PlainForm → List PlainSlot → List ℕ → Type 0
AreSlots f slots all = spelled f (length slots) all ≡ Some (record { slots = slots; rest = [] })

-- how many of the slots begin a row
abbrev pub starts : ℕ → List PlainSlot → ℕ
starts lists [] = 0
starts lists (s ∷ ss) = cond (s.rep == lists) 1 0 + starts lists ss

-- the first slot begins a row
abbrev pub FirstBegins : ℕ → List PlainSlot → Type 0
FirstBegins lists [] = ⊤
FirstBegins lists (s ∷ ss) = s.rep ≡ lists

-- without list layers each slot is a row
abbrev pub AreRows : ℕ → ℕ → List PlainSlot → Type 0
AreRows zero rows slots = length slots ≡ rows
AreRows lists rows slots = (starts lists slots ≡ rows) × FirstBegins lists slots

-- the bytes are these slots, of so many rows
pub record IsZip (f : PlainForm) (rows : ℕ) (all : List ℕ) (slots : List PlainSlot) : Type 0 where
  pub are : AreSlots f slots all
  pub rows_are : AreRows f.lists rows slots
