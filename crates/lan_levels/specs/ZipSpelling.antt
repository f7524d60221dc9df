-- The slots of a full-zip page by how they are spelled, one by one.
use Rattle.std.specs.Prelude.{◌≡◌, ℕ, ◌+◌, ◌*◌, ◌^◌, ◌<◌, ◌≤◌, ◌==◌, ◌⊎◌, ◌↔◌, not, List, [], ◌∷◌, ◌++◌, Some, length, slice_get}
use Rattle.std.specs.Int.{w32}
use Rattle.lan_bytes.specs.Numbers.{number_at}
use Rattle.lan_levels.specs.declared.shape.ValueForm.{ValueForm}
use Rattle.lan_levels.specs.declared.shape.ValueForm.TheVariants as value
use Rattle.lan_levels.specs.declared.slot.State.{State}
use Rattle.lan_levels.specs.declared.slot.State.TheVariants as state
use Rattle.lan_levels.specs.Codes.{IsBare}
use Rattle.lan_levels.specs.PlainSlots.{PlainPiece, nothing, bit, bytes, PlainSlot}
use Rattle.lan_levels.specs.ZipForm.{PlainForm}
use Rattle.lan_levels.specs.ZipSlots.{word_number, AreSlots}

-- a length of four bytes, the lowest first, and so many bytes
pub record SizedIs (piece : PlainPiece) (all : List ℕ) : Type 0 where
  pub size : List ℕ
  pub text : List ℕ
  pub whole : all ≡ size ++ text
  pub four : length size ≡ 4
  pub counts : number_at w32 size 0 ≡ length text
  pub is : piece ≡ bytes text

-- the bytes are the value: of a bool one byte, which is 0 for false; so many bytes; a length and so many bytes
abbrev pub ValueIs : ValueForm → PlainPiece → List ℕ → Type 0
ValueIs value.Bool piece all = (b : ℕ) × (all ≡ b ∷ []) × (piece ≡ bit (not (b == 0)))
ValueIs (value.Fixed n) piece all = (length all ≡ n) × (piece ≡ bytes all)
ValueIs value.Variable piece all = SizedIs piece all

-- the bytes are some value
pub record SomeValue (form : ValueForm) (all : List ℕ) : Type 0 where
  pub piece : PlainPiece
  pub is : ValueIs form piece all

-- what stands behind the control word of a slot in that state: its value; where there is none, nothing
-- of a bare slot, and of any other some value that isn't looked at
abbrev pub BodyIs : PlainForm → State → PlainPiece → List ℕ → Type 0
BodyIs f state.Here piece all = ValueIs f.value piece all
BodyIs f s piece all = (piece ≡ nothing) × ((IsBare f.layers s × (all ≡ [])) ⊎ ((IsBare f.layers s → ⊥) × SomeValue f.value all))

-- the bytes are the slot: a control word with the repetition number above the bits of the definition number, and what
-- stands behind it
pub record SlotSpelled (f : PlainForm) (s : PlainSlot) (all : List ℕ) : Type 0 where
  pub word : List ℕ
  pub body : List ℕ
  pub whole : all ≡ word ++ body
  pub sized : length word ≡ f.word
  pub def : ℕ
  pub small : def < 2 ^ f.bits
  pub number : word_number word ≡ s.rep * 2 ^ f.bits + def
  pub numbered : slice_get f.states def ≡ Some s.state
  pub within : s.rep ≤ f.lists
  pub is : BodyIs f s.state s.value body

-- the bytes are the slots, one after another
abbrev pub AreSpelled : PlainForm → List PlainSlot → List ℕ → Type 0
AreSpelled f [] all = all ≡ []
AreSpelled f (s ∷ slots) all = (part : List ℕ) × (rest : List ℕ) × (all ≡ part ++ rest) × SlotSpelled f s part × AreSpelled f slots rest

-- bytes are slots exactly where they are spelled so
abbrev pub SlotsAreSpelled : Type 0
SlotsAreSpelled = (f : PlainForm) (slots : List PlainSlot) (all : List ℕ) → AreSlots f slots all ↔ AreSpelled f slots all
