-- A page's buffers as they are built.
use Rattle.std.specs.Prelude.{◌≡◌, ℕ, ◌^◌, ◌<◌, ⊤, List, ◌++◌, length}
use Rattle.lan_levels.specs.declared.shape.ValueForm.{ValueForm}
use Rattle.lan_levels.specs.declared.shape.ValueForm.TheVariants as value
use Rattle.lan_levels.specs.PlainSlots.{PlainPiece, bytes, PlainSlot}
use Rattle.lan_levels.specs.ZipForm.{PlainForm}
use Rattle.lan_levels.specs.ZipWritten.{SlotIs}

-- the bytes have grown by the slot
pub record Appends (f : PlainForm) (s : PlainSlot) (old new : List ℕ) : Type 0 where
  pub part : List ℕ
  pub is : SlotIs f s part
  pub grown : new ≡ old ++ part

-- the length of a value of any length has room in four bytes
abbrev pub IsShort : ValueForm → PlainPiece → Type 0
IsShort value.Variable (bytes bs) = length bs < 2 ^ 32
IsShort _ _ = ⊤
