-- Kept slots as plain data: the bytes of all of them stand in one list.
use Rattle.std.specs.Prelude.{◌≡◌, ℕ, ◌-◌, ◌≤◌, List, [], ◌∷◌, ◌++◌, length, map, take, drop, ⊤}
use Rattle.lan_levels.specs.declared.buffer.Held.{Held}
use Rattle.lan_levels.specs.declared.buffer.Held.TheVariants as held
use Rattle.lan_levels.specs.declared.buffer.Kept.{Kept}
use Rattle.lan_levels.specs.PlainSlots.{PlainPiece, nothing, bit, bytes, PlainSlot}

abbrev pub kept_piece : List ℕ → Held → PlainPiece
kept_piece all held.Nothing = nothing
kept_piece all (held.Bit b) = bit b
kept_piece all (held.Bytes at past) = bytes (take (past - at) (drop at all))

abbrev pub kept_slot : List ℕ → Kept → PlainSlot
kept_slot all s = record { rep = s.rep; state = s.state; value = kept_piece all s.value }

abbrev pub kept_slots : List ℕ → List Kept → List PlainSlot
kept_slots all = map (kept_slot all)

-- the piece's bytes are among the first `count`
abbrev pub IsWithin : ℕ → Held → Type 0
IsWithin count (held.Bytes at past) = (at ≤ past) × (past ≤ count)
IsWithin count _ = ⊤

abbrev pub AreWithin : ℕ → List Kept → Type 0
AreWithin count [] = ⊤
AreWithin count (s ∷ ss) = IsWithin count s.value × AreWithin count ss

-- the piece is kept, and all bytes before it stay
pub record Keeping (old new : List ℕ) (piece : PlainPiece) (value : Held) : Type 0 where
  pub more : List ℕ
  pub grown : new ≡ old ++ more
  pub within : IsWithin (length new) value
  pub is : kept_piece new value ≡ piece
