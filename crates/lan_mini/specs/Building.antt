-- Chunks as they are built.
use Rattle.std.specs.Prelude.{◌≡◌, ℕ, ◌+◌, ◌-◌, ◌*◌, ◌^◌, ◌<◌, ◌≤◌, ⊤, cond, IsTrue, List, [], ◌++◌, Some, length, take, drop, slice_get}
use Rattle.lan_bytes.specs.Numbers.{low_first}
use Rattle.lan_bytes.specs.Padding.{padded}
use Rattle.lan_levels.specs.declared.slot.State.{State}
use Rattle.lan_levels.specs.declared.slot.State.TheVariants as state
use Rattle.lan_levels.specs.PlainSlots.{PlainPiece, nothing, bit, bytes, PlainSlot}
use Rattle.lan_levels.specs.Values.{flat, bools, variable}
use Rattle.lan_levels.specs.Chunks.{small_chunks}
use Rattle.lan_levels.specs.ChunkForm.{ChunkForm, Storing, buffered, has_reps, has_defs, has_values}
use Rattle.lan_levels.specs.ChunkSlots.{one_if}
use Rattle.lan_levels.specs.MiniWritten.{carried, values_len, buffer_size, number_bytes, zero_padded, AreNumbered, IsShort, IsWrittenChunk, chunk_size, CanBeLast, IsFront, IsNext}
use Rattle.lan_mini.specs.declared.measuring.Total.{Total}
use Rattle.lan_mini.specs.declared.cutting.Front.{Front}
use Rattle.lan_mini.specs.declared.cutting.Cut.{Cut}

-- the slots from `from` to before `to`
abbrev pub range : List PlainSlot → ℕ → ℕ → List PlainSlot
range slots from to = take (to - from) (drop from slots)

-- a present value is as it is stored, and a slot in any other state has none
abbrev pub FitsStoring : Storing → State → PlainPiece → Type 0
FitsStoring (buffered bools) state.Here (bit b) = ⊤
FitsStoring (buffered (flat width)) state.Here (bytes bs) = length bs ≡ width
FitsStoring (buffered variable) state.Here (bytes bs) = ⊤
FitsStoring st state.Here _ = ⊥
FitsStoring st _ nothing = ⊤
FitsStoring st _ _ = ⊥

-- the slot can be a slot of a chunk of that form
pub record CanChunk (f : ChunkForm) (s : PlainSlot) : Type 0 where
  pub rep : s.rep ≤ f.lists
  pub number : ℕ
  pub numbered : slice_get f.states number ≡ Some s.state
  pub value : FitsStoring f.values s.state s.value
  pub short : IsShort f 4096 s

-- how many values the slots have, and how many bytes these
pub record IsTotal (f : ChunkForm) (slots : List PlainSlot) (t : Total) : Type 0 where
  pub values : t.values ≡ length (carried f slots)
  pub bytes : t.bytes ≡ values_len f.values (carried f slots)
  pub few : t.values ≤ length slots
  pub short : t.bytes ≤ 4096 * t.values

-- the bytes of a chunk of so many slots and so many values, which have so many bytes
abbrev pub sized : ChunkForm → ℕ → ℕ → ℕ → ℕ
sized f n values len = 8 + cond (has_reps f) (padded (2 * n)) 0 + cond (has_defs f) (padded (2 * n)) 0 + cond (has_values f) (padded (buffer_size f.values values len)) 0

-- the greatest power of two whose first slots fit a chunk and aren't more than the slots
pub record IsMost (f : ChunkForm) (slots : List PlainSlot) (front : Front) : Type 0 where
  pub small : front.log ≤ 12
  pub power : front.count ≡ 2 ^ front.log
  pub within : front.count ≤ length slots
  pub fits : chunk_size small_chunks f (take front.count slots) ≤ 32768
  pub total : IsTotal f (take front.count slots) front.total
  pub greatest : (j : ℕ) → IsFront small_chunks f slots j → j ≤ front.log
  pub stopped : IsTrue front.full → CanBeLast small_chunks f slots → ⊥

-- the next chunk of the slots
pub record IsCut (f : ChunkForm) (slots : List PlainSlot) (cut : Cut) : Type 0 where
  pub next : IsNext small_chunks f slots cut.log cut.count
  pub some : 0 < cut.count
  pub within : cut.count ≤ length slots
  pub few : cut.count ≤ 4096
  pub small : cut.log ≤ 12
  pub fits : chunk_size small_chunks f (take cut.count slots) ≤ 32768
  pub total : IsTotal f (take cut.count slots) cut.total

-- the bytes have grown by the numbers of the slots' states
pub record Numbered (f : ChunkForm) (slots : List PlainSlot) (old new : List ℕ) : Type 0 where
  pub defs : List ℕ
  pub numbered : AreNumbered f.states slots defs
  pub grown : new ≡ old ++ number_bytes 2 defs

-- the bytes have grown by a chunk
pub record Chunked (f : ChunkForm) (slots : List PlainSlot) (old new : List ℕ) : Type 0 where
  pub part : List ℕ
  pub is : IsWrittenChunk small_chunks f slots part
  pub grown : new ≡ old ++ part

-- some number stands for the state
abbrev pub HasNumber : List State → State → Type 0
HasNumber states s = (n : ℕ) × (slice_get states n ≡ Some s)

-- the numbers of the header of so many slots, whose values have so many bytes
abbrev pub header_numbers : ChunkForm → ℕ → ℕ → List ℕ
header_numbers f n size = low_first 2 n ++ cond (has_reps f) (low_first 2 (2 * n)) [] ++ cond (has_defs f) (low_first 2 (2 * n)) [] ++ cond (has_values f) (low_first 2 size) []

abbrev pub header_len : ChunkForm → ℕ
header_len f = 2 * (one_if (has_reps f) + one_if (has_defs f) + one_if (has_values f) + 1)

-- the bytes have grown by the buffer of definition numbers, where it is stored
pub record PutDefs (f : ChunkForm) (slots : List PlainSlot) (old new : List ℕ) : Type 0 where
  pub defs : List ℕ
  pub numbered : AreNumbered f.states slots defs
  pub grown : new ≡ old ++ cond (has_defs f) (zero_padded (number_bytes 2 defs)) []
