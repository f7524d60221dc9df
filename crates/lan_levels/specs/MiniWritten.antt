-- The buffers of a mini-block page that is written.
use Rattle.std.specs.Prelude.{◌≡◌, ℕ, ◌+◌, ◌-◌, ◌*◌, ◌/◌, ◌^◌, ◌<◌, ◌≤◌, ◌⊎◌, cond, ⊤, Bool, false, List, [], ◌∷◌, ◌++◌, Some, map, flat_map, replicate, length, take, slice_get}
use Rattle.std.specs.Int.{byte_len}
use Rattle.lan_bytes.specs.Numbers.{low_first}
use Rattle.lan_bytes.specs.Padding.{padded}
use Rattle.lan_levels.specs.declared.slot.State.{State}
use Rattle.lan_levels.specs.PlainSlots.{PlainPiece, bit, bytes, PlainSlot}
use Rattle.lan_levels.specs.Values.{Encoding, flat, bools, variable}
use Rattle.lan_levels.specs.BuiltValues.{bool_bytes, variable_bytes}
use Rattle.lan_levels.specs.ZipSlots.{is_bare, starts}
use Rattle.lan_levels.specs.ZipRows.{slots_before}
use Rattle.lan_levels.specs.Chunks.{ChunkKind}
use Rattle.lan_levels.specs.ChunkForm.{ChunkForm, Storing, buffered, always, has_reps, has_defs, has_values}
use Rattle.lan_levels.specs.ChunkSlots.{header_end, one_if}

-- the values of the slots that have one
abbrev pub carried : ChunkForm → List PlainSlot → List PlainPiece
carried f [] = []
carried f (s ∷ slots) = cond (is_bare f.layers s.state) (carried f slots) (s.value ∷ carried f slots)

-- a value; where there is none, zero bytes, false or the empty text
abbrev pub fixed_bytes : ℕ → PlainPiece → List ℕ
fixed_bytes width (bytes bs) = bs
fixed_bytes width _ = replicate width 0

abbrev pub truth : PlainPiece → Bool
truth (bit b) = b
truth _ = false

abbrev pub text_bytes : PlainPiece → List ℕ
text_bytes (bytes bs) = bs
text_bytes _ = []

abbrev pub value_buffer : Encoding → List PlainPiece → List ℕ
value_buffer (flat width) vs = flat_map (fixed_bytes width) vs
value_buffer bools vs = bool_bytes ((length vs + 7) / 8) (map truth vs)
value_buffer variable vs = variable_bytes (map text_bytes vs)

abbrev pub stored_values : Storing → List PlainPiece → List ℕ
stored_values (buffered e) vs = value_buffer e vs
stored_values (always p) vs = []

-- how many bytes a value has: a fixed one its width, a bool counts 1
abbrev pub value_len : Storing → PlainPiece → ℕ
value_len (buffered (flat width)) v = width
value_len (buffered bools) v = 1
value_len (buffered variable) v = length (text_bytes v)
value_len (always p) v = 0

abbrev pub values_len : Storing → List PlainPiece → ℕ
values_len st [] = 0
values_len st (v ∷ vs) = value_len st v + values_len st vs

-- how many bytes the buffer of so many values has, which have so many bytes together
abbrev pub buffer_size : Storing → ℕ → ℕ → ℕ
buffer_size (buffered (flat width)) n len = len
buffer_size (buffered bools) n len = (n + 7) / 8
buffer_size (buffered variable) n len = 4 * (n + 1) + len
buffer_size (always p) n len = 0

abbrev pub stored_size : ChunkForm → List PlainSlot → ℕ
stored_size f slots = let vs = carried f slots in buffer_size f.values (length vs) (values_len f.values vs)

-- no value has more than so many bytes
abbrev pub IsShort : ChunkForm → ℕ → PlainSlot → Type 0
IsShort f most s = is_bare f.layers s.state ≡ false → value_len f.values s.value ≤ most

-- numbers of so many bytes each, the lowest byte first
abbrev pub number_bytes : ℕ → List ℕ → List ℕ
number_bytes width ns = flat_map (low_first width) ns

-- zeros up to a multiple of 8
abbrev pub zeros_behind : ℕ → List ℕ
zeros_behind n = replicate (padded n - n) 0

abbrev pub zero_padded : List ℕ → List ℕ
zero_padded bs = bs ++ zeros_behind (length bs)

-- each number stands for the slot's state
abbrev pub AreNumbered : List State → List PlainSlot → List ℕ → Type 0
AreNumbered states [] [] = ⊤
AreNumbered states (s ∷ slots) (d ∷ defs) = (slice_get states d ≡ Some s.state) × AreNumbered states slots defs
AreNumbered states _ _ = ⊥

abbrev pub rep_bytes : List PlainSlot → List ℕ
rep_bytes slots = number_bytes 2 (map (λ s. s.rep) slots)

-- the number of slots, and how many bytes each buffer has
abbrev pub header_bytes : ChunkKind → ChunkForm → List PlainSlot → List ℕ
header_bytes kind f slots =
    let width = byte_len kind.word in
    let level = low_first width (2 * length slots) in
    low_first width (length slots) ++ cond (has_reps f) level [] ++ cond (has_defs f) level [] ++ cond (has_values f) (low_first width (stored_size f slots)) []

-- a chunk of slots, with the numbers of their states
abbrev pub chunk_bytes : ChunkKind → ChunkForm → List PlainSlot → List ℕ → List ℕ
chunk_bytes kind f slots defs =
    header_bytes kind f slots ++ zeros_behind (byte_len kind.word * (one_if (has_reps f) + one_if (has_defs f) + one_if (has_values f) + 1))
    ++ cond (has_reps f) (zero_padded (rep_bytes slots)) []
    ++ cond (has_defs f) (zero_padded (number_bytes 2 defs)) []
    ++ cond (has_values f) (zero_padded (stored_values f.values (carried f slots))) []

pub record IsWrittenChunk (kind : ChunkKind) (f : ChunkForm) (slots : List PlainSlot) (all : List ℕ) : Type 0 where
  pub defs : List ℕ
  pub numbered : AreNumbered f.states slots defs
  pub is : all ≡ chunk_bytes kind f slots defs

-- how many bytes a chunk of the slots has
abbrev pub chunk_size : ChunkKind → ChunkForm → List PlainSlot → ℕ
chunk_size kind f slots =
    header_end kind f + cond (has_reps f) (padded (2 * length slots)) 0 + cond (has_defs f) (padded (2 * length slots)) 0 + cond (has_values f) (padded (stored_size f slots)) 0

-- the slots can be the last chunk
pub record CanBeLast (kind : ChunkKind) (f : ChunkForm) (slots : List PlainSlot) : Type 0 where
  pub few : length slots ≤ 2 ^ kind.top
  pub fits : chunk_size kind f slots ≤ kind.most

-- a power of two that is fewer than the slots, and whose first slots fit a chunk
pub record IsFront (kind : ChunkKind) (f : ChunkForm) (slots : List PlainSlot) (log : ℕ) : Type 0 where
  pub small : log ≤ kind.top
  pub fewer : 2 ^ log < length slots
  pub fits : chunk_size kind f (take (2 ^ log) slots) ≤ kind.most

-- the first `n` of the slots are the next chunk: all where they can be the last, else the greatest power of two
abbrev pub IsNext : ChunkKind → ChunkForm → List PlainSlot → ℕ → ℕ → Type 0
IsNext kind f slots log n =
    (CanBeLast kind f slots × (log ≡ 0) × (n ≡ length slots))
    ⊎ ((CanBeLast kind f slots → ⊥) × IsFront kind f slots log × ((j : ℕ) → IsFront kind f slots j → j ≤ log) × (n ≡ 2 ^ log))

-- a chunk of a page: its slots, the logarithm in its word, its bytes
pub record ChunkPart : Type 0 where
  pub slots : List PlainSlot
  pub log : ℕ
  pub bytes : List ℕ

-- the parts are the chunks of the slots, of which each has some
abbrev pub AreParts : ChunkKind → ChunkForm → List PlainSlot → List ChunkPart → Type 0
AreParts kind f slots [] = slots ≡ []
AreParts kind f slots (p ∷ ps) =
    (0 < length p.slots) × IsNext kind f slots p.log (length p.slots) × IsWrittenChunk kind f p.slots p.bytes × ((rest : List PlainSlot) × (slots ≡ p.slots ++ rest) × AreParts kind f rest ps)

-- how many times eight bytes the chunk has, less one, above the four bits of the logarithm
abbrev pub word_of : ChunkPart → ℕ
word_of p = 16 * (length p.bytes / 8 - 1) + p.log

abbrev pub words_bytes : ChunkKind → List ChunkPart → List ℕ
words_bytes kind ps = flat_map (λ p. low_first (byte_len kind.word) (word_of p)) ps

abbrev pub content_bytes : List ChunkPart → List ℕ
content_bytes ps = flat_map (λ p. p.bytes) ps

-- how many rows begin in each chunk, and how many slots stand before the first of these
abbrev pub index_bytes : ℕ → List ChunkPart → List ℕ
index_bytes lists ps = flat_map (λ p. low_first 8 (starts lists p.slots) ++ low_first 8 (length (slots_before lists 0 p.slots))) ps

-- the buffers of the slots
pub record IsWrittenMini (kind : ChunkKind) (f : ChunkForm) (slots : List PlainSlot) (buffers : List (List ℕ)) : Type 0 where
  pub parts : List ChunkPart
  pub are : AreParts kind f slots parts
  pub whole : buffers ≡ words_bytes kind parts ∷ content_bytes parts ∷ cond (has_reps f) (index_bytes f.lists parts ∷ []) []
