-- The slots that the bytes of a chunk stand for.
use Rattle.std.specs.Prelude.{◌≡◌, ℕ, ◌+◌, ◌*◌, ◌<◌, ◌≤◌, not, cond, ⊤, Bool, IsTrue, List, [], ◌∷◌, length, take, drop, replicate, slice_get, slice_index, unwrap_or}
use Rattle.std.specs.Int.{w16, byte_len}
use Rattle.lan_bytes.specs.Numbers.{number_at, numbers_of}
use Rattle.lan_bytes.specs.Padding.{padded}
use Rattle.lan_levels.specs.declared.slot.State.{State}
use Rattle.lan_levels.specs.declared.slot.State.TheVariants as state
use Rattle.lan_levels.specs.PlainSlots.{PlainPiece, nothing, PlainSlot}
use Rattle.lan_levels.specs.Values.{IsBuffer, values_of, same_values}
use Rattle.lan_levels.specs.ZipSlots.{is_bare}
use Rattle.lan_levels.specs.Chunks.{ChunkKind}
use Rattle.lan_levels.specs.ChunkForm.{ChunkForm, Storing, buffered, always, has_reps, has_defs, has_values}

-- A chunk begins with a header: how many slots it has, and of each buffer how many bytes. Then the
-- buffers follow. The header and each buffer are padded.

-- the number of that place in the header, counted from 0
abbrev pub header_number : ChunkKind → List ℕ → ℕ → ℕ
header_number kind all k = number_at kind.word all (byte_len kind.word * k)

abbrev pub one_if : Bool → ℕ
one_if b = cond b 1 0

abbrev pub buffer_count : ChunkForm → ℕ
buffer_count f = one_if (has_reps f) + one_if (has_defs f) + one_if (has_values f)

abbrev pub header_end : ChunkKind → ChunkForm → ℕ
header_end kind f = padded (byte_len kind.word * (buffer_count f + 1))

-- whether a buffer is stored, its number among those that are, counted from 0, and where it begins
pub record Buffer : Type 0 where
  pub stored : Bool
  pub number : ℕ
  pub at : ℕ

abbrev pub buffer_len : ChunkKind → List ℕ → Buffer → ℕ
buffer_len kind all b = header_number kind all (b.number + 1)

-- where what follows a buffer begins
abbrev pub buffer_end : ChunkKind → List ℕ → Buffer → ℕ
buffer_end kind all b = cond b.stored (b.at + padded (buffer_len kind all b)) b.at

abbrev pub buffer_bytes : ChunkKind → List ℕ → Buffer → List ℕ
buffer_bytes kind all b = cond b.stored (take (buffer_len kind all b) (drop b.at all)) []

-- the buffer behind another
abbrev pub buffer_after : ChunkKind → List ℕ → Buffer → Bool → Buffer
buffer_after kind all b stored = record { stored = stored; number = b.number + one_if b.stored; at = buffer_end kind all b }

-- first the repetition numbers, then the definition numbers, then the values
abbrev pub reps_buffer : ChunkKind → ChunkForm → Buffer
reps_buffer kind f = record { stored = has_reps f; number = 0; at = header_end kind f }

abbrev pub defs_buffer : ChunkKind → ChunkForm → List ℕ → Buffer
defs_buffer kind f all = buffer_after kind all (reps_buffer kind f) (has_defs f)

abbrev pub values_buffer : ChunkKind → ChunkForm → List ℕ → Buffer
values_buffer kind f all = buffer_after kind all (defs_buffer kind f all) (has_values f)

-- a level's numbers, two bytes each
abbrev pub level_numbers : Bool → ℕ → List ℕ → List ℕ
level_numbers stored n bs = cond stored (numbers_of w16 bs) (replicate n 0)

abbrev pub level_in : ChunkKind → List ℕ → ℕ → Buffer → List ℕ
level_in kind all n b = level_numbers b.stored n (buffer_bytes kind all b)

abbrev pub reps_in : ChunkKind → ChunkForm → ℕ → List ℕ → List ℕ
reps_in kind f n all = level_in kind all n (reps_buffer kind f)

abbrev pub defs_in : ChunkKind → ChunkForm → ℕ → List ℕ → List ℕ
defs_in kind f n all = level_in kind all n (defs_buffer kind f all)

-- the state of a definition number
abbrev pub state_named : List State → ℕ → State
state_named states d = unwrap_or (slice_get states d) state.Here

-- whether the slots with that definition number have a value, looked at or not
abbrev pub has_value : ChunkForm → ℕ → Bool
has_value f d = not (is_bare f.layers (state_named f.states d))

-- how many values the slots with these definition numbers have
abbrev pub value_count : ChunkForm → List ℕ → ℕ
value_count f [] = 0
value_count f (d ∷ ds) = one_if (has_value f d) + value_count f ds

abbrev pub pieces_in : Storing → ℕ → List ℕ → List PlainPiece
pieces_in (buffered e) n bs = values_of e n bs
pieces_in (always p) n bs = same_values p n

-- only a present value is kept
abbrev pub first_kept : State → List PlainPiece → PlainPiece
first_kept state.Here (v ∷ vs) = v
first_kept _ _ = nothing

-- the slots with these levels, of which each that has a value takes the next
unfoldable pub woven : ChunkForm → List ℕ → List ℕ → List PlainPiece → List PlainSlot
woven f (r ∷ rs) (d ∷ ds) vs =
    let s = state_named f.states d in
    record { rep = r; state = s; value = first_kept s vs } ∷ woven f rs ds (drop (one_if (has_value f d)) vs)
woven f _ _ vs = []

-- a level buffer ends within the chunk, and has a number for each slot
pub record IsLevelBuffer (kind : ChunkKind) (n : ℕ) (all : List ℕ) (b : Buffer) : Type 0 where
  pub within : buffer_end kind all b ≤ length all
  pub size : IsTrue b.stored → buffer_len kind all b ≡ 2 * n

-- the bytes have the header and the buffers of `n` slots
pub record HasBuffers (kind : ChunkKind) (f : ChunkForm) (n : ℕ) (all : List ℕ) : Type 0 where
  pub header : header_end kind f ≤ length all
  pub count : header_number kind all 0 ≡ n
  pub reps : IsLevelBuffer kind n all (reps_buffer kind f)
  pub defs : IsLevelBuffer kind n all (defs_buffer kind f all)
  pub values : buffer_end kind all (values_buffer kind f all) ≤ length all

-- no level of the slot of that number is too great
pub record LevelFits (f : ChunkForm) (reps defs : List ℕ) (i : ℕ) : Type 0 where
  pub rep : slice_index reps i ≤ f.lists
  pub def : slice_index defs i < length f.states

-- none of the first slots, so many of them, has a level that is too great
abbrev pub LevelsFit : ChunkForm → List ℕ → List ℕ → ℕ → Type 0
LevelsFit f reps defs past = (i : ℕ) → i < past → LevelFits f reps defs i

abbrev pub AreStored : Storing → ℕ → List ℕ → Type 0
AreStored (buffered e) n bs = IsBuffer e n bs
AreStored (always p) n bs = ⊤

abbrev pub values_in : ChunkKind → ChunkForm → List ℕ → List ℕ
values_in kind f all = buffer_bytes kind all (values_buffer kind f all)

abbrev pub slots_in : ChunkKind → ChunkForm → ℕ → List ℕ → List PlainSlot
slots_in kind f n all =
    let defs = defs_in kind f n all in
    woven f (reps_in kind f n all) defs (pieces_in f.values (value_count f defs) (values_in kind f all))

-- the bytes are a chunk of `n` slots
pub record IsChunkOf (kind : ChunkKind) (f : ChunkForm) (n : ℕ) (all : List ℕ) : Type 0 where
  pub buffers : HasBuffers kind f n all
  pub levels : LevelsFit f (reps_in kind f n all) (defs_in kind f n all) n
  pub values : AreStored f.values (value_count f (defs_in kind f n all)) (values_in kind f all)
  pub whole : buffer_end kind all (values_buffer kind f all) ≡ length all

-- the bytes are a chunk of these slots
pub record IsChunk (kind : ChunkKind) (f : ChunkForm) (all : List ℕ) (slots : List PlainSlot) : Type 0 where
  pub is : IsChunkOf kind f (length slots) all
  pub are : slots ≡ slots_in kind f (length slots) all

-- the bytes of a chunk stand for one list of slots
abbrev pub ChunksAreUnique : Type 0
ChunksAreUnique = (kind : ChunkKind) (f : ChunkForm) (all : List ℕ) (xs ys : List PlainSlot) → IsChunk kind f all xs → IsChunk kind f all ys → xs ≡ ys
