-- The slots that the buffers of a mini-block page stand for.
use Rattle.std.specs.Prelude.{◌≡◌, ℕ, ◌*◌, ◌<◌, List, [], ◌∷◌, length, take, drop, slice_index}
use Rattle.lan_bytes.specs.Numbers.{numbers_of}
use Rattle.lan_levels.specs.PlainSlots.{PlainSlot}
use Rattle.lan_levels.specs.ZipSlots.{AreRows}
use Rattle.lan_levels.specs.Chunks.{ChunkKind, word_bytes, bytes_ahead, AreChunks, AreWhole}
use Rattle.lan_levels.specs.ChunkRows.{slots_of_chunk, SaysRows}
use Rattle.lan_levels.specs.ChunkForm.{ChunkForm}
use Rattle.lan_levels.specs.ChunkSlots.{IsChunk}

-- the bytes of the chunk of that number, where these are those of all chunks
abbrev pub bytes_of_chunk : List ℕ → List ℕ → ℕ → List ℕ
bytes_of_chunk words content n = take (word_bytes (slice_index words n)) (drop (bytes_ahead words n) content)

-- the words cut the bytes into chunks, and the slots into those of each chunk
pub record AreChunkSlots (kind : ChunkKind) (f : ChunkForm) (words content : List ℕ) (slots : List PlainSlot) : Type 0 where
  pub chunks : AreChunks kind (length slots) (length content) words
  pub each : (n : ℕ) → n < length words → IsChunk kind f (bytes_of_chunk words content n) (slots_of_chunk words slots n)

-- what stands behind the chunks: where there are list layers the index of rows, else nothing
abbrev pub HasIndex : ℕ → List ℕ → List PlainSlot → List (List ℕ) → Type 0
HasIndex lists words slots [] = lists ≡ 0
HasIndex lists words slots (index ∷ []) = (0 < lists) × (length index ≡ 16 * length words) × SaysRows lists words index slots
HasIndex lists words slots (index ∷ more) = ⊥

-- the buffers are the words of chunks, the chunks and what stands behind them, of these slots, which are so many rows
pub record IsMini (kind : ChunkKind) (f : ChunkForm) (rows : ℕ) (words content : List ℕ) (more : List (List ℕ)) (slots : List PlainSlot) : Type 0 where
  pub whole : AreWhole kind words
  pub chunks : AreChunkSlots kind f (numbers_of kind.word words) content slots
  pub index : HasIndex f.lists (numbers_of kind.word words) slots more
  pub rows_are : AreRows f.lists rows slots
