-- What is written is read.
use Rattle.std.specs.Prelude.{ℕ, ◌<◌, ◌≤◌, List, ◌∷◌, length, All}
use Rattle.lan_levels.specs.ZipSlots.{AreRows}
use Rattle.lan_model.specs.declared.tree.Leaf.{Leaf}
use Rattle.lan_levels.specs.PlainSlots.{PlainSlot}
use Rattle.lan_levels.specs.ZipForm.{written_form}
use Rattle.lan_levels.specs.ZipWritten.{CanStand}
use Rattle.lan_levels.specs.Chunks.{small_chunks}
use Rattle.lan_levels.specs.ChunkForm.{written_chunk_form}
use Rattle.lan_levels.specs.ChunkSlots.{IsChunk}
use Rattle.lan_levels.specs.MiniSlots.{IsMini}
use Rattle.lan_levels.specs.MiniWritten.{IsShort, IsWrittenChunk, IsWrittenMini, chunk_size}

-- a chunk that is written is a chunk of its slots
abbrev pub ChunksAreRead : Type 0
ChunksAreRead =
    (leaf : Leaf) (slots : List PlainSlot) (all : List ℕ) → length leaf.layers ≤ 16 → All (CanStand (written_form leaf)) slots → All (IsShort (written_chunk_form leaf) 4096) slots → length slots ≤ 4096
    → chunk_size small_chunks (written_chunk_form leaf) slots ≤ 32768 → IsWrittenChunk small_chunks (written_chunk_form leaf) slots all → IsChunk small_chunks (written_chunk_form leaf) all slots

-- the buffers of a page that is written are a page of its slots, of as many rows as they begin
abbrev pub PagesAreRead : Type 0
PagesAreRead =
    (leaf : Leaf) (slots : List PlainSlot) (rows : ℕ) (words content : List ℕ) (more : List (List ℕ)) → length leaf.layers ≤ 16 → All (CanStand (written_form leaf)) slots → All (IsShort (written_chunk_form leaf) 4096) slots → 0 < length slots
    → AreRows (written_chunk_form leaf).lists rows slots → IsWrittenMini small_chunks (written_chunk_form leaf) slots (words ∷ content ∷ more) → IsMini small_chunks (written_chunk_form leaf) rows words content more slots
