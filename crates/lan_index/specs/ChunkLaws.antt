-- What the index of rows says of the slots in the chunks.
use Rattle.std.specs.Prelude.{◌≡◌, ℕ, ◌*◌, List, length}
use Rattle.lan_levels.specs.PlainSlots.{PlainSlot}
use Rattle.lan_levels.specs.ZipSlots.{starts, FirstBegins}
use Rattle.lan_levels.specs.Chunks.{small_chunks, AreChunks, IsRowIndex}
use Rattle.lan_levels.specs.ChunkRows.{SaysRows, HoldsRow}
use Rattle.lan_index.specs.declared.run.Run.{Run}
use Rattle.lan_index.specs.Runs.{IsRowRun}

-- where the index says what the slots do, the run of a row is from the chunk of its first slot to that of its last, with the rows to skip
abbrev pub RunsHoldRows : Type 0
RunsHoldRows =
    (lists bytes row : ℕ) (words index : List ℕ) (slots : List PlainSlot) (run : Run) → AreChunks small_chunks (length slots) bytes words → SaysRows lists words index slots
    → IsRowRun words index row run → HoldsRow lists words slots row run.first run.past run.skip

-- what the slots of rows say is an index of these rows
abbrev pub RowsAreIndexed : Type 0
RowsAreIndexed =
    (lists bytes rows : ℕ) (words index : List ℕ) (slots : List PlainSlot) → AreChunks small_chunks (length slots) bytes words → length index ≡ 16 * length words → SaysRows lists words index slots
    → starts lists slots ≡ rows → FirstBegins lists slots → IsRowIndex words (length slots) rows index
