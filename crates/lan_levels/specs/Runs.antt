-- Where the rows of a page lie in its content buffer, by its layout.
use Rattle.std.specs.Prelude.{◌≡◌, ℕ, ◌+◌, ◌-◌, ◌*◌, ◌<◌, ◌≤◌, ⊤, Bool, ◌||◌, ◌&&◌, List, length, nat_le, nat_lt}
use Rattle.lan_levels.specs.Stretch.{Stretch, IsRising}
use Rattle.lan_levels.specs.Past.{greatest}
use Rattle.lan_levels.specs.Offsets.{place_at, AreOffsets}
use Rattle.lan_levels.specs.Chunks.{bytes_ahead, rows_before, lead_at, small_chunks, AreChunks, IsRowIndex}

-- what a page's index says: there is no content; rows of one width; the places of rows; chunks with so many slots in all, by their words and
-- the index of rows
pub data Runs : Type 0 where
  empty : Runs
  even : ℕ → Runs
  placed : List ℕ → Runs
  chunked : ℕ → List ℕ → List ℕ → Runs

-- no more rows begin before the chunk than before the row
unfoldable pub is_reached : List ℕ → ℕ → ℕ → Bool
is_reached index row n = nat_le (rows_before index n) row

-- the chunk has slots of the row, or of a row before it: no row behind it begins before the chunk, and slots stand there before the first row
unfoldable pub is_held : List ℕ → ℕ → ℕ → Bool
is_held index row n = nat_le (rows_before index n) row || (nat_le (rows_before index n) (row + 1) && nat_lt 0 (lead_at index n))

-- the chunk in which the row begins, and the last that has slots of it
abbrev pub first_chunk : List ℕ → List ℕ → ℕ → ℕ
first_chunk words index row = greatest (is_reached index row) (length words - 1)

abbrev pub last_chunk : List ℕ → List ℕ → ℕ → ℕ
last_chunk words index row = greatest (is_held index row) (length words - 1)

-- the part of the content that holds a row
abbrev pub run : Runs → ℕ → Stretch
run empty row = record { from = 0; past = 0 }
run (even width) row = record { from = width * row; past = width * (row + 1) }
run (placed places) row = record { from = place_at places row; past = place_at places (row + 1) }
run (chunked slots words index) row = record { from = bytes_ahead words (first_chunk words index row); past = bytes_ahead words (last_chunk words index row + 1) }

-- the index is one of so many rows in so many bytes of content
abbrev pub IsIndex : Runs → ℕ → ℕ → Type 0
IsIndex empty rows bytes = ⊤
IsIndex (even width) rows bytes = width * rows ≡ bytes
IsIndex (placed places) rows bytes = AreOffsets rows bytes places
IsIndex (chunked slots words index) rows bytes = AreChunks small_chunks slots bytes words × IsRowIndex words slots rows index

-- the runs of the rows rise, and lie in the content
pub record AreRuns (r : Runs) (rows bytes : ℕ) : Type 0 where
  pub rising : IsRising (run r) rows
  pub order : (row : ℕ) → row < rows → (run r row).from ≤ (run r row).past
  pub within : (row : ℕ) → row < rows → (run r row).past ≤ bytes

abbrev pub IndexedRunsRise : Type 0
IndexedRunsRise = (r : Runs) (rows bytes : ℕ) → IsIndex r rows bytes → AreRuns r rows bytes
