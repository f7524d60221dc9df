-- The parts of a page's content that are read for some of its rows.
use Rattle.std.specs.Prelude.{ℕ, ◌+◌, ◌<◌, ◌≤◌, ⊤, List, [], ◌∷◌, cond, nat_lt, Contains}
use Rattle.lan_levels.specs.Stretch.{Stretch, cover}
use Rattle.lan_levels.specs.Past.{past}

-- the piece that begins at a row
abbrev pub piece : (ℕ → Stretch) → ℕ → ℕ → Stretch
piece run rows row = cover run row (past run rows row)

-- the pieces still to be read for a rising list of rows, where the last piece ends before the row `q`
unfoldable pub pieces_from : (ℕ → Stretch) → ℕ → ℕ → List ℕ → List Stretch
pieces_from run rows q [] = []
pieces_from run rows q (row ∷ kept) = cond (nat_lt row q) (pieces_from run rows q kept) (piece run rows row ∷ pieces_from run rows (past run rows row) kept)

-- the first piece begins at the first row, each later one at the first row behind the piece before
abbrev pub pieces : (ℕ → Stretch) → ℕ → List ℕ → List Stretch
pieces run rows kept = pieces_from run rows 0 kept

-- each number is at least this one and above those before it
abbrev pub AreRising : ℕ → List ℕ → Type 0
AreRising low [] = ⊤
AreRising low (row ∷ kept) = (low ≤ row) × AreRising (row + 1) kept

-- one of the pieces has the row: the one that begins at `first`
pub record IsRead (run : ℕ → Stretch) (rows row : ℕ) (parts : List Stretch) : Type 0 where
  pub first : ℕ
  pub behind : first ≤ row
  pub before : row < past run rows first
  pub stands : Contains parts (piece run rows first)

-- each kept row that no piece before had is in one that is still to be read
abbrev pub EachRowIsRead : Type 0
EachRowIsRead = (run : ℕ → Stretch) (rows low q row : ℕ) (kept : List ℕ) → AreRising low kept → Contains kept row → q ≤ row → row < rows → IsRead run rows row (pieces_from run rows q kept)
