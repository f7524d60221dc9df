-- What a reader of a column still asks for the rows to come.
use Rattle.std.specs.Prelude.{ℕ, ◌+◌, ◌-◌, Bool, true, false, ◌&&◌, cond, List, [], ◌∷◌, nat_le, nat_lt, drop, Option, is_some}
use Rattle.lan_model.specs.declared.range.Range.{Range}
use Rattle.lan_model.specs.Leaves.{PlainLeaf}
use Rattle.lan_levels.specs.Past.{past}
use Rattle.lan_levels.specs.Pieces.{pieces_from}
use Rattle.lan_levels.specs.Stretch.{Stretch, size}
use Rattle.lan_store.specs.Budget.{Budget, nothing, plus}
use Rattle.lan_meta.specs.declared.page.PageMeta.{PageMeta}
use Rattle.lan_page.specs.Asking.{index_budget, content_budget}
use Rattle.lan_page.specs.ColumnCursors.{PlainCursor, cursor_leaf, row_past}
use Rattle.lan_page.specs.Held.{held_run}

-- a range for each part of the content
unfoldable pub parts_due : List Range → List Stretch → Budget
parts_due buffers [] = nothing
parts_due buffers (part ∷ parts) = plus (content_budget buffers (size part)) (parts_due buffers parts)

-- the index of a page, unless it is known or none of its rows are to come
abbrev pub index_due : Bool → PageMeta → List ℕ → Budget
index_due known page [] = nothing
index_due known page (row ∷ kept) = cond known nothing (index_budget page)

-- the rows that lie in a page, counted from its front
unfoldable pub rows_in : ℕ → ℕ → List ℕ → List ℕ
rows_in first rows [] = []
rows_in first rows (row ∷ kept) = cond (nat_le first row && nat_lt row (first + rows)) ((row - first) ∷ rows_in first rows kept) (rows_in first rows kept)

-- of a page whose rows before `q` are in memory: its index, and its pieces
abbrev pub page_due : PlainLeaf → PageMeta → Option (List ℕ) → Bool → ℕ → List ℕ → Budget
page_due leaf page held known q kept = plus (index_due known page kept) (parts_due page.buffers (pieces_from (held_run leaf page held) page.rows q kept))

-- of these pages, the first of which begins with the row `first` and stands so
unfoldable pub pages_due : PlainLeaf → Option (List ℕ) → List PageMeta → ℕ → Bool → ℕ → List ℕ → Budget
pages_due leaf held [] first known q kept = nothing
pages_due leaf held (page ∷ pages) first known q kept = plus (page_due leaf page held known q (rows_in first page.rows kept)) (pages_due leaf held pages (first + page.rows) false 0 kept)

-- of a column of which nothing was read: for each page that has rows to come its index, and its pieces
abbrev pub column_due : PlainLeaf → List PageMeta → Option (List ℕ) → List ℕ → Budget
column_due leaf pages held kept = pages_due leaf held pages 0 false 0 kept

-- what the reader still asks
abbrev pub still_due : PlainCursor → Option (List ℕ) → List ℕ → Budget
still_due c held kept = pages_due (cursor_leaf c) held (drop c.page c.pages) c.first (is_some c.index) (row_past c.rows) kept

-- and once the piece that begins at a row of the page at hand is in memory
abbrev pub due_behind : PlainCursor → PageMeta → Option (List ℕ) → ℕ → List ℕ → Budget
due_behind c page held row kept = pages_due (cursor_leaf c) held (drop c.page c.pages) c.first true (past (held_run (cursor_leaf c) page held) page.rows (row - c.first)) kept
