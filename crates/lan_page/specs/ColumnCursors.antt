-- A reader of a column's rows in rising order: what it has in memory, and what it asks for a row.
use Rattle.std.specs.Prelude.{◌≡◌, ℕ, ◌+◌, ◌-◌, ◌^◌, ◌<◌, ◌≤◌, ⊤, Bool, false, cond, nat_lt, List, [], ◌∷◌, length, take, drop, slice_get, All, Option, Some, None, is_some, IsSome, IfSome, IsSomeAnd, Result, Ok, Err}
use Rattle.std.specs.Option.{ForSome}
use Rattle.lan_model.specs.declared.tree.Leaf.{Leaf}
use Rattle.lan_model.specs.Leaves.{PlainLeaf, plain_leaf}
use Rattle.lan_levels.specs.Past.{past}
use Rattle.lan_levels.specs.PlainSlots.{PlainSlot}
use Rattle.lan_levels.specs.SlotsOf.{lists_in}
use Rattle.lan_levels.specs.ZipRows.{slots_of_rows}
use Rattle.lan_store.specs.declared.name.Name.{Name}
use Rattle.lan_store.specs.Budget.{Budget, nothing, plus}
use Rattle.lan_meta.specs.declared.page.PageMeta.{PageMeta}
use Rattle.lan_meta.specs.PageKeeps.{KeepsRules}
use Rattle.lan_page.specs.declared.fault.PageFault.{PageFault}
use Rattle.lan_page.specs.declared.fault.PageFault.TheVariants.{Outside, Store, Memory}
use Rattle.lan_page.specs.Asking.{IsIndexOf, index_budget, content_budget, first_len}
use Rattle.lan_page.specs.Columns.{rows_of, RowsReasonStands, ColumnReasonStands}
use Rattle.lan_page.specs.Held.{held_run, HoldsPage}
use Rattle.lan_page.specs.PieceRows.{PlainRows}

-- the object and the column of which it reads; the number of the page at hand, and the column's row that begins it; the page's index,
-- where it was fetched; and the slots of a piece of the page, where one is at hand
pub record PlainCursor : Type 0 where
  pub name : Name
  pub leaf : Leaf
  pub pages : List PageMeta
  pub page : ℕ
  pub first : ℕ
  pub index : Option (List ℕ)
  pub rows : Option PlainRows

abbrev pub cursor_name : PlainCursor → Name
cursor_name c = c.name

abbrev pub cursor_leaf : PlainCursor → PlainLeaf
cursor_leaf c = plain_leaf c.leaf

abbrev pub cursor_pages : PlainCursor → List PageMeta
cursor_pages c = c.pages

-- nothing was read
abbrev pub at_first : Name → Leaf → List PageMeta → PlainCursor
at_first name leaf pages = record { name = name; leaf = leaf; pages = pages; page = 0; first = 0; index = None; rows = None }

-- it reads of the same object and column
pub record ReadsSame (old new : PlainCursor) : Type 0 where
  pub name : new.name ≡ old.name
  pub leaf : new.leaf ≡ old.leaf
  pub pages : new.pages ≡ old.pages

-- ---- rows

-- of the page's rows, the one at hand, and the one behind the piece
abbrev pub row_at : Option PlainRows → ℕ
row_at None = 0
row_at (Some r) = r.row

abbrev pub row_past : Option PlainRows → ℕ
row_past None = 0
row_past (Some r) = r.past

-- the first row of the column that may still be sought: the row at hand, where one is
abbrev pub next_row : PlainCursor → ℕ
next_row c = c.first + row_at c.rows

-- the rows before this one that are still sought cost nothing
abbrev pub reach : PlainCursor → ℕ
reach c = c.first + row_past c.rows

abbrev pub HasRow : PlainCursor → Type 0
HasRow c = IsSome c.rows

-- the slots of this row are at hand
abbrev pub IsAt : PlainCursor → ℕ → Type 0
IsAt c row = HasRow c × (next_row c ≡ row)

-- ---- what it knows

-- the slots are those of the piece that begins at the first of the rows
pub record AreRowsOf (leaf : PlainLeaf) (page : PageMeta) (held : Option (List ℕ)) (slots : List PlainSlot) (r : PlainRows) : Type 0 where
  pub past_is : r.past ≡ past (held_run leaf page held) page.rows r.from
  pub slots_are : r.slots ≡ slots_of_rows (lists_in leaf.layers) r.from r.past slots

-- what is in memory is what the object has: the page's index, and where it holds the page, the slots of a piece
pub record Knows (c : PlainCursor) (held : Option (List ℕ)) : Type 0 where
  pub index : ForSome (slice_get c.pages c.page) (λ page. IfSome c.index (IsIndexOf page held))
  pub rows : ForSome (slice_get c.pages c.page) (λ page. (slots : List PlainSlot) → HoldsPage (cursor_leaf c) page held slots → IfSome c.rows (AreRowsOf (cursor_leaf c) page held slots))

-- ---- what is asked

-- for a row of these pages, counted from the first of them: its page's index, unless that is the first's and known, and a part of the content
abbrev pub most_of : Bool → List PageMeta → ℕ → Budget
most_of known [] row = nothing
most_of known (page ∷ pages) row = cond (nat_lt row page.rows) (plus (cond known nothing (index_budget page)) (content_budget page.buffers (first_len page.buffers))) (most_of false pages (row - page.rows))

-- for a row of the column: nothing where its slots are in memory
abbrev pub seek_most : PlainCursor → ℕ → Budget
seek_most c row = cond (nat_lt row (reach c)) nothing (most_of (is_some c.index) (drop c.page c.pages) (row - c.first))

-- why a row isn't had
abbrev pub RefusesColumn : PlainLeaf → List PageMeta → Option (List ℕ) → PageFault → Type 0
RefusesColumn leaf pages held (Outside why place) = ColumnReasonStands leaf pages held why place
RefusesColumn leaf pages held Store = ⊤
RefusesColumn leaf pages held Memory = ⊤

-- ---- what holds of each

-- the pages keep to the rules, and the page at hand has the rows
pub record IsCursor (leaf : PlainLeaf) (pages : List PageMeta) (page first : ℕ) (rows : Option PlainRows) : Type 0 where
  pub few : length leaf.layers ≤ 16
  pub rules : All (KeepsRules leaf) pages
  pub count : rows_of pages < 2 ^ 64
  pub within : page ≤ length pages
  pub first_is : first ≡ rows_of (take page pages)
  pub rows_are : IfSome rows (λ r. (r.lists ≡ lists_in leaf.layers) × IsSomeAnd (slice_get pages page) (λ (p : PageMeta). r.past ≤ p.rows))

-- the row lies in the page of that number, which begins with the row `first`
pub record LiesIn (pages : List PageMeta) (page first row : ℕ) : Type 0 where
  pub first_is : first ≡ rows_of (take page pages)
  pub behind : first ≤ row
  pub before : IsSomeAnd (slice_get pages page) (λ (p : PageMeta). row < first + p.rows)

-- the same page is at hand, and no rows of it
pub record StaysAt (old new : PlainCursor) : Type 0 where
  pub page : new.page ≡ old.page
  pub first : new.first ≡ old.first
  pub rows : new.rows ≡ None

-- it has the same index and piece
pub record StaysIn (old new : PlainCursor) : Type 0 where
  pub page : new.page ≡ old.page
  pub first : new.first ≡ old.first
  pub index : new.index ≡ old.index
  pub past : row_past new.rows ≡ row_past old.rows

-- rows of a page from one on, which is at hand
pub record BeginsAt (leaf : PlainLeaf) (page : PageMeta) (row : ℕ) (r : PlainRows) : Type 0 where
  pub lists : r.lists ≡ lists_in leaf.layers
  pub from : r.from ≡ row
  pub row_is : r.row ≡ row
  pub within : r.past ≤ page.rows

-- why rows of a page aren't had
abbrev pub RefusesPage : PlainLeaf → PageMeta → Option (List ℕ) → PageFault → Type 0
RefusesPage leaf page held (Outside why place) = RowsReasonStands leaf page held why place
RefusesPage leaf page held Store = ⊤
RefusesPage leaf page held Memory = ⊤

-- the slots are those of the object's page, or the object is why there are none
abbrev pub AnswersRows : PlainLeaf → PageMeta → Option (List ℕ) → Result PlainRows PageFault → Type 0
AnswersRows leaf page held (Ok r) = (slots : List PlainSlot) → HoldsPage leaf page held slots → AreRowsOf leaf page held slots r
AnswersRows leaf page held (Err fault) = RefusesPage leaf page held fault
