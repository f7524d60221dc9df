-- When bytes are a data file with the columns that are asked, and what its head then gives.
use Rattle.std.specs.Prelude.{◌≡◌, ℕ, ◌+◌, ◌*◌, ◌-◌, ◌<◌, ◌≤◌, List, [], ◌∷◌, length, map, sum_by, All}
use Rattle.lan_bytes.specs.Placed.{Placed}
use Rattle.lan_model.specs.Leaves.{PlainLeaf, plain_leaf}
use Rattle.lan_meta.specs.declared.page.PageMeta.{PageMeta}
use Rattle.lan_meta.specs.declared.page.ColumnMeta.{ColumnMeta}
use Rattle.lan_meta.specs.Columns.{ColumnOf}
use Rattle.lan_meta.specs.PageKeeps.{KeepsRules}
use Rattle.lan_store.specs.Budget.{Budget, range, plus}
use Rattle.lan_file.specs.declared.head.ColumnPick.{ColumnPick}
use Rattle.lan_file.specs.declared.head.FileHead.{FileHead}
use Rattle.lan_file.specs.declared.tail.Extent.{Extent}
use Rattle.lan_file.specs.Descriptor.{StatesRows}
use Rattle.lan_file.specs.Parts.{part, footer_of, extent_in, extent, descriptor_of, IsFile, InOrder, HasColumn, IsSmall}

-- a column that is asked, by its number, as one of a leaf
pub record Pick : Type 0 where
  pub column : ℕ
  pub leaf : PlainLeaf

abbrev pub pick_of : ColumnPick → Pick
pick_of p = record { column = p.column; leaf = plain_leaf p.leaf }

abbrev pub picks_of : List ColumnPick → List Pick
picks_of = map pick_of

-- where the metadata of the column of this number lies, by the columns' table
abbrev pub column_at : List ℕ → ℕ → Extent
column_at bytes number = extent_in (part bytes ((footer_of bytes).column_table + 16 * number) 16)

-- the bytes of a part, at their place
abbrev pub placed : List ℕ → Extent → Placed
placed bytes e = record { base = e.at; bytes = extent bytes e }

-- what is asked of where the metadata of a column lies: nothing, where there is no such column
abbrev pub LiesRight : List ℕ → Pick → Type 0
LiesRight bytes pick = pick.column < (footer_of bytes).columns → HasColumn (footer_of bytes) (column_at bytes pick.column)

-- both tables, the descriptor and the metadata of the columns that are asked lie where they must
pub record KeepsRegions (picks : List Pick) (bytes : List ℕ) : Type 0 where
  pub tables : InOrder (length bytes) (footer_of bytes)
  pub descriptor : 0 < (footer_of bytes).globals → (descriptor_of bytes).at + (descriptor_of bytes).size ≤ (footer_of bytes).columns_at
  pub columns : All (LiesRight bytes) picks

abbrev pub IsThere : List ℕ → Pick → Type 0
IsThere bytes pick = pick.column < (footer_of bytes).columns

-- a file with a descriptor and the columns that are asked, each in its place
pub record IsWhole (picks : List Pick) (bytes : List ℕ) : Type 0 where
  pub file : IsFile bytes
  pub regions : KeepsRegions picks bytes
  pub described : 0 < (footer_of bytes).globals
  pub there : All (IsThere bytes) picks

-- the bytes of the metadata of a column that is asked have these pages
abbrev pub PagesOfPick : List ℕ → Pick → List PageMeta → Type 0
PagesOfPick bytes pick pages = ColumnOf (placed bytes (column_at bytes pick.column)) pick.leaf (footer_of bytes).columns_at pages

abbrev pub rows_in : List PageMeta → ℕ
rows_in pages = sum_by (λ (page : PageMeta). page.rows) pages

-- the column that is asked has these pages, of so many rows in all
pub record PickedColumn (bytes : List ℕ) (rows : ℕ) (pick : Pick) (pages : List PageMeta) : Type 0 where
  pub pages_are : PagesOfPick bytes pick pages
  pub rows_are : rows_in pages ≡ rows

-- each column that is asked has these pages, in the order in which they are asked
abbrev pub PickedColumns : List ℕ → ℕ → List Pick → List (List PageMeta) → Type 0
PickedColumns bytes rows [] columns = columns ≡ []
PickedColumns bytes rows (pick ∷ picks) columns =
    (first : List PageMeta) × (later : List (List PageMeta)) × (columns ≡ first ∷ later) × PickedColumn bytes rows pick first × PickedColumns bytes rows picks later

-- the bytes are a file of so many rows, and the columns that are asked have these pages
pub record HasHead (picks : List Pick) (bytes : List ℕ) (rows : ℕ) (columns : List (List PageMeta)) : Type 0 where
  pub whole : IsWhole picks bytes
  pub rows_are : StatesRows (placed bytes (descriptor_of bytes)) rows
  pub columns_are : PickedColumns bytes rows picks columns

-- the same of the head that is read, of bytes that aren't too many
abbrev pub IsHeadOf : List Pick → List ℕ → FileHead → Type 0
IsHeadOf picks bytes head = IsSmall bytes × HasHead picks bytes head.rows (map (λ (column : ColumnMeta). column.pages) head.columns)

-- at most what the footer and all from column metadata up to it cost
abbrev pub tables_budget : List ℕ → Budget
tables_budget bytes = record { ranges = 2; bytes = 40 + (length bytes - 40 - (footer_of bytes).columns_at) }

-- at most what a head costs: these and the descriptor
abbrev pub head_budget : List ℕ → Budget
head_budget bytes = plus (tables_budget bytes) (range (descriptor_of bytes).size)

-- ---- also where nothing is told of the object

-- the pages keep to the rules for the leaf, and have so many rows in all
pub record KeepsPick (rows : ℕ) (pick : Pick) (pages : List PageMeta) : Type 0 where
  pub rules : All (KeepsRules pick.leaf) pages
  pub rows_are : rows_in pages ≡ rows

-- those of each column that was asked do
abbrev pub KeepPicks : ℕ → List Pick → List (List PageMeta) → Type 0
KeepPicks rows [] columns = columns ≡ []
KeepPicks rows (pick ∷ picks) columns = (first : List PageMeta) × (later : List (List PageMeta)) × (columns ≡ first ∷ later) × KeepsPick rows pick first × KeepPicks rows picks later
