-- When bytes are a data file of so many rows, whose columns have these slots.
use Rattle.std.specs.Prelude.{◌≡◌, ℕ, List, [], ◌∷◌, ◌++◌, Some, slice_get, All}
use Rattle.lan_levels.specs.PlainSlots.{PlainSlot}
use Rattle.lan_model.specs.Leaves.{PlainLeaf}
use Rattle.lan_meta.specs.declared.page.BuiltPage.{BuiltPage}
use Rattle.lan_meta.specs.declared.page.PageMeta.{PageMeta}
use Rattle.lan_meta.specs.PageKeeps.{KeepsRules}
use Rattle.lan_meta.specs.PageOf.{IsPage, buffers_in}
use Rattle.lan_meta.specs.PagesTold.{CanBeTold}
use Rattle.lan_file.specs.FileText.{page_behind, columns_behind}
use Rattle.lan_file.specs.Heads.{Pick, rows_in, HasHead}

-- the buffers of pages of a leaf stand for these slots, page by page
abbrev pub PagesStand : List ℕ → PlainLeaf → List PageMeta → List PlainSlot → Type 0
PagesStand bytes leaf [] slots = slots ≡ []
PagesStand bytes leaf (page ∷ pages) slots =
    (first : List PlainSlot) × (later : List PlainSlot) × (slots ≡ first ++ later) × IsPage leaf page (buffers_in bytes page.buffers) first × PagesStand bytes leaf pages later

-- the pages of each column that is asked stand for its slots
abbrev pub ColumnsStand : List ℕ → List Pick → List (List PageMeta) → List (List PlainSlot) → Type 0
ColumnsStand bytes [] columns slots = (columns ≡ []) × (slots ≡ [])
ColumnsStand bytes (pick ∷ picks) columns slots =
    (pages : List PageMeta) × (more : List (List PageMeta)) × (first : List PlainSlot) × (later : List (List PlainSlot)) × (columns ≡ pages ∷ more) × (slots ≡ first ∷ later) × PagesStand bytes pick.leaf pages first
    × ColumnsStand bytes picks more later

-- the bytes are a file of so many rows, and the columns that are asked have these slots
pub record IsFileOf (picks : List Pick) (bytes : List ℕ) (rows : ℕ) (slots : List (List PlainSlot)) : Type 0 where
  pub columns : List (List PageMeta)
  pub head : HasHead picks bytes rows columns
  pub stand : ColumnsStand bytes picks columns slots

-- a column that is written keeps to the rules for the leaf for which it is asked, has so many rows, and these pages once its buffers have places
pub record IsWritten (rows : ℕ) (columns : List (List BuiltPage)) (pick : Pick) (pages : List PageMeta) : Type 0 where
  pub there : slice_get (columns_behind [] columns) pick.column ≡ Some pages
  pub keep : All (KeepsRules pick.leaf) pages
  pub told : All CanBeTold pages
  pub rows_are : rows_in pages ≡ rows

-- each column that is asked does
abbrev pub AreWritten : ℕ → List (List BuiltPage) → List Pick → List (List PageMeta) → Type 0
AreWritten rows columns [] found = found ≡ []
AreWritten rows columns (pick ∷ picks) found = (first : List PageMeta) × (later : List (List PageMeta)) × (found ≡ first ∷ later) × IsWritten rows columns pick first × AreWritten rows columns picks later

-- pages that are built stand for these slots of a leaf, page by page
abbrev pub BuiltStand : PlainLeaf → List BuiltPage → List PlainSlot → Type 0
BuiltStand leaf [] slots = slots ≡ []
BuiltStand leaf (page ∷ pages) slots =
    (first : List PlainSlot) × (later : List PlainSlot) × (slots ≡ first ++ later) × IsPage leaf (page_behind [] page) page.buffers first × BuiltStand leaf pages later

-- the pages of the column that is asked stand for these slots
pub record IsBuilt (columns : List (List BuiltPage)) (pick : Pick) (slots : List PlainSlot) : Type 0 where
  pub pages : List BuiltPage
  pub there : slice_get columns pick.column ≡ Some pages
  pub stand : BuiltStand pick.leaf pages slots

-- those of each column that is asked
abbrev pub AreBuilt : List (List BuiltPage) → List Pick → List (List PlainSlot) → Type 0
AreBuilt columns [] slots = slots ≡ []
AreBuilt columns (pick ∷ picks) slots = (first : List PlainSlot) × (later : List (List PlainSlot)) × (slots ≡ first ∷ later) × IsBuilt columns pick first × AreBuilt columns picks later
