-- What the messages in a file's tables give of its bytes.
use Rattle.std.specs.Prelude.{◌≡◌, ◌≢◌, ◌⊎◌, ℕ, ⊤, List, Contains, Result, Ok, Err, map}
use Rattle.lan_meta.specs.declared.message.MetaFault.{MetaFault}
use Rattle.lan_meta.specs.declared.message.MetaFault.TheVariants as meta
use Rattle.lan_meta.specs.declared.page.ColumnMeta.{ColumnMeta}
use Rattle.lan_meta.specs.declared.page.PageMeta.{PageMeta}
use Rattle.lan_meta.specs.Columns.{RefusesColumn}
use Rattle.lan_file.specs.declared.head_fault.HeadFault.{HeadFault}
use Rattle.lan_file.specs.declared.head_fault.HeadFault.TheVariants.{Outside, Memory}
use Rattle.lan_file.specs.declared.head_fault.HeadReason.TheVariants.{Meta, ColumnRows}
use Rattle.lan_file.specs.Heads.{Pick, placed, column_at, PagesOfPick, rows_in, PickedColumn, PickedColumns}
use Rattle.lan_file.specs.HeadReasons.{place_of}
use Rattle.lan_file.specs.Parts.{footer_of}

-- a fault of column metadata as one of the file
abbrev pub meta_fault : MetaFault → HeadFault
meta_fault meta.Memory = Memory
meta_fault error = Outside (Meta error) (place_of error)

-- the pages of a column, whose rows aren't so many
pub record OtherRows (bytes : List ℕ) (rows : ℕ) (pick : Pick) : Type 0 where
  pub pages : List PageMeta
  pub pages_are : PagesOfPick bytes pick pages
  pub differ : rows_in pages ≢ rows

-- the column that is asked, or why there is none
abbrev pub JudgesPick : List ℕ → ℕ → Pick → Result ColumnMeta HeadFault → Type 0
JudgesPick bytes rows pick (Ok column) = PickedColumn bytes rows pick column.pages
JudgesPick bytes rows pick (Err (Outside (Meta error) place)) =
    RefusesColumn (placed bytes (column_at bytes pick.column)) pick.leaf (footer_of bytes).columns_at error × (error ≢ meta.Memory) × (place ≡ place_of error)
JudgesPick bytes rows pick (Err (Outside (ColumnRows number) place)) = (number ≡ pick.column) × (place ≡ (column_at bytes number).at) × OtherRows bytes rows pick
JudgesPick bytes rows pick (Err Memory) = ⊤
JudgesPick bytes rows pick (Err fault) = ⊥

-- there is no column for one of the picks
pub record FailsAtPick (bytes : List ℕ) (rows : ℕ) (picks : List Pick) (fault : HeadFault) : Type 0 where
  pub pick : Pick
  pub asked : Contains picks pick
  pub judged : JudgesPick bytes rows pick (Err fault)

abbrev pub pages_of : List ColumnMeta → List (List PageMeta)
pages_of columns = map (λ (column : ColumnMeta). column.pages) columns

-- the columns that are asked, or why there aren't; memory may want
abbrev pub JudgesPicks : List ℕ → ℕ → List Pick → Result (List ColumnMeta) HeadFault → Type 0
JudgesPicks bytes rows picks (Ok columns) = PickedColumns bytes rows picks (pages_of columns)
JudgesPicks bytes rows picks (Err fault) = (fault ≡ Memory) ⊎ FailsAtPick bytes rows picks fault
