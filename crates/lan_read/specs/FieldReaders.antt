-- Reading a field row by row: by which columns of which files, and what is answered.
use Rattle.std.specs.Prelude.{◌≡◌, ◌≢◌, ◌⊎◌, ⊤, ℕ, ◌<◌, ◌≤◌, List, [], ◌∷◌, map, All, Contains, Option, Some, None, Result, Ok, Err, get_or, slice_get}
use Rattle.lan_model.specs.Fits.{Fits}
use Rattle.lan_model.specs.Leaves.{PlainLeaf, leaves_of}
use Rattle.lan_model.specs.Plain.{PlainField, PlainValue, null, plain_value}
use Rattle.lan_model.specs.declared.tree.Val.{Val}
use Rattle.lan_levels.specs.Joins.{JoinCause}
use Rattle.lan_levels.specs.PlainSlots.{PlainSlot, plain_slots}
use Rattle.lan_levels.specs.declared.join.Join.{Join}
use Rattle.lan_levels.specs.declared.join.Join.TheVariants as join
use Rattle.lan_levels.specs.declared.slot.SlotRun.{SlotRun}
use Rattle.lan_meta.specs.declared.page.PageMeta.{PageMeta}
use Rattle.lan_page.specs.ColumnBudgets.{still_due}
use Rattle.lan_page.specs.ColumnCursors.{Knows, PlainCursor, cursor_leaf, cursor_name, cursor_pages, next_row, seek_most}
use Rattle.lan_page.specs.Columns.{AreSlotsOfRow, ColumnReasonStands, HoldsPages, rows_of}
use Rattle.lan_page.specs.declared.fault.PageReason.{PageReason}
use Rattle.lan_store.specs.Budget.{Budget, nothing, plus}
use Rattle.lan_store.specs.declared.name.Name.{Name}
use Rattle.lan_store.specs.declared.name.Object.{Object}
use Rattle.lan_store.specs.Objects.{object}
use Rattle.lan_file.specs.Heads.{HasHead}
use Rattle.lan_manifest.specs.declared.manifest.DataFile.{DataFile}
use Rattle.lan_read.specs.Given.{Given, NoneGiven}
use Rattle.lan_read.specs.Rows.{IsHeld, PhysicalRows, data_name}
use Rattle.lan_read.specs.declared.read_fault.Reason.TheVariants as reason
use Rattle.lan_read.specs.declared.read_fault.ReadFault.{ReadFault}
use Rattle.lan_read.specs.declared.read_fault.ReadFault.TheVariants.{Memory, Outside, Store}

-- ---- which columns

-- a column that is read: its object, the leaf as which it is read, and its pages
pub record ReadColumn : Type 0 where
  pub name : Name
  pub leaf : PlainLeaf
  pub pages : List PageMeta

abbrev pub column_read : PlainCursor → ReadColumn
column_read c = record { name = cursor_name c; leaf = cursor_leaf c; pages = cursor_pages c }

abbrev pub columns_read : List PlainCursor → List ReadColumn
columns_read = map column_read

-- the column is one of a data file of so many rows that gives the leaf; below which top field that is counted, is no matter
pub record GivesLeaf (objects : List Object) (files : List DataFile) (count : ℕ) (leaf : PlainLeaf) (column : ReadColumn) : Type 0 where
  pub at : Given files leaf
  pub named : column.name ≡ data_name at.file.path
  pub leaf_is : column.leaf ≡ record leaf { top = column.leaf.top }
  pub held : IsHeld objects column.name (λ bytes. HasHead (record { column = at.column; leaf = column.leaf } ∷ []) bytes count (column.pages ∷ []))

-- one for each leaf, in order
abbrev pub GiveLeaves : List Object → List DataFile → ℕ → List PlainLeaf → List ReadColumn → Type 0
GiveLeaves objects files count [] [] = ⊤
GiveLeaves objects files count (leaf ∷ leaves) (column ∷ columns) = GivesLeaf objects files count leaf column × GiveLeaves objects files count leaves columns
GiveLeaves objects files count _ _ = ⊥

-- a reader of the field: one cursor for each leaf, in order, of a column that gives it; or none, where no file gives a leaf
abbrev pub ReadsField : List Object → List DataFile → ℕ → PlainField ℕ → Option (List PlainCursor) → Type 0
ReadsField objects files count f None = NoneGiven files f
ReadsField objects files count f (Some cursors) = GiveLeaves objects files count (leaves_of f 0 []) (columns_read cursors)

-- what the cursors have in memory is what their objects have
abbrev pub ReaderKnows : List Object → Option (List PlainCursor) → Type 0
ReaderKnows objects None = ⊤
ReaderKnows objects (Some cursors) = All (λ c. Knows c (object objects (cursor_name c))) cursors

-- ---- what may be asked

-- the row isn't before those that were asked, and the column has it
pub record MayAsk (row : ℕ) (c : PlainCursor) : Type 0 where
  pub order : next_row c ≤ row
  pub there : row < rows_of (cursor_pages c)

-- the value of the field in a row may be asked: of cursors of its leaves, in order, which may be asked; or of none, where null is a value of it
abbrev pub CanRead : PlainField ℕ → ℕ → Option (List PlainCursor) → Type 0
CanRead f row None = Fits f null
CanRead f row (Some cursors) = (map (λ c. (cursor_leaf c).id) cursors ≡ map (λ l. l.id) (leaves_of f 0 [])) × All (MayAsk row) cursors

-- at most what the cursors ask
abbrev pub cursors_most : List PlainCursor → ℕ → Budget
cursors_most [] row = nothing
cursors_most (c ∷ cursors) row = plus (seek_most c row) (cursors_most cursors row)

abbrev pub value_most : Option (List PlainCursor) → ℕ → Budget
value_most None row = nothing
value_most (Some cursors) row = cursors_most cursors row

-- the cursor's object holds its pages
abbrev pub HoldsIn : List Object → PlainCursor → Type 0
HoldsIn objects c = (slots : List PlainSlot) × HoldsPages (cursor_leaf c) (cursor_pages c) (object objects (cursor_name c)) slots

abbrev pub ReaderHolds : List Object → Option (List PlainCursor) → Type 0
ReaderHolds objects None = ⊤
ReaderHolds objects (Some cursors) = All (HoldsIn objects) cursors

-- what the cursors still ask for these rows
abbrev pub cursors_due : List Object → List PlainCursor → List ℕ → Budget
cursors_due objects [] rows = nothing
cursors_due objects (c ∷ cursors) rows = plus (still_due c (object objects (cursor_name c)) rows) (cursors_due objects cursors rows)

abbrev pub values_due : List Object → Option (List PlainCursor) → List ℕ → Budget
values_due objects None rows = nothing
values_due objects (Some cursors) rows = cursors_due objects cursors rows

-- ---- why there is no value

-- the run has the slots of a row in the leaf, by a column that gives it
pub record IsRunOfRow (objects : List Object) (files : List DataFile) (count row : ℕ) (leaf : PlainLeaf) (run : SlotRun) : Type 0 where
  pub column : ReadColumn
  pub gives : GivesLeaf objects files count leaf column
  pub slots : AreSlotsOfRow column.leaf column.pages (object objects column.name) row (plain_slots run.slots)

-- one run for each leaf, in order
abbrev pub AreRunsOfRow : List Object → List DataFile → ℕ → ℕ → List PlainLeaf → List SlotRun → Type 0
AreRunsOfRow objects files count row [] [] = ⊤
AreRunsOfRow objects files count row (leaf ∷ leaves) (run ∷ runs) = IsRunOfRow objects files count row leaf run × AreRunsOfRow objects files count row leaves runs
AreRunsOfRow objects files count row _ _ = ⊥

-- the slots that the field's columns have for a row are those of no value, and this is why
pub record RowHasNoValue (objects : List Object) (files : List DataFile) (count : ℕ) (f : PlainField ℕ) (row : ℕ) (error : Join) : Type 0 where
  pub inside : row < count
  pub runs : List SlotRun
  pub of_row : AreRunsOfRow objects files count row (leaves_of f 0 []) runs
  pub cause : JoinCause f runs error
  pub is_cause : error ≢ join.Memory

-- the number of the field that is to blame
abbrev pub blamed : Join → Option ℕ
blamed (join.Shape id) = Some id
blamed (join.NotNull id) = Some id
blamed (join.NotText id) = Some id
blamed join.Memory = None

-- the object of the leaf that is to blame, or where none of the leaves is, of one of them
pub record IsBlamed (objects : List Object) (files : List DataFile) (count : ℕ) (leaves : List PlainLeaf) (error : Join) (name : Name) : Type 0 where
  pub leaf : PlainLeaf
  pub is_one : Contains leaves leaf
  pub column : ReadColumn
  pub gives : GivesLeaf objects files count leaf column
  pub named : name ≡ column.name
  pub of_leaf : (blamed error ≡ Some leaf.id) ⊎ All (λ l. blamed error ≢ Some l.id) leaves

-- a column that gives one of the leaves isn't held as its head says
pub record LeafReasonStands (objects : List Object) (files : List DataFile) (count : ℕ) (leaves : List PlainLeaf) (name : Name) (why : PageReason) (place : ℕ) : Type 0 where
  pub leaf : PlainLeaf
  pub is_one : Contains leaves leaf
  pub column : ReadColumn
  pub gives : GivesLeaf objects files count leaf column
  pub named : name ≡ column.name
  pub stands : ColumnReasonStands column.leaf column.pages (object objects name) why place

-- ---- answers

-- the value is the row's, in whatever rows the files give
abbrev pub IsValueOf : List Object → List DataFile → ℕ → PlainField ℕ → ℕ → PlainValue → Type 0
IsValueOf objects files count f row v =
    (fields : List (PlainField ℕ)) (rows : List (List PlainValue)) (top : ℕ) → PhysicalRows objects fields files count rows → slice_get fields top ≡ Some f → v ≡ get_or (get_or rows row []) top null

-- why the value isn't read
abbrev pub RefusesValue : List Object → List DataFile → ℕ → PlainField ℕ → ℕ → ReadFault → Type 0
RefusesValue objects files count f row (Outside name (reason.Page why) place) = LeafReasonStands objects files count (leaves_of f 0 []) name why place
RefusesValue objects files count f row (Outside name (reason.Join error) place) = (place ≡ row) × IsBlamed objects files count (leaves_of f 0 []) error name × RowHasNoValue objects files count f row error
RefusesValue objects files count f row (Store name) = ⊤
RefusesValue objects files count f row Memory = ⊤
RefusesValue objects files count f row fault = ⊥

abbrev pub AnswersValue : List Object → List DataFile → ℕ → PlainField ℕ → ℕ → Result Val ReadFault → Type 0
AnswersValue objects files count f row (Ok v) = IsValueOf objects files count f row (plain_value v)
AnswersValue objects files count f row (Err fault) = RefusesValue objects files count f row fault
