-- A fragment's rows as a reader finds them: each column has so many rows, and row by row the slots are joined.
use Rattle.std.specs.Prelude.{◌≡◌, ◌⊎◌, ℕ, ◌<◌, List, [], ◌∷◌, All, Some, slice_get, get_or}
use Rattle.lan_levels.specs.PlainSlots.{PlainSlot}
use Rattle.lan_levels.specs.SlotsOf.{leaf_slots}
use Rattle.lan_model.specs.Fits.{Fits}
use Rattle.lan_model.specs.Leaves.{PlainLeaf, leaves_of}
use Rattle.lan_model.specs.Plain.{PlainField, PlainValue, null}
use Rattle.lan_model.specs.Table.{FitsRow}
use Rattle.lan_store.specs.declared.name.Object.{Object}
use Rattle.lan_store.specs.Objects.{object}
use Rattle.lan_file.specs.FileOf.{IsFileOf}
use Rattle.lan_manifest.specs.declared.manifest.DataFile.{DataFile}
use Rattle.lan_manifest.specs.declared.manifest.Fragment.{Fragment}
use Rattle.lan_read.specs.Cut.{AreCut, slots_of_row}
use Rattle.lan_read.specs.Given.{AllGiven, Given, NoneGiven}
use Rattle.lan_read.specs.Rows.{AreDeleted, IsDataFile, IsHeld, data_name}

-- the bytes are a data file of so many rows, and its column of this number has these slots in the leaf
abbrev pub HasSlots : List ℕ → ℕ → ℕ → PlainLeaf → List PlainSlot → Type 0
HasSlots bytes count column leaf slots = IsFileOf (record { column = column; leaf = leaf } ∷ []) bytes count (slots ∷ [])

-- these are slots of so many rows
pub record ColumnHasRows (bytes : List ℕ) (count column : ℕ) (leaf : PlainLeaf) : Type 0 where
  pub slots : List PlainSlot
  pub has : HasSlots bytes count column leaf slots
  pub cut : AreCut leaf count slots

-- each column that gives a leaf of the field is held, and has so many rows
abbrev pub ColumnsHaveRows : List Object → List DataFile → ℕ → PlainField ℕ → Type 0
ColumnsHaveRows objects files count f =
    All (λ leaf. (at : Given files leaf) → IsHeld objects (data_name at.file.path) (λ bytes. ColumnHasRows bytes count at.column leaf)) (leaves_of f 0 [])

-- the value has the slots of the row at a place, in each leaf of the field that is given
abbrev pub ValueJoins : List Object → List DataFile → ℕ → PlainField ℕ → ℕ → PlainValue → Type 0
ValueJoins objects files count f j v =
    All (λ leaf. (at : Given files leaf) (bytes : List ℕ) (slots : List PlainSlot) → object objects (data_name at.file.path) ≡ Some bytes → HasSlots bytes count at.column leaf slots → slots_of_row leaf j slots ≡ leaf_slots leaf v) (leaves_of f 0 [])

-- the row fits, its values have the slots of the row at a place, and a value that no file gives is null
pub record RowJoins (objects : List Object) (fields : List (PlainField ℕ)) (files : List DataFile) (count j : ℕ) (row : List PlainValue) : Type 0 where
  pub fits : FitsRow fields row
  pub joins : (top : ℕ) (f : PlainField ℕ) → slice_get fields top ≡ Some f → ValueJoins objects files count f j (get_or row top null)
  pub absent : (top : ℕ) (f : PlainField ℕ) → slice_get fields top ≡ Some f → NoneGiven files f → get_or row top null ≡ null

-- all of it, of the files of a fragment
pub record FilesJoin (objects : List Object) (fields : List (PlainField ℕ)) (files : List DataFile) (count : ℕ) : Type 0 where
  pub held : All (λ file. IsHeld objects (data_name file.path) (λ bytes. IsDataFile bytes count)) files
  pub columns : (top : ℕ) (f : PlainField ℕ) → slice_get fields top ≡ Some f → ColumnsHaveRows objects files count f
  pub rows : (j : ℕ) → j < count → (row : List PlainValue) × RowJoins objects fields files count j row

-- the value of a top field in the row at a place: joined, where the field is given, and else null
abbrev pub FieldJoins : List Object → List DataFile → ℕ → ℕ → PlainField ℕ → PlainValue → Type 0
FieldJoins objects files count j f v = Fits f v × ((AllGiven files f × ValueJoins objects files count f j v) ⊎ (NoneGiven files f × (v ≡ null)))

-- the fragment's files join, and it is said which of its rows are deleted
pub record FragmentJoins (objects : List Object) (fields : List (PlainField ℕ)) (f : Fragment) : Type 0 where
  pub files : FilesJoin objects fields f.files f.rows
  pub deleted : List ℕ
  pub deletions : AreDeleted objects f.id f.deletion f.rows deleted
