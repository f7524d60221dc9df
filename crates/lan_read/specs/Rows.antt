-- The rows of fragments whose columns lie in several data files.
use Rattle.std.specs.Prelude.{◌≡◌, ℕ, ◌≤◌, ◌^◌, List, [], ◌∷◌, ◌++◌, length, map, All, Option, Some, None, slice_get, get_or, decimal, codes}
use Rattle.lan_levels.specs.PlainSlots.{PlainSlot}
use Rattle.lan_levels.specs.SlotsOf.{leaf_slots, flat}
use Rattle.lan_model.specs.After.{without}
use Rattle.lan_model.specs.Leaves.{PlainLeaf, leaves_of}
use Rattle.lan_model.specs.Plain.{PlainField, PlainValue, null, values_from}
use Rattle.lan_model.specs.Table.{FitsRow}
use Rattle.lan_store.specs.declared.name.Dir.TheVariants.{Data, Deletions}
use Rattle.lan_store.specs.declared.name.Name.{Name}
use Rattle.lan_store.specs.declared.name.Object.{Object}
use Rattle.lan_store.specs.Objects.{object}
use Rattle.lan_file.specs.FileOf.{IsFileOf}
use Rattle.lan_file.specs.Heads.{HasHead}
use Rattle.lan_manifest.specs.declared.manifest.DataFile.{DataFile}
use Rattle.lan_manifest.specs.declared.manifest.Deletion.{Deletion}
use Rattle.lan_manifest.specs.declared.manifest.Fragment.{Fragment}
use Rattle.lan_read.specs.Given.{Given, NoneGiven}
use Rattle.lan_read.specs.Stage.{IsDeletionFile}

-- the name of a data file
abbrev pub data_name : List ℕ → Name
data_name path = record { dir = Data; rest = path }

-- a deletion file has the fragment's id in its name
abbrev pub deletion_name : ℕ → Deletion → Name
deletion_name fragment d = record { dir = Deletions; rest = decimal fragment ++ codes "-" ++ decimal d.read_version ++ codes "-" ++ decimal d.id ++ codes ".arrow" }

-- an object of the name is held, of at most 2^30 bytes, and it is so of them
pub record IsHeld (objects : List Object) (name : Name) (Says : List ℕ → Type 0) : Type 0 where
  pub bytes : List ℕ
  pub held : object objects name ≡ Some bytes
  pub size : length bytes ≤ 2 ^ 30
  pub says : Says bytes

-- the values that rows have at a place
abbrev pub values_at : ℕ → List (List PlainValue) → List PlainValue
values_at top rows = map (λ row. get_or row top null) rows

-- the slots that values of a top field have in a leaf of it, one value after another
abbrev pub column_slots : PlainLeaf → List PlainValue → List PlainSlot
column_slots leaf values = flat (leaf_slots leaf) (values_from values)

-- the bytes are a data file of so many rows
abbrev pub IsDataFile : List ℕ → ℕ → Type 0
IsDataFile bytes count = HasHead [] bytes count []

-- the bytes are a data file of one row for each value, and its column of this number has their slots in the leaf
abbrev pub HoldsColumn : List ℕ → ℕ → PlainLeaf → List PlainValue → Type 0
HoldsColumn bytes column leaf values = IsFileOf (record { column = column; leaf = leaf } ∷ []) bytes (length values) (column_slots leaf values ∷ [])

-- the files give a top field these values: where they give a leaf, its column has their slots; where they give none, each is null
pub record FilesGive (objects : List Object) (files : List DataFile) (f : PlainField ℕ) (values : List PlainValue) : Type 0 where
  pub given : All (λ leaf. (at : Given files leaf) → IsHeld objects (data_name at.file.path) (λ bytes. HoldsColumn bytes at.column leaf values)) (leaves_of f 0 [])
  pub absent : NoneGiven files f → All (λ v. v ≡ null) values

-- so many rows that the files give, deleted ones too; each file is one of so many rows, also where it gives no leaf
pub record PhysicalRows (objects : List Object) (fields : List (PlainField ℕ)) (files : List DataFile) (count : ℕ) (rows : List (List PlainValue)) : Type 0 where
  pub long : length rows ≡ count
  pub fit : All (FitsRow fields) rows
  pub held : All (λ file. IsHeld objects (data_name file.path) (λ bytes. IsDataFile bytes count)) files
  pub columns : (top : ℕ) (f : PlainField ℕ) → slice_get fields top ≡ Some f → FilesGive objects files f (values_at top rows)

-- the places of a fragment's deleted rows: those of its deletion file, and none without one
abbrev pub AreDeleted : List Object → ℕ → Option Deletion → ℕ → List ℕ → Type 0
AreDeleted objects fragment None count deleted = deleted ≡ []
AreDeleted objects fragment (Some d) count deleted = IsHeld objects (deletion_name fragment d) (λ bytes. IsDeletionFile bytes count d.rows deleted)

-- the rows that a fragment gives: those of its files, without the deleted ones
pub record FragmentGives (objects : List Object) (fields : List (PlainField ℕ)) (f : Fragment) (kept : List (List PlainValue)) : Type 0 where
  pub physical : List (List PlainValue)
  pub deleted : List ℕ
  pub rows : PhysicalRows objects fields f.files f.rows physical
  pub deletions : AreDeleted objects f.id f.deletion f.rows deleted
  pub left : kept ≡ without deleted 0 physical

-- the rows that fragments give, in order
abbrev pub FragmentsGive : List Object → List (PlainField ℕ) → List Fragment → List (List PlainValue) → Type 0
FragmentsGive objects fields [] rows = rows ≡ []
FragmentsGive objects fields (f ∷ fs) rows =
    (mine : List (List PlainValue)) × (later : List (List PlainValue)) × FragmentGives objects fields f mine × FragmentsGive objects fields fs later × (rows ≡ mine ++ later)
