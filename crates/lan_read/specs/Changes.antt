-- What a change puts beside the rows of fragments: a fragment of one new file, or a file more.
use Rattle.std.specs.Prelude.{◌≡◌, ℕ, List, [], ◌∷◌, ◌++◌, length, All, None, Some, slice_get}
use Rattle.lan_model.specs.After.{each_with}
use Rattle.lan_model.specs.Fits.{AllFit}
use Rattle.lan_model.specs.Leaves.{leaves_of}
use Rattle.lan_model.specs.Plain.{PlainField, PlainValue, values_from}
use Rattle.lan_store.specs.declared.name.Object.{Object}
use Rattle.lan_manifest.specs.declared.manifest.DataFile.{DataFile}
use Rattle.lan_manifest.specs.declared.manifest.Fragment.{Fragment}
use Rattle.lan_read.specs.Given.{AllGiven, GivenIn, NoneGiven}
use Rattle.lan_read.specs.Rows.{FragmentGives, HoldsColumn, IsDataFile, IsHeld, values_at, data_name}

-- the file is held, of a row for each, and each column in which it gives a leaf has the rows' slots
pub record FileHolds (objects : List Object) (fields : List (PlainField ℕ)) (file : DataFile) (rows : List (List PlainValue)) : Type 0 where
  pub is_file : IsHeld objects (data_name file.path) (λ bytes. IsDataFile bytes (length rows))
  pub columns : (top : ℕ) (f : PlainField ℕ) → slice_get fields top ≡ Some f
      → All (λ leaf. (column : ℕ) → GivenIn file leaf.id column → IsHeld objects (data_name file.path) (λ bytes. HoldsColumn bytes column leaf (values_at top rows))) (leaves_of f 0 [])

-- a fragment of one file of so many rows
abbrev pub new_fragment : ℕ → DataFile → ℕ → Fragment
new_fragment id file count = record { id = id; files = file ∷ []; deletion = None; rows = count }

-- the file gives no leaf of the field
abbrev pub GivesNone : DataFile → PlainField ℕ → Type 0
GivesNone file f = All (λ leaf. (column : ℕ) → GivenIn file leaf.id column → ⊥) (leaves_of f 0 [])

-- a fragment with a file more
abbrev pub with_file : Fragment → DataFile → Fragment
with_file f file = record f { files = f.files ++ file ∷ [] }

-- the file is held that gives these values of a new field, one a row of the fragment, and nothing of the fields that were there
pub record AddsFile (objects : List Object) (fields : List (PlainField ℕ)) (f : Fragment) (g : PlainField ℕ) (file : DataFile) (values : List PlainValue) : Type 0 where
  pub long : length values ≡ f.rows
  pub fit : AllFit g (values_from values)
  pub is_file : IsHeld objects (data_name file.path) (λ bytes. IsDataFile bytes f.rows)
  pub given : All (λ leaf. (column : ℕ) → GivenIn file leaf.id column → IsHeld objects (data_name file.path) (λ bytes. HoldsColumn bytes column leaf values)) (leaves_of g 0 [])
  pub all_given : AllGiven (file ∷ []) g
  pub is_new : NoneGiven f.files g
  pub only_new : (top : ℕ) (h : PlainField ℕ) → slice_get fields top ≡ Some h → GivesNone file h

-- the new fragment gives the old one's rows, each with one of the values at its end
abbrev pub AddsTo : List Object → List (PlainField ℕ) → PlainField ℕ → Fragment → Fragment → List PlainValue → Type 0
AddsTo objects fields g old new values =
    (kept : List (List PlainValue)) → FragmentGives objects fields old kept → (length kept ≡ length values) × FragmentGives objects (fields ++ g ∷ []) new (each_with kept values)

-- the same of fragments, one after another
abbrev pub AddToEach : List Object → List (PlainField ℕ) → PlainField ℕ → List Fragment → List Fragment → List PlainValue → Type 0
AddToEach objects fields g [] [] values = values ≡ []
AddToEach objects fields g (old ∷ olds) (new ∷ news) values =
    (mine : List PlainValue) × (later : List PlainValue) × AddsTo objects fields g old new mine × AddToEach objects fields g olds news later × (values ≡ mine ++ later)
AddToEach objects fields g _ _ values = ⊥
