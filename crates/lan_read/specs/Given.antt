-- Which leaves the data files of a fragment give.
use Rattle.std.specs.Prelude.{◌≡◌, ◌⊎◌, ℕ, List, [], All, Contains, Some, pos, slice_get}
use Rattle.lan_model.specs.Leaves.{PlainLeaf, leaves_of}
use Rattle.lan_model.specs.Plain.{PlainField}
use Rattle.lan_schema.specs.FieldTree.{signed}
use Rattle.lan_manifest.specs.declared.manifest.DataFile.{DataFile}
use Rattle.lan_manifest.specs.declared.manifest.Fragment.{Fragment}

-- the file lists the field of this id, and its column of this number for it
abbrev pub GivenIn : DataFile → ℕ → ℕ → Type 0
GivenIn file id column = (k : ℕ) × (slice_get file.ids k ≡ Some (signed id)) × (slice_get file.columns k ≡ Some (pos column))

-- one of the files gives the leaf
pub record Given (files : List DataFile) (leaf : PlainLeaf) : Type 0 where
  pub file : DataFile
  pub is_one : Contains files file
  pub column : ℕ
  pub listed : GivenIn file leaf.id column

-- the files give each leaf of a top field
abbrev pub AllGiven : List DataFile → PlainField ℕ → Type 0
AllGiven files f = All (Given files) (leaves_of f 0 [])

-- or none
abbrev pub NoneGiven : List DataFile → PlainField ℕ → Type 0
NoneGiven files f = All (λ leaf. Given files leaf → ⊥) (leaves_of f 0 [])

-- all or none: no field is given in part
abbrev pub IsWhole : List DataFile → PlainField ℕ → Type 0
IsWhole files f = AllGiven files f ⊎ NoneGiven files f

-- in no fragment
abbrev pub AreWhole : List (PlainField ℕ) → List Fragment → Type 0
AreWhole fields fragments = All (λ (f : Fragment). All (IsWhole f.files) fields) fragments
