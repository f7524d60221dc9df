-- The rules of the fragments of a manifest, in the order in which they are looked at.
use Rattle.std.specs.Prelude.{◌≡◌, ◌≢◌, ◌⊎◌, ℕ, ℤ, ◌^◌, ◌<◌, ◌≤◌, Bool, true, false, not, ◌&&◌, ◌||◌, nat_eq, nat_le, nat_lt, IsTrue, List, [], ◌∷◌, length, flat_map, Option, Some, None, All, AllPairs, Contains}
use Rattle.std.specs.List.{list_all, list_any}
use Rattle.lan_schema.specs.Listed.{is_negative}
use Rattle.lan_manifest.specs.declared.fault.ManifestFault.{ManifestFault}
use Rattle.lan_manifest.specs.declared.fault.ManifestFault.TheVariants as fault
use Rattle.lan_manifest.specs.declared.keeping.FragmentRule.{FragmentRule}
use Rattle.lan_manifest.specs.declared.keeping.FragmentRule.TheVariants.{RowIds, Rows, Path, Lists, FileVersion, DeletionType, FieldTwice, PartField, Absent}
use Rattle.lan_manifest.specs.declared.manifest.DataFile.{DataFile}
use Rattle.lan_manifest.specs.declared.said.SaidFile.{SaidFile}
use Rattle.lan_manifest.specs.declared.said.SaidDeletion.{SaidDeletion}
use Rattle.lan_manifest.specs.declared.said.SaidFragment.{SaidFragment}
use Rattle.lan_manifest.specs.declared.schema.Top.{Top}
use Rattle.lan_manifest.specs.Paths.{IsPath}
use Rattle.lan_manifest.specs.SchemaLeaves.{LeafShape, is_listed}
use Rattle.lan_manifest.specs.Stage.{is_read_type}

-- ---- of one fragment

-- no more rows are deleted than there are
abbrev pub deleted_fit : ℕ → Option SaidDeletion → Bool
deleted_fit rows None = true
deleted_fit rows (Some d) = nat_le d.deletion.rows rows

-- the type of its deletion file is read, if it has one
abbrev pub type_fits : Option SaidDeletion → Bool
type_fits None = true
type_fits (Some d) = is_read_type d.kind

-- no leaf has a negative column, as far as both lists go
abbrev pub are_indexed : (ℤ → Bool) → List ℤ → List ℤ → Bool
are_indexed is_leaf [] columns = true
are_indexed is_leaf (id ∷ ids) [] = true
are_indexed is_leaf (id ∷ ids) (column ∷ columns) = not (is_leaf id && is_negative column) && are_indexed is_leaf ids columns

abbrev pub lists_fit : (ℤ → Bool) → DataFile → Bool
lists_fit is_leaf file = nat_eq (length file.ids) (length file.columns) && are_indexed is_leaf file.ids file.columns

abbrev pub is_current : SaidFile → Bool
is_current s = nat_eq s.major 2 && nat_eq s.minor 1

-- the ids that files list, one file after the other
abbrev pub listed_ids : List SaidFile → List ℤ
listed_ids files = flat_map (λ s. s.file.ids) files

-- a leaf is listed, and listed again behind
abbrev pub repeats : (ℤ → Bool) → List ℤ → Bool
repeats is_leaf [] = false
repeats is_leaf (id ∷ ids) = (is_leaf id && is_listed ids id) || repeats is_leaf ids

-- the leaves of a top field are given all, or none is
abbrev pub is_whole : (ℤ → Bool) → Top → Bool
is_whole given top = list_all given top.leaves || not (list_any given top.leaves)

-- a top field whose leaves aren't given is null in each row, and may be
abbrev pub may_lack : (ℤ → Bool) → Top → Bool
may_lack given top = top.nullable || list_any given top.leaves

-- the fragment keeps the rule, for a schema of these leaves
abbrev pub Keeps : FragmentRule → LeafShape → SaidFragment → Type 0
Keeps RowIds shape f = f.row_ids ≡ false
Keeps Rows shape f = (f.rows < 2 ^ 31) × IsTrue (deleted_fit f.rows f.deletion)
Keeps Path shape f = All (λ s. IsPath s.file.path) f.files
Keeps Lists shape f = All (λ s. IsTrue (lists_fit shape.is_leaf s.file)) f.files
Keeps FileVersion shape f = All (λ s. IsTrue (is_current s)) f.files
Keeps DeletionType shape f = IsTrue (type_fits f.deletion)
Keeps FieldTwice shape f = repeats shape.is_leaf (listed_ids f.files) ≡ false
Keeps PartField shape f = All (λ top. IsTrue (is_whole (is_listed (listed_ids f.files)) top)) shape.tops
Keeps Absent shape f = (f.rows ≡ 0) ⊎ All (λ top. IsTrue (may_lack (is_listed (listed_ids f.files)) top)) shape.tops

-- ---- of all fragments

-- the number of a deletion file's type
abbrev pub type_number : Option SaidDeletion → ℕ
type_number None = 0
type_number (Some d) = d.kind

-- the fault of a fragment that breaks the rule
abbrev pub fault_of : FragmentRule → SaidFragment → ManifestFault
fault_of RowIds f = fault.RowIds f.id
fault_of Rows f = fault.Rows f.id
fault_of Path f = fault.Path f.id
fault_of Lists f = fault.Lists f.id
fault_of FileVersion f = fault.FileVersion f.id
fault_of DeletionType f = fault.DeletionType (type_number f.deletion)
fault_of FieldTwice f = fault.FieldTwice f.id
fault_of PartField f = fault.PartField f.id
fault_of Absent f = fault.Absent f.id

-- one of the fragments breaks the rule
pub record Breaks (rule : FragmentRule) (shape : LeafShape) (fragments : List SaidFragment) (error : ManifestFault) : Type 0 where
  pub fragment : SaidFragment
  pub is_one : Contains fragments fragment
  pub breaks : Keeps rule shape fragment → ⊥
  pub named : error ≡ fault_of rule fragment

-- the fragments keep each of the rules
unfoldable pub KeepEach : List FragmentRule → LeafShape → List SaidFragment → Type 0
KeepEach [] shape fragments = Unit {0}
KeepEach (rule ∷ rules) shape fragments = All (Keeps rule shape) fragments × KeepEach rules shape fragments

-- one of them breaks a rule, and all keep those before it
unfoldable pub BreakOne : List FragmentRule → LeafShape → List SaidFragment → ManifestFault → Type 0
BreakOne [] shape fragments error = ⊥
BreakOne (rule ∷ rules) shape fragments error = Breaks rule shape fragments error ⊎ (All (Keeps rule shape) fragments × BreakOne rules shape fragments error)

-- whether a fragment has this id
abbrev pub has_id : List SaidFragment → ℕ → Bool
has_id [] id = false
has_id (f ∷ fs) id = nat_eq f.id id || has_id fs id

-- ids have 32 bits, and no two fragments have one
abbrev pub HaveIds : List SaidFragment → Type 0
HaveIds [] = Unit {0}
HaveIds (f ∷ fs) = (f.id < 2 ^ 32) × (has_id fs f.id ≡ false) × HaveIds fs

-- an id has more than 32 bits, or comes twice
abbrev pub BreaksId : ℕ → List SaidFragment → Type 0
BreaksId id [] = ⊥
BreaksId id (f ∷ fs) = ((f.id ≡ id) × ((2 ^ 32 ≤ id) ⊎ (has_id fs id ≡ true))) ⊎ BreaksId id fs
