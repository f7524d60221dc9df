-- A table turns on the bytes of the objects that it names alone, so more objects change none.
use Rattle.std.proofs.Common.{◌≡◌, inl, inr, refl, ℕ, List, [], ◌∷◌, ◌++◌}
use Rattle.std.specs.Prelude.{Option, Some, None, All}
use Rattle.std.proofs.lemmas.Bool.{cases_Bool}
use Rattle.std.proofs.lemmas.List.Elements.{All-contains, All-head, All-tail}
use Rattle.lan_model.specs.Plain.{PlainField, PlainValue}
use Rattle.lan_model.specs.Table.{Table}
use Rattle.lan_store.specs.declared.name.Name.{Name}
use Rattle.lan_store.specs.declared.name.Object.{Object}
use Rattle.lan_store.specs.Names.{same_name}
use Rattle.lan_store.specs.Objects.{object}
use Rattle.lan_manifest.specs.declared.manifest.Fragment.{Fragment}
use Rattle.lan_manifest.specs.declared.manifest.DataFile.{DataFile}
use Rattle.lan_manifest.specs.declared.manifest.Deletion.{Deletion}
use Rattle.lan_read.specs.Rows.{IsHeld, deletion_name, FilesGive, PhysicalRows, AreDeleted, FragmentGives, FragmentsGive, data_name}
use Rattle.lan_read.specs.Tables.{StandsFor}

-- what is held under the name is held by the others too
abbrev pub Keeps : List Object → List Object → Name → Type 0
Keeps objects others name = (bytes : List ℕ) → object objects name ≡ Some bytes → object others name ≡ Some bytes

pub held_kept : (objects others : List Object) (name : Name) (Says : List ℕ → Type 0) → Keeps objects others name → IsHeld objects name Says → IsHeld others name Says
held_kept objects others name Says keeps is = record { bytes = is.bytes; held = keeps is.bytes is.held; size = is.size; says = is.says }

abbrev pub KeepsFiles : List Object → List Object → List DataFile → Type 0
KeepsFiles objects others files = All (λ file. Keeps objects others (data_name file.path)) files

files_give_kept : (objects others : List Object) (files : List DataFile) (f : PlainField ℕ) (values : List PlainValue) → KeepsFiles objects others files → FilesGive objects files f values → FilesGive others files f values
files_give_kept objects others files f values keeps give = record {
  given = λ k d below at. held_kept objects others (data_name at.file.path) _ (All-contains (λ file. Keeps objects others (data_name file.path)) files at.file keeps at.is_one) (give.given k d below at);
  absent = give.absent;
}

-- the rows of files turn on their bytes alone
pub physical_kept : (objects others : List Object) (fields : List (PlainField ℕ)) (files : List DataFile) (count : ℕ) (rows : List (List PlainValue)) → KeepsFiles objects others files → PhysicalRows objects fields files count rows
    → PhysicalRows others fields files count rows
physical_kept objects others fields files count rows keeps is = record {
  long = is.long;
  fit = is.fit;
  held = λ k d below. held_kept objects others _ _ (keeps k d below) (is.held k d below);
  columns = λ top f at. files_give_kept objects others files f _ keeps (is.columns top f at);
}

-- the names of a fragment's objects
pub record KeepsFragment (objects others : List Object) (f : Fragment) : Type 0 where
  pub files : KeepsFiles objects others f.files
  pub deletion : (d : Deletion) → f.deletion ≡ Some d → Keeps objects others (deletion_name f.id d)

deleted_kept : (objects others : List Object) (fragment : ℕ) (d : Option Deletion) (count : ℕ) (deleted : List ℕ) → ((e : Deletion) → d ≡ Some e → Keeps objects others (deletion_name fragment e)) → AreDeleted objects fragment d count deleted
    → AreDeleted others fragment d count deleted
deleted_kept objects others fragment None count deleted keeps is = is
deleted_kept objects others fragment (Some d) count deleted keeps is = held_kept objects others _ _ (keeps d refl) is

pub fragment_kept : (objects others : List Object) (fields : List (PlainField ℕ)) (f : Fragment) (kept : List (List PlainValue)) → KeepsFragment objects others f → FragmentGives objects fields f kept → FragmentGives others fields f kept
fragment_kept objects others fields f kept keeps is = record {
  physical = is.physical;
  deleted = is.deleted;
  rows = physical_kept objects others fields f.files f.rows is.physical keeps.files is.rows;
  deletions = deleted_kept objects others f.id f.deletion f.rows is.deleted keeps.deletion is.deletions;
  left = is.left;
}

pub rows_kept : (objects others : List Object) (fields : List (PlainField ℕ)) (fs : List Fragment) (rows : List (List PlainValue)) → All (KeepsFragment objects others) fs → FragmentsGive objects fields fs rows → FragmentsGive others fields fs rows
rows_kept objects others fields [] rows keeps is = is
rows_kept objects others fields (f ∷ fs) rows keeps (mine, later, first, rest, is) = (
  mine,
  later,
  fragment_kept objects others fields f mine (All-head (KeepsFragment objects others) f fs keeps) first,
  rows_kept objects others fields fs later (All-tail (KeepsFragment objects others) f fs keeps) rest,
  is,
)

pub held_more : (objects more : List Object) (name : Name) → Keeps objects (objects ++ more) name
unfolding object
held_more [] more name bytes held = absurd (cc held)
held_more (o ∷ os) more name bytes held = elim (cases_Bool (same_name o.name name)) [
  | inl same ↦ rw same (rw same at held)
  | inr other ↦ rw other (held_more os more name bytes (rw other at held))
]

pub names_kept : (objects more : List Object) (fs : List Fragment) → All (KeepsFragment objects (objects ++ more)) fs
names_kept objects more fs k d below = record { files = λ j e within. held_more objects more _; deletion = λ e is. held_more objects more _ }

pub fragments_stay : (objects more : List Object) (fields : List (PlainField ℕ)) (fs : List Fragment) (rows : List (List PlainValue)) → FragmentsGive objects fields fs rows → FragmentsGive (objects ++ more) fields fs rows
fragments_stay objects more fields fs rows is = rows_kept objects (objects ++ more) fields fs rows (names_kept objects more fs) is

-- a version that stands, stands with more objects for the same table
pub table_stays : (objects more : List Object) (version : ℕ) (t : Table) → StandsFor objects version t → StandsFor (objects ++ more) version t
table_stays objects more version t stands = record {
  manifest = stands.manifest;
  has = record { is_version = stands.has.is_version; held = held_kept objects (objects ++ more) _ _ (held_more objects more _) stands.has.held };
  columns = stands.columns;
  rows = fragments_stay objects more stands.manifest.fields stands.manifest.fragments t.rows stands.rows;
}
