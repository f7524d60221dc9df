-- Reading a row of several fields, each by its reader.
use Rattle.std.specs.Prelude.{ℕ, ◌≤◌, List, All, Contains, Option, Result, Ok, Err}
use Rattle.std.specs.List.{AllZip}
use Rattle.lan_model.specs.Plain.{PlainField, PlainValue}
use Rattle.lan_model.specs.PlainTable.{row_of}
use Rattle.lan_model.specs.Table.{depths_of}
use Rattle.lan_model.specs.declared.tree.Val.{Val}
use Rattle.lan_page.specs.ColumnCursors.{PlainCursor}
use Rattle.lan_store.specs.declared.name.Object.{Object}
use Rattle.lan_manifest.specs.declared.manifest.DataFile.{DataFile}
use Rattle.lan_read.specs.FieldReaders.{IsValueOf, ReadsField, RefusesValue}
use Rattle.lan_read.specs.declared.read_fault.ReadFault.{ReadFault}

-- no leaf of the field has more than 16 layers
abbrev pub IsShallow : PlainField ℕ → Type 0
IsShallow f = All (λ depth. depth ≤ 16) (depths_of f 0)

-- a reader of each field, in order
abbrev pub ReadFields : List Object → List DataFile → ℕ → List (PlainField ℕ) → List (Option (List PlainCursor)) → Type 0
ReadFields objects files count fields readers = AllZip (ReadsField objects files count) fields readers

-- a value of each field, in order, that is the row's
abbrev pub AreValuesOf : List Object → List DataFile → ℕ → List (PlainField ℕ) → ℕ → List PlainValue → Type 0
AreValuesOf objects files count fields row values = AllZip (λ f v. IsValueOf objects files count f row v) fields values

-- of one of the fields there is no value
pub record RefusesOneValue (objects : List Object) (files : List DataFile) (count : ℕ) (fields : List (PlainField ℕ)) (row : ℕ) (fault : ReadFault) : Type 0 where
  pub field : PlainField ℕ
  pub is_one : Contains fields field
  pub refuses : RefusesValue objects files count field row fault

abbrev pub AnswersRow : List Object → List DataFile → ℕ → List (PlainField ℕ) → ℕ → Result (List Val) ReadFault → Type 0
AnswersRow objects files count fields row (Ok values) = AreValuesOf objects files count fields row (row_of values)
AnswersRow objects files count fields row (Err fault) = RefusesOneValue objects files count fields row fault
