-- The objects that a change puts, in their order, and the first limit that it reaches.
use Rattle.std.specs.Prelude.{◌≡◌, ℕ, List, [], ◌∷◌, ◌++◌, length, map, Option, Vec, Result}
use Rattle.std.specs.declared.alloc.Global.{Global}
use Rattle.lan_model.specs.Plain.{PlainField, PlainValue, fields_from, values_from}
use Rattle.lan_store.specs.declared.name.Object.{Object}
use Rattle.lan_file.specs.FileText.{file_text}
use Rattle.lan_file.specs.SlotsWritten.{rows_columns}
use Rattle.lan_fresh.specs.Fresh.{fresh_file, file_path}
use Rattle.lan_manifest.specs.Manifests.{manifest_object}
use Rattle.lan_read.specs.Rows.{data_name}
use Rattle.lan_commit.specs.Change.{Change, create, append, restore, manifest_after}
use Rattle.lan_commit.specs.First.{first_limit}
use Rattle.lan_commit.specs.Limits.{append_limit, bytes_limit, version_limit}
use Rattle.lan_commit.specs.Prepares.{JudgesLimit}
use Rattle.lan_commit.specs.declared.committing.CommitFault.{CommitFault}
use Rattle.lan_commit.specs.declared.limits.Which.{Which}

-- the data file of rows of these fields, a column for each leaf
abbrev pub rows_text : List (PlainField ℕ) → List (List PlainValue) → List ℕ
rows_text fields rows = file_text (fields_from fields) (length rows) (rows_columns (fields_from fields) (map values_from rows))

-- it under this number
abbrev pub data_object : ℕ → List (PlainField ℕ) → List (List PlainValue) → Object
data_object number fields rows = record { name = data_name (file_path number); bytes = rows_text fields rows }

-- the data files of a change
abbrev pub files_of : List Object → Change → List Object
files_of objects (create fields) = []
files_of objects (append newest []) = []
files_of objects (append newest (row ∷ rows)) = data_object (fresh_file objects) newest.fields (row ∷ rows) ∷ []
files_of objects (restore newest old) = []

-- the objects that it puts on these, the manifest last
abbrev pub puts_of : List Object → Change → List Object
puts_of objects change = files_of objects change ++ manifest_object (manifest_after objects change) ∷ []

-- the first limit that it reaches, with its number: of a number, and last of an object's bytes
abbrev pub limit_of : List Object → Change → Option (Which × ℕ)
limit_of objects (create fields) = first_limit fields
limit_of objects (append newest rows) = append_limit objects newest (length rows) (bytes_limit (puts_of objects (append newest rows)))
limit_of objects (restore newest old) = version_limit newest (bytes_limit (puts_of objects (restore newest old)))

-- preparing it gives these objects, where no limit is reached, and else that limit
abbrev pub Prepares : List Object → Change → Result (Vec Object Global) CommitFault → Type 0
Prepares objects change result = JudgesLimit (limit_of objects change) (λ puts. puts.items ≡ puts_of objects change) result
