-- A change of a dataset, with the manifests that it reads, and the manifest that it makes.
use Rattle.std.specs.Prelude.{ℕ, ◌+◌, List, [], ◌∷◌, ◌++◌, length, Some, None}
use Rattle.lan_model.specs.Plain.{PlainField, PlainValue}
use Rattle.lan_store.specs.declared.name.Object.{Object}
use Rattle.lan_fresh.specs.Fresh.{fresh_file, fresh_fragment, file_path}
use Rattle.lan_manifest.specs.Manifests.{PlainManifest}
use Rattle.lan_read.specs.Changes.{new_fragment}
use Rattle.lan_read.specs.Listings.{file_of_fields}
use Rattle.lan_commit.specs.First.{first_manifest}
use Rattle.lan_commit.specs.Greatest.{greatest_written}

-- a new dataset of these fields; rows behind those of the newest manifest; and the fields and fragments of an old manifest again, after the newest
pub data Change : Type 0 where
  create : List (PlainField ℕ) → Change
  append : PlainManifest → List (List PlainValue) → Change
  restore : PlainManifest → PlainManifest → Change

-- the next version, with the same fields and fragments
abbrev pub next_of : PlainManifest → PlainManifest
next_of newest = record newest { version = newest.version + 1; greatest = greatest_written newest None [] }

-- the next version, with a fragment more: of the data file of this number, and of so many rows
abbrev pub next_with_file : ℕ → PlainManifest → ℕ → PlainManifest
next_with_file number newest rows = record newest {
  version = newest.version + 1;
  fragments = newest.fragments ++ new_fragment (fresh_fragment newest) (file_of_fields (file_path number) newest.fields) rows ∷ [];
  greatest = greatest_written newest None (fresh_fragment newest ∷ []);
}

-- the next version, with the old one's fields and fragments
abbrev pub next_as : PlainManifest → PlainManifest → PlainManifest
next_as newest old = record old { version = newest.version + 1; greatest = greatest_written newest (Some old) [] }

-- the manifest that the change makes on these objects; no data file is made of no rows
abbrev pub manifest_after : List Object → Change → PlainManifest
manifest_after objects (create fields) = first_manifest fields
manifest_after objects (append newest []) = next_of newest
manifest_after objects (append newest (row ∷ rows)) = next_with_file (fresh_file objects) newest (length (row ∷ rows))
manifest_after objects (restore newest old) = next_as newest old
