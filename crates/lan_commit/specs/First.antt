-- The manifest of a new dataset.
use Rattle.std.specs.Prelude.{ℕ, List, [], ◌∷◌, map, Option, None}
use Rattle.lan_model.specs.Plain.{PlainField, unnumbered}
use Rattle.lan_model.specs.Table.{Table}
use Rattle.lan_store.specs.declared.name.Object.{Object}
use Rattle.lan_manifest.specs.Manifests.{PlainManifest, manifest_object}
use Rattle.lan_commit.specs.Limits.{bytes_limit}
use Rattle.lan_commit.specs.declared.limits.Which.{Which}

-- a table of these fields, without rows
abbrev pub no_rows : List (PlainField ℕ) → Table
no_rows fields = record { columns = map unnumbered fields; rows = [] }

-- its version 1
abbrev pub first_manifest : List (PlainField ℕ) → PlainManifest
first_manifest fields = record { fields = fields; fragments = []; version = 1; greatest = None }

-- the one object of a new dataset
abbrev pub first_object : List (PlainField ℕ) → Object
first_object fields = manifest_object (first_manifest fields)

-- the limit that it reaches
abbrev pub first_limit : List (PlainField ℕ) → Option (Which × ℕ)
first_limit fields = bytes_limit (first_object fields ∷ [])
