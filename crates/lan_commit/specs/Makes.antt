-- What a change reads is what the objects have, and the table that it makes of it.
use Rattle.std.specs.Prelude.{◌≡◌, ℕ, ◌^◌, ◌<◌, ◌++◌, List, length}
use Rattle.lan_model.specs.Plain.{PlainField, fields_from}
use Rattle.lan_model.specs.Table.{Table}
use Rattle.lan_schema.specs.Forest.{AreDistinct}
use Rattle.lan_schema.specs.Written.{AreTableFields, CanTellAll, trees_of}
use Rattle.lan_store.specs.declared.name.Object.{Object}
use Rattle.lan_manifest.specs.Versions.{NoneListed}
use Rattle.lan_read.specs.Snapshots.{IsNewestManifest}
use Rattle.lan_read.specs.Tables.{HasManifest, StandsFor}
use Rattle.lan_commit.specs.Change.{Change, create, append, restore}
use Rattle.lan_commit.specs.First.{no_rows}
use Rattle.lan_commit.specs.Shredded.{CanBeWritten}

-- fields of a table that a manifest may have: messages can tell them, and each has a number of its own
pub record CanBeStored (fields : List (PlainField ℕ)) : Type 0 where
  pub told : CanTellAll (fields_from fields)
  pub table : AreTableFields (fields_from fields)
  pub apart : AreDistinct (trees_of (fields_from fields))

-- none is listed before a create; an append and a restore come after the newest version, and a restore has the table of the old one
abbrev pub Makes : List Object → Change → Table → Type 0
Makes objects (create fields) t = NoneListed objects × CanBeStored fields × (t ≡ no_rows fields)
Makes objects (append newest rows) t =
    (before : Table) × IsNewestManifest objects newest × StandsFor objects newest.version before × CanBeWritten newest.fields rows × (length rows < 2 ^ 31) × (t ≡ record before { rows = before.rows ++ rows })
Makes objects (restore newest old) t = IsNewestManifest objects newest × HasManifest objects old.version old × StandsFor objects old.version t

-- it comes after the newest version of the objects, and a create where there is none
abbrev pub ComesAfter : List Object → Change → Type 0
ComesAfter objects (create fields) = NoneListed objects
ComesAfter objects (append newest rows) = IsNewestManifest objects newest
ComesAfter objects (restore newest old) = IsNewestManifest objects newest
