-- The fields of a manifest that was opened.
use Rattle.std.proofs.Common.{map}
use Rattle.lan_model.specs.Plain.{fields_from, unnumbered}
use Rattle.lan_model.specs.Table.{AreColumns}
use Rattle.lan_schema.proofs.LawTerms.{columns_same, read_fields}
use Rattle.lan_manifest.specs.Manifests.{PlainManifest}
use Rattle.lan_read.specs.Snapshots.{IsSnapshot}

pub snapshot_columns : (m : PlainManifest) → IsSnapshot m → AreColumns (map unnumbered m.fields)
snapshot_columns m is = (columns_same m.fields).1 (read_fields is.stands.message 1 (fields_from m.fields) is.stands.stands.fields).table
