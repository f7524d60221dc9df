use Rattle.std.proofs.Common.{◌≡◌, ◌++◌, drop}
use Rattle.lan_model.specs.Plain.{plain_fields}
use Rattle.lan_manifest.specs.SchemaLeaves.{tops_of}
use Rattle.lan_manifest.proofs.schema.tops_of.Given as goal

abbrev pub invariant-loop-field : goal.invariant-loop-field
invariant-loop-field l = l.tops ++ tops_of (plain_fields (drop l.field-index l.fields)) ≡ tops_of (plain_fields l.fields)
