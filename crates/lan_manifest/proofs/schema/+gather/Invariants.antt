use Rattle.std.proofs.Common.{◌≡◌, ◌++◌, drop}
use Rattle.lan_model.specs.Plain.{plain_fields}
use Rattle.lan_manifest.specs.SchemaLeaves.{all_leaf_ids}
use Rattle.lan_manifest.proofs.schema.+gather.Given as goal

abbrev pub invariant-gather_all-loop-field : goal.invariant-gather_all-loop-field
invariant-gather_all-loop-field l = l.ids ++ all_leaf_ids (plain_fields (drop l.field-index l.fields)) ≡ l.initial.ids ++ all_leaf_ids (plain_fields l.fields)
