use Rattle.std.proofs.Common.{◌≡◌, drop}
use Rattle.lan_model.specs.Plain.{plain_fields}
use Rattle.lan_rows.specs.Values.{is_name}
use Rattle.lan_rows.proofs.values.is_name.Given as goal

abbrev pub invariant-loop-field : goal.invariant-loop-field
invariant-loop-field l = is_name l.key (plain_fields l.fields) ≡ is_name l.key (plain_fields (drop l.field-index l.fields))
