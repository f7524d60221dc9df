use Rattle.std.proofs.Common.{◌≡◌, max, drop}
use Rattle.lan_model.specs.Plain.{plain_fields}
use Rattle.lan_schema.specs.Fresh.{end_of_all}
use Rattle.lan_schema.proofs.fresh.+end.Given as goal

abbrev pub invariant-end_of_all-loop-field : goal.invariant-end_of_all-loop-field
invariant-end_of_all-loop-field l = max l.end (end_of_all (plain_fields (drop l.field-index l.fields))) ≡ end_of_all (plain_fields l.fields)
