use Rattle.std.proofs.Common.{◌≡◌, ◌++◌, drop}
use Rattle.json.specs.Tree.{items_tokens}
use Rattle.lan_model.specs.Plain.{plain_fields}
use Rattle.lan_form.specs.Printed.{fields_json}
use Rattle.lan_form.proofs.printing.+print.Given as goal

abbrev pub invariant-write_fields-loop-field : goal.invariant-write_fields-loop-field
invariant-write_fields-loop-field l = record {
  before : l.out.before ≡ l.initial.out.before;
  tokens : l.initial.out.tokens ++ items_tokens (fields_json (plain_fields l.fields)) ≡ l.out.tokens ++ items_tokens (fields_json (plain_fields (drop l.field-index l.fields)));
}
