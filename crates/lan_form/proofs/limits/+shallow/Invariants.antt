use Rattle.std.proofs.Common.{◌≡◌, drop}
use Rattle.lan_model.specs.Plain.{plain_fields, all_unnumbered}
use Rattle.lan_model.specs.Table.{all_depths, AreFields}
use Rattle.lan_form.specs.Limits.{are_shallow}
use Rattle.lan_form.proofs.limits.+shallow.Given as goal

abbrev pub invariant-are_shallow-loop-field : goal.invariant-are_shallow-loop-field
invariant-are_shallow-loop-field l = record {
  shallow : are_shallow (all_depths (all_unnumbered (plain_fields l.fields)) l.outer) ≡ are_shallow (all_depths (all_unnumbered (plain_fields (drop l.field-index l.fields))) l.outer);
  fields : AreFields (all_unnumbered (plain_fields (drop l.field-index l.fields)));
}
