use Rattle.std.proofs.Common.{◌≡◌, ◌+◌, drop}
use Rattle.lan_model.specs.Plain.{plain_fields, all_unnumbered}
use Rattle.lan_form.specs.Limits.{all_leaves}
use Rattle.lan_form.proofs.limits.+leaves.Given as goal

abbrev pub invariant-all_leaves-loop-field : goal.invariant-all_leaves-loop-field
invariant-all_leaves-loop-field l =
    l.left + all_leaves (all_unnumbered (plain_fields l.fields)) ≡ l.room + all_leaves (all_unnumbered (plain_fields (drop l.field-index l.fields)))
