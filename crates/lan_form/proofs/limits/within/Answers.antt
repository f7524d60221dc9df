use Rattle.std.proofs.Common.{sym, ◌∙◌, true, false, refl}
use Rattle.std.specs.Prelude.{nat_le}
use Rattle.lan_model.specs.Plain.{plain_fields, all_unnumbered}
use Rattle.lan_form.specs.Limits.{all_leaves}
use Rattle.lan_form.proofs.Depths.{within_is, few_by}
use Rattle.lan_form.proofs.limits.within.Goals as goal

pub returns-then-not-are_shallow-clause-err : goal.returns-then-not-are_shallow-clause-err
returns-then-not-are_shallow-clause-err c = within_is c.args.fields.now false (nat_le (all_leaves (all_unnumbered (plain_fields c.args.fields.now))) 1024) (sym c.are_shallow.ensures ∙ c.if-not-are_shallow.true) refl

pub returns-then-is_none-clause-err : goal.returns-then-is_none-clause-err
returns-then-is_none-clause-err c =
    within_is c.args.fields.now true false (sym c.are_shallow.ensures ∙ c.if-not-are_shallow.false) (few_by c.all_leaves.result (all_leaves (all_unnumbered (plain_fields c.args.fields.now))) c.all_leaves.ensures ∙ c.if-is_none.ensures)

pub returns-clause-ok : goal.returns-clause-ok
returns-clause-ok c =
    within_is c.args.fields.now true true (sym c.are_shallow.ensures ∙ c.if-not-are_shallow.false) (few_by c.all_leaves.result (all_leaves (all_unnumbered (plain_fields c.args.fields.now))) c.all_leaves.ensures ∙ c.if-is_none.ensures)
