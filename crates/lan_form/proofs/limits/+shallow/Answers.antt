use Rattle.std.proofs.Common.{sym, ◌∙◌, ap, ◌+◌, drop, arith}
use Rattle.std.specs.Prelude.{◌&&◌}
use Rattle.lan_model.specs.Plain.{plain_fields, all_unnumbered}
use Rattle.lan_model.specs.PlainTable.{column_of}
use Rattle.lan_model.specs.Table.{all_depths}
use Rattle.lan_form.specs.Limits.{are_shallow}
use Rattle.lan_form.proofs.Depths.{deep_field, shallow_next, fields_next}
use Rattle.lan_form.proofs.limits.+shallow.Goals as goal

pub is_shallow-returns-then-outer-eq-MAX_LAYERS : goal.is_shallow-returns-then-outer-eq-MAX_LAYERS
is_shallow-returns-then-outer-eq-MAX_LAYERS t c = sym (deep_field (column_of c.args.field.now) c.args.outer (omega arith) c.requires.field)

pub are_shallow-returns-then-not-is_shallow : goal.are_shallow-returns-then-not-is_shallow
are_shallow-returns-then-not-is_shallow t c =
    let fs = c.args.fields.now in
    let i = c.loop-field.field-index in
    let rest = are_shallow (all_depths (all_unnumbered (plain_fields (drop (i + 1) fs))) c.args.outer) in
    sym (c.loop-field.invariant.shallow ∙ shallow_next fs i c.field-item.result c.args.outer c.loop-field-test.true c.field-item.is ∙ ap (λ b. b && rest) (sym c.is_shallow.ensures ∙ c.if-not-is_shallow.true))

pub are_shallow-loop-field-preserved : goal.are_shallow-loop-field-preserved
are_shallow-loop-field-preserved t c =
    let fs = c.args.fields.now in
    let i = c.loop-field.field-index in
    let rest = are_shallow (all_depths (all_unnumbered (plain_fields (drop (i + 1) fs))) c.args.outer) in
    record {
      shallow = c.loop-field.invariant.shallow ∙ shallow_next fs i c.field-item.result c.args.outer c.loop-field-test.true c.field-item.is ∙ ap (λ b. b && rest) (sym c.is_shallow.ensures ∙ c.if-not-is_shallow.false);
      fields = (fields_next fs i c.field-item.result c.loop-field-test.true c.field-item.is c.loop-field.invariant.fields).1;
    }
