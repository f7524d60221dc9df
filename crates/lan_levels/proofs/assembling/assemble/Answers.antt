use Rattle.std.proofs.Common.{List, subst}
use Rattle.std.proofs.lemmas.Result.{IfErr-weaker}
use Rattle.lan_model.specs.Plain.{plain_field}
use Rattle.lan_levels.specs.declared.slot.SlotRun.{SlotRun}
use Rattle.lan_levels.specs.Joins.{JoinCause}
use Rattle.lan_levels.proofs.Shallow.{shallow_from}
use Rattle.lan_levels.proofs.Assembled.{no_join}
use Rattle.lan_levels.proofs.assembling.assemble.Goals as goal

pub joined-requires-clause-shallow : goal.joined-requires-clause-shallow
joined-requires-clause-shallow c = shallow_from (plain_field c.args.field.now) 0 c.requires.field c.requires.layers

pub returns-clause-none : goal.returns-clause-none
returns-clause-none c =
    let f = plain_field c.args.field.now in
    IfErr-weaker c.joined.result _ _
    (λ e h. no_join f c.args.runs.now e c.requires.field (subst (λ (runs : List SlotRun). JoinCause f runs e) c.as_slice-runs.ensures h))
    c.joined.ensures.cause
