use Rattle.std.proofs.Common.{sym, ◌∙◌}
use Rattle.lan_wire.specs.Rules.{kind_at}
use Rattle.lan_wire.specs.Values.{items_of}
use Rattle.lan_wire.proofs.Obeying.{never_as}
use Rattle.lan_wire.proofs.judging.is_taken.Goals as goal

pub returns-in_default : goal.returns-in_default
returns-in_default c =
    sym (never_as (kind_at c.args.rules.now c.args.number) c.args.rules.now (items_of c.args.message) c.args.number
    (λ e. c.in_default.not-Message (c.kind.ensures ∙ e)) (λ e. c.in_default.not-OneOf (c.kind.ensures ∙ e)))
