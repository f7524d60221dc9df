use Rattle.std.proofs.Common.{◌≡◌, drop}
use Rattle.lan_wire.specs.Rules.{kind_in}
use Rattle.lan_wire.proofs.rules.Rules.kind.Given as goal

abbrev pub invariant-loop-rule : goal.invariant-loop-rule
invariant-loop-rule l = kind_in l.rule-items l.self.others l.number ≡ kind_in (drop l.rule-index l.rule-items) l.self.others l.number
