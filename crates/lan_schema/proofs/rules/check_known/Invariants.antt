use Rattle.lan_schema.specs.Listed.{is_untyped}
use Rattle.lan_schema.proofs.Walking.{Passed}
use Rattle.lan_schema.proofs.rules.check_known.Given as goal

abbrev pub invariant-loop-node : goal.invariant-loop-node
invariant-loop-node l = Passed is_untyped l.node-index l.nodes
