use Rattle.lan_schema.specs.Listed.{is_nameless}
use Rattle.lan_schema.proofs.Walking.{Passed}
use Rattle.lan_schema.proofs.rules.nameless.Given as goal

abbrev pub invariant-loop-node : goal.invariant-loop-node
invariant-loop-node l = Passed is_nameless l.node-index l.nodes
