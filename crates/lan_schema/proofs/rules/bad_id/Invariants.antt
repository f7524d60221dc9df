use Rattle.lan_schema.specs.Listed.{has_bad_id}
use Rattle.lan_schema.proofs.Walking.{Passed}
use Rattle.lan_schema.proofs.rules.bad_id.Given as goal

abbrev pub invariant-loop-node : goal.invariant-loop-node
invariant-loop-node l = Passed has_bad_id l.node-index l.nodes
