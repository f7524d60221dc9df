use Rattle.std.proofs.Common.{◌≡◌, ◌+◌, ◌≤◌, drop}
use Rattle.lan_schema.specs.Listed.{leaves_in}
use Rattle.lan_schema.proofs.rules.leaves_in.Given as goal

abbrev pub invariant-loop-node : goal.invariant-loop-node
invariant-loop-node l = (l.count + leaves_in (drop l.node-index l.nodes) ≡ leaves_in l.nodes) × (l.count ≤ l.node-index)
