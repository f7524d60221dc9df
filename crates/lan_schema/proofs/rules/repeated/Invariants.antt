use Rattle.std.proofs.Common.{◌≡◌}
use Rattle.std.specs.Prelude.{ℤ}
use Rattle.std.specs.Ordering.{int_cmp}
use Rattle.std.specs.BTreeSet as tree
use Rattle.lan_schema.specs.Listed.{is_listed, repeats}
use Rattle.lan_schema.proofs.Walking.{before, Passed}
use Rattle.lan_schema.proofs.rules.repeated.Given as goal

abbrev pub invariant-loop-node : goal.invariant-loop-node
invariant-loop-node l = record {
  passed : Passed repeats l.node-index l.nodes;
  seen : (q : ℤ) → tree.contains int_cmp l.seen q ≡ is_listed (before l.node-index l.nodes) q;
}
