use Rattle.std.proofs.Common.{◌≡◌}
use Rattle.std.specs.Prelude.{ℤ, unwrap_or}
use Rattle.std.specs.Ordering.{int_cmp}
use Rattle.std.specs.BTreeMap as tree
use Rattle.lan_schema.specs.Listed.{layers_of, is_deep}
use Rattle.lan_schema.proofs.Walking.{before, Passed}
use Rattle.lan_schema.proofs.rules.deep_leaf.Given as goal

abbrev pub invariant-loop-node : goal.invariant-loop-node
invariant-loop-node l = record {
  passed : Passed is_deep l.node-index l.nodes;
  layers : (q : ℤ) → unwrap_or (tree.get int_cmp l.layers q) 0 ≡ layers_of (before l.node-index l.nodes) q;
}
