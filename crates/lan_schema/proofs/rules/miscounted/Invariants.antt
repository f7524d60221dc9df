use Rattle.std.proofs.Common.{◌≡◌, ◌≤◌, length}
use Rattle.std.specs.Prelude.{ℤ, unwrap_or}
use Rattle.std.specs.Ordering.{int_cmp}
use Rattle.std.specs.BTreeMap as tree
use Rattle.lan_schema.specs.Listed.{children_of, miscounts, Lacks}
use Rattle.lan_schema.proofs.Walking.{before, after}
use Rattle.lan_schema.proofs.rules.miscounted.Given as goal

abbrev pub invariant-loop-i : goal.invariant-loop-i
invariant-loop-i l = record {
  within : l.i ≤ length l.nodes;
  lacks : Lacks miscounts (before l.i l.nodes) (after l.i l.nodes);
  counted : (q : ℤ) → unwrap_or (tree.get int_cmp l.counts q) 0 ≡ children_of (after l.i l.nodes) q;
}

abbrev pub decreases-loop-i : goal.decreases-loop-i
decreases-loop-i l = l.i
