use Rattle.std.proofs.Common.{◌≡◌, ◌++◌, drop}
use Rattle.lan_model.specs.Leaves.{plain_leaves}
use Rattle.lan_commit.specs.BuiltColumns.{CanBeBuilt, built}
use Rattle.lan_commit.proofs.new_rows.build_each.Given as goal

abbrev pub invariant-loop-i : goal.invariant-loop-i
invariant-loop-i l = record {
  can : CanBeBuilt (plain_leaves (drop l.i l.leaves)) (drop l.i l.columns);
  done : l.pages ++ built (plain_leaves (drop l.i l.leaves)) (drop l.i l.columns) ≡ built (plain_leaves l.leaves) l.columns;
}
