use Rattle.std.proofs.Common.{◌≡◌, ◌≤◌, drop, length}
use Rattle.std.specs.Prelude.{ℤ}
use Rattle.std.specs.Ordering.{int_cmp}
use Rattle.std.specs.BTreeSet as tree
use Rattle.lan_manifest.specs.SchemaLeaves.{is_listed}
use Rattle.lan_manifest.proofs.schema.set_of.Given as goal

abbrev pub invariant-loop-i : goal.invariant-loop-i
invariant-loop-i l = record {
  within : l.i ≤ length l.ids;
  set : (id : ℤ) → tree.contains int_cmp l.set id ≡ is_listed (drop l.i l.ids) id;
}

abbrev pub decreases-loop-i : goal.decreases-loop-i
decreases-loop-i l = l.i
