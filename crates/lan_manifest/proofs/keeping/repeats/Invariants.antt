use Rattle.std.proofs.Common.{◌≡◌, ◌≤◌, drop, length, false}
use Rattle.std.specs.Prelude.{ℤ}
use Rattle.std.specs.Ordering.{int_cmp}
use Rattle.std.specs.BTreeSet as tree
use Rattle.lan_manifest.specs.FragmentRules.{repeats}
use Rattle.lan_manifest.specs.SchemaLeaves.{is_listed, shape_in}
use Rattle.lan_manifest.proofs.keeping.repeats.Given as goal

abbrev pub invariant-loop-i : goal.invariant-loop-i
invariant-loop-i l = record {
  within : l.i ≤ length l.ids;
  seen : (id : ℤ) → tree.contains int_cmp l.seen id ≡ is_listed (drop l.i l.ids) id;
  once : repeats (shape_in l.schema).is_leaf (drop l.i l.ids) ≡ false;
}

abbrev pub decreases-loop-i : goal.decreases-loop-i
decreases-loop-i l = l.i
