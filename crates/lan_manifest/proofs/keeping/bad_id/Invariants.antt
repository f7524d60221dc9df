use Rattle.std.proofs.Common.{◌≡◌, ℕ, ◌≤◌, drop, length}
use Rattle.std.specs.Ordering.{nat_cmp}
use Rattle.std.specs.BTreeSet as tree
use Rattle.lan_manifest.specs.FragmentRules.{has_id, HaveIds}
use Rattle.lan_manifest.proofs.keeping.bad_id.Given as goal

abbrev pub invariant-loop-i : goal.invariant-loop-i
invariant-loop-i l = record {
  within : l.i ≤ length l.fragments;
  ids : (id : ℕ) → tree.contains nat_cmp l.ids id ≡ has_id (drop l.i l.fragments) id;
  have : HaveIds (drop l.i l.fragments);
}

abbrev pub decreases-loop-i : goal.decreases-loop-i
decreases-loop-i l = l.i
