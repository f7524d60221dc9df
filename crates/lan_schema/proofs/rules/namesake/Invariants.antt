use Rattle.std.proofs.Common.{◌≡◌, ℕ}
use Rattle.std.specs.Prelude.{ℤ}
use Rattle.std.specs.Ordering.{int_cmp, nat_cmp, ordering_then}
use Rattle.std.specs.Cmp.Lexicographic.{slice_cmp}
use Rattle.std.specs.BTreeSet as tree
use Rattle.std.proofs.Common.{List, Bor}
use Rattle.lan_schema.specs.Listed.{is_named, has_namesake}
use Rattle.lan_schema.proofs.Walking.{before, Passed}
use Rattle.lan_schema.proofs.rules.namesake.Given as goal

abbrev pub invariant-loop-node : goal.invariant-loop-node
invariant-loop-node l = record {
  passed : Passed has_namesake l.node-index l.nodes;
  seen : (q : ℤ × Bor (List ℕ)) → tree.contains (λ x y. ordering_then (int_cmp x.0 y.0) (slice_cmp nat_cmp x.1.now y.1.now)) l.seen q ≡ is_named (before l.node-index l.nodes) q.0 q.1.now;
}
