use Rattle.std.proofs.Common.{◌≡◌, ◌++◌, List, Bor, ℕ, true}
use Rattle.std.specs.Ordering.{nat_cmp}
use Rattle.std.specs.Cmp.Lexicographic.{slice_cmp}
use Rattle.std.specs.BTreeSet as tree
use Rattle.lance_cli.specs.Options.{between_commas, are_names, is_among}
use Rattle.lance_cli.proofs.OptionWords.{Gives}
use Rattle.lance_cli.proofs.options.names_of.Given as goal

abbrev pub invariant-loop-name : goal.invariant-loop-name
invariant-loop-name l = record {
  next : (goal.iterator-loop-name).can_next l.name-iterator;
  finite : (goal.iterator-loop-name).is_finite l.name-iterator;
  ahead : List (List ℕ);
  gives : Gives l.name-iterator ahead;
  parts : between_commas l.text ≡ l.names ++ ahead;
  distinct : are_names l.names ≡ true;
  seen : (q : Bor (List ℕ)) → tree.contains (λ x y. slice_cmp nat_cmp x.now y.now) l.seen q ≡ is_among l.names q.now;
}
