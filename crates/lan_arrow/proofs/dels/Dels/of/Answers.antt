use Rattle.std.proofs.Common.{ℕ, ◌<◌}
use Rattle.std.proofs.lemmas.List.Sorted.{All-permutation}
use Rattle.lan_arrow.proofs.Spread.{spread, rising_from_sort}
use Rattle.lan_arrow.proofs.dels.Dels.of.Goals as goal

pub returns-clause-rising : goal.returns-clause-rising
returns-clause-rising c =
    rising_from_sort c.args.rows.items c.sort_unstable.new.self.items c.requires.right.distinct
    c.sort_unstable.ensures.permutation c.sort_unstable.ensures.sorted

pub invariant_of-result : goal.invariant_of-result
invariant_of-result c = (
  spread c.sort_unstable.new.self.items (rising_from_sort c.args.rows.items c.sort_unstable.new.self.items
      c.requires.right.distinct c.sort_unstable.ensures.permutation c.sort_unstable.ensures.sorted),
  (λ (i : ℕ) l. All-permutation (λ (x : ℕ). x < c.args.physical) c.args.rows.items c.sort_unstable.new.self.items
      c.sort_unstable.ensures.permutation c.requires.right.below i 0 l),
  c.requires.few,
)
