use Rattle.std.proofs.Common.{◌≡◌, ◌++◌, length}
use Rattle.lan_wire.specs.Values.{nums_under}
use Rattle.lan_wire.proofs.said.Said.nums.Given as goal

abbrev pub invariant-loop-value : goal.invariant-loop-value
invariant-loop-value l = nums_under l.number l.self.items ≡ l.list ++ l.numbers

abbrev pub decreases-loop-value : goal.decreases-loop-value
decreases-loop-value l = length l.numbers
