use Rattle.std.proofs.Common.{◌≡◌, ◌++◌, length, map}
use Rattle.lan_wire.specs.Values.{signeds_under, signed_from}
use Rattle.lan_wire.proofs.said.Said.signeds.Given as goal

abbrev pub invariant-loop-value : goal.invariant-loop-value
invariant-loop-value l = signeds_under l.number l.self.items ≡ l.list ++ map signed_from l.numbers

abbrev pub decreases-loop-value : goal.decreases-loop-value
decreases-loop-value l = length l.numbers
