use Rattle.std.proofs.Common.{◌≡◌, ◌++◌, length}
use Rattle.lan_wire.specs.Values.{AreItems, items_of, numbers_of, nums_under}
use Rattle.lan_wire.proofs.said.next_number.Given as goal

abbrev pub invariant-loop-value : goal.invariant-loop-value
invariant-loop-value l = AreItems l.fields × (numbers_of l.initial.packed ++ nums_under l.number (items_of l.initial.fields) ≡ numbers_of l.packed ++ nums_under l.number (items_of l.fields))

abbrev pub decreases-loop-value : goal.decreases-loop-value
decreases-loop-value l = length l.fields.bytes
