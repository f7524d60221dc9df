use Rattle.std.proofs.Common.{◌≡◌, ◌≤◌, length}
use Rattle.lan_wire.specs.Values.{AreItems, items_of, of_number}
use Rattle.lan_wire.proofs.said.next_under.Given as goal

abbrev pub invariant-loop-item : goal.invariant-loop-item
invariant-loop-item l = AreItems l.fields × (of_number l.number (items_of l.initial.fields) ≡ of_number l.number (items_of l.fields)) × (length l.fields.bytes ≤ length l.initial.fields.bytes)

abbrev pub decreases-loop-item : goal.decreases-loop-item
decreases-loop-item l = length l.fields.bytes
