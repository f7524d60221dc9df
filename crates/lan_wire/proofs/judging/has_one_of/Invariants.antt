use Rattle.std.proofs.Common.{◌≡◌, length}
use Rattle.std.specs.List.{list_any}
use Rattle.lan_wire.specs.Rules.{kind_at}
use Rattle.lan_wire.specs.Messages.{is_one_of}
use Rattle.lan_wire.specs.Values.{AreItems, items_of}
use Rattle.lan_wire.proofs.judging.has_one_of.Given as goal

abbrev pub invariant-loop-item : goal.invariant-loop-item
invariant-loop-item l = AreItems l.fields × (list_any (λ item. is_one_of (kind_at l.rules item.number)) (items_of l.fn.message) ≡ list_any (λ item. is_one_of (kind_at l.rules item.number)) (items_of l.fields))

abbrev pub decreases-loop-item : goal.decreases-loop-item
decreases-loop-item l = length l.fields.bytes
