use Rattle.std.proofs.Common.{List, [], length}
use Rattle.lan_wire.specs.declared.item.Item.{Item}
use Rattle.lan_wire.specs.Spells.{Given}
use Rattle.lan_wire.specs.Messages.{Obey}
use Rattle.lan_wire.proofs.judging.judge_message.Given as goal

abbrev pub invariant-loop-found : goal.invariant-loop-found
invariant-loop-found l = (items : List Item) × Given l.message items l.fields × Obey l.rules [] items

abbrev pub decreases-loop-found : goal.decreases-loop-found
decreases-loop-found l = length l.fields.bytes
