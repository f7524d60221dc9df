use Rattle.lan_wire.proofs.MessageLaws.{items_unique}
use Rattle.lan_wire.proofs.laws.items_are_unique.Goals as goal

pub returns : goal.returns
returns c = items_unique
