use Rattle.lan_wire.proofs.MessageLaws.{items_append}
use Rattle.lan_wire.proofs.laws.items_append.Goals as goal

pub returns : goal.returns
returns c = items_append
