use Rattle.lan_wire.proofs.ItemSizes.{few_parts}
use Rattle.lan_wire.proofs.laws.messages_are_few.Goals as goal

pub returns : goal.returns
returns c = λ rules message items number r. few_parts message.base message.bytes items number r.spelled
