use Rattle.lan_wire.proofs.WrittenLaws.{packed_spelled, list_spelled}
use Rattle.lan_wire.proofs.laws.written_lists_are_read.Goals as goal

pub returns-clause-part : goal.returns-clause-part
returns-clause-part c = packed_spelled

pub returns-clause-numbers : goal.returns-clause-numbers
returns-clause-numbers c = list_spelled
