use Rattle.lan_wire.proofs.WrittenLaws.{part_spelled, text_again}
use Rattle.lan_wire.proofs.laws.written_parts_are_read.Goals as goal

pub returns-clause-part : goal.returns-clause-part
returns-clause-part c = part_spelled

pub returns-clause-text : goal.returns-clause-text
returns-clause-text c = text_again
