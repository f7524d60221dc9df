use Rattle.lan_wire.proofs.WrittenLaws.{number_spelled}
use Rattle.lan_wire.proofs.laws.written_numbers_are_read.Goals as goal

pub returns : goal.returns
returns c = number_spelled
