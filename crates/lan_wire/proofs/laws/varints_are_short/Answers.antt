use Rattle.lan_wire.proofs.Varints.{length-varint}
use Rattle.lan_wire.proofs.laws.varints_are_short.Goals as goal

pub returns : goal.returns
returns c = length-varint
