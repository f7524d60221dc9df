use Rattle.lan_values.proofs.BoolsRead.{bools_read}
use Rattle.lan_values.proofs.laws.bools_are_read.Goals as goal

pub returns : goal.returns
returns c = bools_read
