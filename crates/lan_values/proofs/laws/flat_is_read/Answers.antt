use Rattle.lan_values.proofs.FlatRead.{flat_read}
use Rattle.lan_values.proofs.laws.flat_is_read.Goals as goal

pub returns : goal.returns
returns c = flat_read
