use Rattle.lan_values.proofs.BuiltRead.{variable_read}
use Rattle.lan_values.proofs.laws.variable_is_read.Goals as goal

pub returns : goal.returns
returns c = variable_read
