use Rattle.lan_meta.proofs.OneColumn.{one_column}
use Rattle.lan_meta.proofs.laws.one_column.Goals as goal

pub returns : goal.returns
returns c = one_column
