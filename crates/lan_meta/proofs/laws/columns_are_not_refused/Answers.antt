use Rattle.lan_meta.proofs.OneColumn.{column_fails}
use Rattle.lan_meta.proofs.laws.columns_are_not_refused.Goals as goal

pub returns : goal.returns
returns c = column_fails
