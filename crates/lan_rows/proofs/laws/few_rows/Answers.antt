use Rattle.lan_rows.proofs.FewRows.{few_rows}
use Rattle.lan_rows.proofs.laws.few_rows.Goals as goal

pub returns : goal.returns
returns c = few_rows
