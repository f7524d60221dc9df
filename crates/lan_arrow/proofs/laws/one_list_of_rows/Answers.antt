use Rattle.lan_arrow.proofs.OneList.{one_list}
use Rattle.lan_arrow.proofs.laws.one_list_of_rows.Goals as goal

pub returns : goal.returns
returns c = one_list
