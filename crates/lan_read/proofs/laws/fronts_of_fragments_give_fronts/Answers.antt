use Rattle.lan_read.proofs.SingleTable.{front_of_rows}
use Rattle.lan_read.proofs.laws.fronts_of_fragments_give_fronts.Goals as goal

pub returns : goal.returns
returns c = front_of_rows
