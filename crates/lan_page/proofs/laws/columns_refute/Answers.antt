use Rattle.lan_page.proofs.ColumnsRefute.{columns_refute}
use Rattle.lan_page.proofs.laws.columns_refute.Goals as goal

pub returns : goal.returns
returns c = columns_refute
