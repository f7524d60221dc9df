use Rattle.lan_meta.proofs.PagesBack.{column_back}
use Rattle.lan_meta.proofs.laws.written_columns_are_read.Goals as goal

pub returns : goal.returns
returns c = column_back
