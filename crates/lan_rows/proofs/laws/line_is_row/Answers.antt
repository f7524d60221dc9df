use Rattle.lan_rows.proofs.RowStands.{line_is}
use Rattle.lan_rows.proofs.laws.line_is_row.Goals as goal

pub returns : goal.returns
returns c = line_is
