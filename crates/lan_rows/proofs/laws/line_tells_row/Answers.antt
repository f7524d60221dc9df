use Rattle.lan_rows.proofs.LineTells.{line_tells}
use Rattle.lan_rows.proofs.laws.line_tells_row.Goals as goal

pub returns : goal.returns
returns c = line_tells
