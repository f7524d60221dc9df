use Rattle.lan_read.proofs.ScannedTables.{table_fits}
use Rattle.lan_read.proofs.laws.standing_rows_fit.Goals as goal

pub returns : goal.returns
returns c = table_fits
