use Rattle.lan_read.proofs.ScannedTables.{scanned_table}
use Rattle.lan_read.proofs.laws.scanned_rows_are_the_tables.Goals as goal

pub returns : goal.returns
returns c = scanned_table
