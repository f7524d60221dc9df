use Rattle.lan_read.proofs.KeptTables.{fragments_stay, table_stays}
use Rattle.lan_read.proofs.laws.standing_tables_stay.Goals as goal

pub returns : goal.returns
returns c = record { tables = table_stays; rows = fragments_stay }
