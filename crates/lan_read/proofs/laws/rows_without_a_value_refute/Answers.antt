use Rattle.lan_read.proofs.RowRuns.{no_fragment, no_rows, no_table}
use Rattle.lan_read.proofs.laws.rows_without_a_value_refute.Goals as goal

pub returns : goal.returns
returns c = record { rows = no_rows; fragment = no_fragment; table = no_table }
