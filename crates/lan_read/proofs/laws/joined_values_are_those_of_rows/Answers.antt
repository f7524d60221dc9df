use Rattle.lan_read.proofs.JoinedRows.{row_joined, value_joined}
use Rattle.lan_read.proofs.laws.joined_values_are_those_of_rows.Goals as goal

pub returns : goal.returns
returns c = record { value = value_joined; row = row_joined }
