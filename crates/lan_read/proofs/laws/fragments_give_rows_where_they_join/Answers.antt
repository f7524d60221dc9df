use Rattle.lan_read.proofs.JoinedRows.{fragment_joins, join_fragment}
use Rattle.lan_read.proofs.laws.fragments_give_rows_where_they_join.Goals as goal

pub returns : goal.returns
returns c = record { gives = fragment_joins; joins = join_fragment }
