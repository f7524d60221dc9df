use Rattle.lan_read.proofs.JoinedRows.{version_joins, version_stands}
use Rattle.lan_read.proofs.laws.versions_stand_where_fragments_join.Goals as goal

pub returns : goal.returns
returns c = record { stands = version_stands; joins = version_joins }
