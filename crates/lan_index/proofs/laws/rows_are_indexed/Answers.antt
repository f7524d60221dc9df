use Rattle.lan_index.proofs.ChunkRows.{rows_are_indexed}
use Rattle.lan_index.proofs.laws.rows_are_indexed.Goals as goal

pub returns : goal.returns
returns c = rows_are_indexed
