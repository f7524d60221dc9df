use Rattle.lan_index.proofs.ChunkRows.{runs_hold_rows}
use Rattle.lan_index.proofs.laws.runs_hold_rows.Goals as goal

pub returns : goal.returns
returns c = runs_hold_rows
