use Rattle.lan_rows.proofs.RowsStep.{rows_step}
use Rattle.lan_rows.proofs.laws.rows_step.Goals as goal

pub returns : goal.returns
returns c = rows_step
