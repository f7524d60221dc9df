use Rattle.lan_zip.proofs.Standing.{rows_stand}
use Rattle.lan_zip.proofs.laws.rows_can_stand.Goals as goal

pub returns : goal.returns
returns c = rows_stand
