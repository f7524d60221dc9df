use Rattle.lan_read.proofs.ScannedTables.{scanned_front}
use Rattle.lan_read.proofs.laws.scan_fronts_are_fronts.Goals as goal

pub returns : goal.returns
returns c = scanned_front
