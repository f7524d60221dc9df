use Rattle.lan_zip.proofs.Written.{written_stand}
use Rattle.lan_zip.proofs.laws.written_pages_stand.Goals as goal

pub returns : goal.returns
returns c = written_stand
