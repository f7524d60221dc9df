use Rattle.lan_zip.proofs.Inverse.{pages_read}
use Rattle.lan_zip.proofs.laws.pages_are_read.Goals as goal

pub returns : goal.returns
returns c = pages_read
