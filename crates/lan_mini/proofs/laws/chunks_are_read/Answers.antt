use Rattle.lan_mini.proofs.Inverse.{chunks_read}
use Rattle.lan_mini.proofs.laws.chunks_are_read.Goals as goal

pub returns : goal.returns
returns c = chunks_read
