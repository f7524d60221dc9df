use Rattle.lan_mini.proofs.PageBack.{pages_read}
use Rattle.lan_mini.proofs.laws.pages_are_read.Goals as goal

pub returns : goal.returns
returns c = pages_read
