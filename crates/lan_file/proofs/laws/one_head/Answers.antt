use Rattle.lan_file.proofs.HeadLaws.{one_head}
use Rattle.lan_file.proofs.laws.one_head.Goals as goal

pub returns : goal.returns
returns c = one_head
