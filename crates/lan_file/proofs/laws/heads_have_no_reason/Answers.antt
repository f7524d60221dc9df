use Rattle.lan_file.proofs.HeadLaws.{no_head_reason}
use Rattle.lan_file.proofs.laws.heads_have_no_reason.Goals as goal

pub returns : goal.returns
returns c = no_head_reason
