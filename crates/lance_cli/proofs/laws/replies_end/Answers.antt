use Rattle.lance_cli.proofs.ReplyParts.{replies_ended}
use Rattle.lance_cli.proofs.laws.replies_end.Goals as goal

pub returns : goal.returns
returns c = replies_ended
