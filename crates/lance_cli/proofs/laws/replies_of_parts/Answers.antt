use Rattle.lance_cli.proofs.ReplyParts.{replies_append}
use Rattle.lance_cli.proofs.laws.replies_of_parts.Goals as goal

pub returns : goal.returns
returns c = replies_append
