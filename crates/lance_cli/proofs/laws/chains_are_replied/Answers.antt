use Rattle.lance_cli.proofs.ReplyParts.{chain_replies}
use Rattle.lance_cli.proofs.laws.chains_are_replied.Goals as goal

pub returns : goal.returns
returns c = chain_replies
