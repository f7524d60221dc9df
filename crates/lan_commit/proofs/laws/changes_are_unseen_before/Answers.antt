use Rattle.lan_commit.proofs.ChangeStands.{change_unseen}
use Rattle.lan_commit.proofs.laws.changes_are_unseen_before.Goals as goal

pub returns : goal.returns
returns c = change_unseen
