use Rattle.lan_commit.proofs.ChangeStands.{change_stands}
use Rattle.lan_commit.proofs.laws.changes_stand.Goals as goal

pub returns : goal.returns
returns c = change_stands
