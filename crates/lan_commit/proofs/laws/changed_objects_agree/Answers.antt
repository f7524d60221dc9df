use Rattle.lan_commit.proofs.ChangeStands.{change_agrees}
use Rattle.lan_commit.proofs.laws.changed_objects_agree.Goals as goal

pub returns : goal.returns
returns c = change_agrees
