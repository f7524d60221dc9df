use Rattle.lan_commit.proofs.ChangeNames.{change_named}
use Rattle.lan_commit.proofs.laws.changes_meet_no_name.Goals as goal

pub returns : goal.returns
returns c = change_named
