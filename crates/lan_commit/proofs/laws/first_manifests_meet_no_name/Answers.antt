use Rattle.lan_commit.proofs.Created.{first_not_held}
use Rattle.lan_commit.proofs.laws.first_manifests_meet_no_name.Goals as goal

pub returns : goal.returns
returns c = first_not_held
