use Rattle.lan_commit.proofs.NumberedFields.{numbered_stored}
use Rattle.lan_commit.proofs.laws.numbered_fields_can_be_stored.Goals as goal

pub returns : goal.returns
returns c = numbered_stored
