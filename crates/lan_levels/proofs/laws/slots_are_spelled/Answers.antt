use Rattle.lan_levels.proofs.ZipSpelling.{slots_spelled}
use Rattle.lan_levels.proofs.laws.slots_are_spelled.Goals as goal

pub returns : goal.returns
returns c = slots_spelled
