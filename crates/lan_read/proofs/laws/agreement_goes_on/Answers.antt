use Rattle.lan_read.proofs.ChangedTables.{agreement_stays}
use Rattle.lan_read.proofs.laws.agreement_goes_on.Goals as goal

pub returns : goal.returns
returns c = agreement_stays
