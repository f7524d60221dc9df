use Rattle.lan_index.proofs.PastLemmas.{covers_least}
use Rattle.lan_index.proofs.laws.covers_are_least.Goals as goal

pub returns : goal.returns
returns c = covers_least
