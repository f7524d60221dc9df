use Rattle.lan_index.proofs.RunLemmas.{runs_rise}
use Rattle.lan_index.proofs.laws.indexed_runs_rise.Goals as goal

pub returns : goal.returns
returns c = runs_rise
