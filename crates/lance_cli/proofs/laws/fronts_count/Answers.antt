use Rattle.lance_cli.proofs.OneCount.{one_count}
use Rattle.lance_cli.proofs.laws.fronts_count.Goals as goal

pub returns : goal.returns
returns c = one_count
