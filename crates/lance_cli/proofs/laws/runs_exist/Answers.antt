use Rattle.lance_cli.proofs.Exists.{has_run}
use Rattle.lance_cli.proofs.laws.runs_exist.Goals as goal

pub returns : goal.returns
returns c = λ words input objects asked is sound stands. has_run words input objects asked is sound stands
