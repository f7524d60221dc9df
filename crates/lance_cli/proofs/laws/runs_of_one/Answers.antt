use Rattle.lance_cli.proofs.OneRan.{ran_alone}
use Rattle.lance_cli.proofs.laws.runs_of_one.Goals as goal

pub returns : goal.returns
returns c = λ e asked now held holds result is ran. ran_alone e asked now held holds result is ran
