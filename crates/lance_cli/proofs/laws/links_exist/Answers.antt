use Rattle.lance_cli.proofs.Exists.{has_link}
use Rattle.lance_cli.proofs.laws.links_exist.Goals as goal

pub returns : goal.returns
returns c = λ objects d r agrees sound tables. has_link objects d r.asked r.line r.lines agrees sound tables
