use Rattle.lan_page.proofs.Refutes.{reasons_refute}
use Rattle.lan_page.proofs.laws.reasons_refute.Goals as goal

pub returns : goal.returns
returns c = reasons_refute
