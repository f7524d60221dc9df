use Rattle.lance_cli.proofs.Fronts.{fronts, links_of}
use Rattle.lance_cli.proofs.laws.fronts_stand.Goals as goal

pub returns : goal.returns
returns c = λ mode old d told links k agrees chain within. fronts old d links k agrees (links_of mode old d told links chain) within
