use Rattle.std.proofs.Common.{◌++◌}
use Rattle.lance_cli.proofs.Fronts.{steps_agree, links_of}
use Rattle.lance_cli.proofs.laws.steps_agree.Goals as goal

pub returns : goal.returns
returns c = λ mode old d told before behind agrees chain. steps_agree old d before behind agrees (links_of mode old d told (before ++ behind) chain)
