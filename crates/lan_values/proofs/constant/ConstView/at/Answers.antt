use Rattle.lan_levels.specs.PlainSlots.{plain_piece}
use Rattle.lan_values.proofs.Each.{got}
use Rattle.lan_values.proofs.constant.ConstView.at.Goals as goal

pub returns : goal.returns
returns c = let v = c.self.inside in got (λ _. plain_piece v.value) v.count c.args.i c.args.self.now c.self.view_is c.requires
