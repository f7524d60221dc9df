use Rattle.std.proofs.Common.{◌∙◌, sym}
use Rattle.lan_levels.proofs.Growth.{lists_in-reverse}
use Rattle.lan_levels.proofs.shredding.item_rep.Goals as goal

pub returns : goal.returns
returns c = c.lists_in.ensures.value ∙ sym (lists_in-reverse c.args.layers.now)
