use Rattle.std.proofs.Common.{◌≡◌, false, rules}
use Rattle.lan_levels.specs.ChunkForm.{has_defs}
use Rattle.lan_mini.specs.Form.{plain_form}
use Rattle.lan_mini.specs.Building.{range}
use Rattle.lan_mini.proofs.Grown.{none_put}
use Rattle.lan_mini.proofs.writing.put_defs.Goals as goal

pub returns-then-not-has_defs : goal.returns-then-not-has_defs
returns-then-not-has_defs c =
    let f = plain_form c.args.form.now in
    let none : has_defs f ≡ false = search rules in
    none_put f (range c.args.slots.now c.args.from c.args.to) c.args.out.now c.requires.slots none
