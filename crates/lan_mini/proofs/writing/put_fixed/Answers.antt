use Rattle.std.proofs.Common.{◌∙◌, ◌+◌, [], ◌∷◌, ap, arith}
use Rattle.std.specs.Prelude.{flat_map}
use Rattle.std.proofs.lemmas.Grind.{flat_map-append}
use Rattle.lan_levels.specs.PlainSlots.{plain_slot}
use Rattle.lan_levels.specs.MiniWritten.{carried, fixed_bytes}
use Rattle.lan_mini.specs.Form.{plain_form}
use Rattle.lan_mini.specs.Building.{range}
use Rattle.lan_mini.proofs.Grown.{grown_more, carried_more}
use Rattle.lan_mini.proofs.writing.put_fixed.Goals as goal

pub loop-i-preserved : goal.loop-i-preserved
loop-i-preserved c =
    let f = plain_form c.args.form.now in
    let s = plain_slot c.slot.result in
    let xs = c.args.slots.now in
    let from = c.args.from in
    let i = c.loop-i.i in
    let all = flat_map (fixed_bytes c.args.width) in
    grown_more c.args.out.now c.loop-i.out c.put_fixed_value.new.out (all (carried f (range xs from i))) (all (carried f (s ∷ []))) (all (carried f (range xs from (i + 1)))) c.loop-i.invariant c.in_ok-put_fixed_value.ensures
    (ap all (carried_more f xs from i s (omega arith) c.slot.ensures) ∙ flat_map-append (fixed_bytes c.args.width) (carried f (range xs from i)) (carried f (s ∷ [])))
