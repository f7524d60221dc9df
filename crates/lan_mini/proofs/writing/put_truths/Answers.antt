use Rattle.std.proofs.Common.{◌∙◌, ◌++◌, [], ◌∷◌, List, Bool, map, ap, sym, arith}
use Rattle.std.proofs.lemmas.List.{map-append}
use Rattle.lan_levels.specs.PlainSlots.{plain_slot}
use Rattle.lan_levels.specs.MiniWritten.{carried, truth}
use Rattle.lan_mini.specs.Form.{plain_form}
use Rattle.lan_mini.specs.Building.{range}
use Rattle.lan_mini.proofs.Grown.{carried_more}
use Rattle.lan_mini.proofs.writing.put_truths.Goals as goal

pub loop-i-preserved : goal.loop-i-preserved
loop-i-preserved c =
    let f = plain_form c.args.form.now in
    let s = plain_slot c.slot.result in
    let xs = c.args.slots.now in
    let from = c.args.from in
    let i = c.loop-i.i in
    c.in_ok-push_truth.ensures
    ∙ ap (λ (ts : List Bool). ts ++ map truth (carried f (s ∷ []))) c.loop-i.invariant
    ∙ sym (ap (map truth) (carried_more f xs from i s (omega arith) c.slot.ensures) ∙ map-append truth (carried f (range xs from i)) (carried f (s ∷ [])))
