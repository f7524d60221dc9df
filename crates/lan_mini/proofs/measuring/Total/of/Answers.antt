use Rattle.std.proofs.Common.{[], ◌∷◌, List, sym, subst, arith}
use Rattle.lan_levels.specs.PlainSlots.{PlainSlot, plain_slot}
use Rattle.lan_mini.specs.Form.{plain_form}
use Rattle.lan_mini.specs.Building.{CanChunk, IsTotal, range}
use Rattle.lan_mini.proofs.Ranges.{all_at, range_more}
use Rattle.lan_mini.proofs.Totals.{total_and}
use Rattle.lan_mini.proofs.measuring.Total.of.Goals as goal

pub of_slot-requires : goal.of_slot-requires
of_slot-requires c = all_at (CanChunk (plain_form c.args.form.now)) c.args.slots.now c.args.from c.args.to c.loop-i.i (plain_slot c.slot.result) (omega arith) (omega arith) c.requires.end c.slot.ensures c.requires.slots

pub loop-i-preserved : goal.loop-i-preserved
loop-i-preserved c =
    let f = plain_form c.args.form.now in
    let s = plain_slot c.slot.result in
    let xs = range c.args.slots.now c.args.from c.loop-i.i in
    let more = range_more c.args.slots.now c.args.from c.loop-i.i s (omega arith) c.slot.ensures in
    subst (λ (ys : List PlainSlot). IsTotal f ys c.and-total.result) (sym more) (total_and f xs (s ∷ []) c.loop-i.total c.of_slot.result c.and-total.result c.loop-i.invariant c.of_slot.ensures c.and-total.ensures.values c.and-total.ensures.bytes)
