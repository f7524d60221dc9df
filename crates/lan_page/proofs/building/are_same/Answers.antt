use Rattle.std.proofs.Common.{sym, ◌∙◌, arith}
use Rattle.lan_levels.specs.PagesWritten.{same_slot}
use Rattle.lan_levels.specs.PlainSlots.{plain_slot}
use Rattle.lan_page.proofs.PageCuts.{all_more, all_stops}
use Rattle.lan_page.proofs.building.are_same.Goals as goal

pub returns-then-not-same_slot : goal.returns-then-not-same_slot
returns-then-not-same_slot c =
    sym (all_stops (same_slot (plain_slot c.args.first)) c.args.slots.now c.args.from c.args.to c.loop-i.i (plain_slot c.slot.result) (omega arith) (omega arith) c.requires.end c.slot.ensures (sym c.same_slot.ensures ∙ c.if-not-same_slot.true))

pub loop-i-preserved : goal.loop-i-preserved
loop-i-preserved c =
    all_more (same_slot (plain_slot c.args.first)) c.args.slots.now c.args.from c.loop-i.i (plain_slot c.slot.result) (omega arith) c.slot.ensures c.loop-i.invariant (sym c.same_slot.ensures ∙ c.if-not-same_slot.false)
