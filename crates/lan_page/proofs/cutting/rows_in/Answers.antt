use Rattle.std.proofs.Common.{arith}
use Rattle.lan_levels.specs.PlainSlots.{plain_slot}
use Rattle.lan_page.proofs.PageCuts.{starts_more}
use Rattle.lan_page.proofs.cutting.rows_in.Goals as goal

pub loop-i-preserved : goal.loop-i-preserved
loop-i-preserved c =
    let more = starts_more c.args.lists c.args.slots.now c.args.from c.loop-i.i (plain_slot c.slot.result) (omega arith) c.slot.ensures in
    let before = c.loop-i.invariant.count in
    let few = c.loop-i.invariant.few in
    let one = c.start_of-count.ensures.few in
    let is = c.start_of-count.ensures.value in
    record { count = omega arith; few = omega arith }
