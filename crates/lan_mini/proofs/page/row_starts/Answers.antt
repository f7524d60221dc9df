use Rattle.std.proofs.Common.{ap, arith}
use Rattle.lan_levels.specs.PlainSlots.{plain_slot}
use Rattle.lan_levels.specs.ZipSlots.{starts}
use Rattle.lan_mini.proofs.Ranges.{first_range}
use Rattle.lan_mini.proofs.page.row_starts.Goals as goal

pub loop-i-preserved : goal.loop-i-preserved
loop-i-preserved c =
    let first = ap (starts c.args.lists) (first_range c.args.slots.now c.loop-i.i c.args.to (plain_slot c.slot.result) (omega arith) c.slot.ensures) in
    let before = c.loop-i.invariant.all in
    let few = c.loop-i.invariant.few in
    record { all = omega (arith, c.start_of-count.ensures.value); few = omega (arith, c.start_of-count.ensures.few) }
