use Rattle.std.proofs.Common.{ap, arith}
use Rattle.lan_levels.specs.PlainSlots.{plain_slot}
use Rattle.lan_levels.specs.ZipSlots.{starts}
use Rattle.lan_levels.proofs.Ranges.{drop_here}
use Rattle.lan_levels.proofs.buffer.SlotPart.row_starts.Goals as goal

pub loop-i-preserved : goal.loop-i-preserved
loop-i-preserved c =
    let first = ap (starts c.args.lists) (drop_here c.args.self.now c.loop-i.i (plain_slot c.slot.result) c.slot.ensures) in
    let before = c.loop-i.invariant.all in
    let few = c.loop-i.invariant.few in
    record { all = omega (arith, c.row_start-count.ensures.value); few = omega (arith, c.row_start-count.ensures.few) }
