use Rattle.std.proofs.Common.{arith}
use Rattle.lan_levels.specs.PlainSlots.{plain_slot}
use Rattle.lan_mini.specs.Form.{plain_form}
use Rattle.lan_mini.specs.Building.{CanChunk}
use Rattle.lan_mini.proofs.Ranges.{all_at}
use Rattle.lan_mini.proofs.Grown.{numbered_more}
use Rattle.lan_mini.proofs.writing.put_def_numbers.Goals as goal

pub number-requires-clause-numbered : goal.number-requires-clause-numbered
number-requires-clause-numbered c =
    let can = all_at (CanChunk (plain_form c.args.form.now)) c.args.slots.now c.args.from c.args.to c.loop-i.i (plain_slot c.slot-slot.result) (omega arith) (omega arith) c.requires.end c.slot-slot.ensures c.requires.slots in
    (can.number, can.numbered)

pub loop-i-preserved : goal.loop-i-preserved
loop-i-preserved c =
    numbered_more (plain_form c.args.form.now) c.args.slots.now c.args.from c.loop-i.i (plain_slot c.slot-slot.result) c.number.result c.from.result c.args.out.now c.loop-i.out c.num.new.self (omega arith) c.slot-slot.ensures c.number.ensures c.from.ensures c.loop-i.invariant c.in_ok-num.ensures.ok
