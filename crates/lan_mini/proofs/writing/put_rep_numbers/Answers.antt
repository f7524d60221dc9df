use Rattle.std.proofs.Common.{◌∙◌, ◌+◌, ◌++◌, ℕ, ap, arith}
use Rattle.lan_bytes.specs.Numbers.{low_first}
use Rattle.lan_levels.specs.PlainSlots.{plain_slot}
use Rattle.lan_levels.specs.MiniWritten.{rep_bytes}
use Rattle.lan_mini.specs.Building.{range}
use Rattle.lan_mini.proofs.Grown.{grown_more, rep_more}
use Rattle.lan_mini.proofs.writing.put_rep_numbers.Goals as goal

pub loop-i-preserved : goal.loop-i-preserved
loop-i-preserved c =
    let s = plain_slot c.slot-slot.result in
    let xs = c.args.slots.now in
    let from = c.args.from in
    let i = c.loop-i.i in
    grown_more c.args.out.now c.loop-i.out c.num.new.self (rep_bytes (range xs from i)) (low_first 2 s.rep) (rep_bytes (range xs from (i + 1))) c.loop-i.invariant (c.in_ok-num.ensures.ok ∙ ap (λ (k : ℕ). c.loop-i.out ++ low_first 2 k) c.from.ensures)
    (rep_more xs from i s (omega arith) c.slot-slot.ensures)
