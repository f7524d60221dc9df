use Rattle.std.proofs.Common.{◌∙◌, ap, subst, sym, take, List, ℕ, ◌++◌, cond, []}
use Rattle.lan_bytes.specs.Numbers.{low_first}
use Rattle.lan_levels.specs.PlainSlots.{PlainSlot, plain_slot}
use Rattle.lan_levels.proofs.Ranges.{holds_at, take_next}
use Rattle.lan_zip.specs.Form.{plain_form}
use Rattle.lan_levels.specs.ZipWritten.{begins, CanStand, Gathered}
use Rattle.lan_zip.proofs.Gathering.{gathered_more}
use Rattle.lan_zip.proofs.page.gather.Goals as goal

pub put_slot-requires-clause-slot : goal.put_slot-requires-clause-slot
put_slot-requires-clause-slot c = holds_at (CanStand (plain_form c.args.form.now)) c.args.slots.now c.loop-i.i (plain_slot c.slot-slot.result) c.slot-slot.ensures c.requires.slots

pub loop-i-preserved : goal.loop-i-preserved
loop-i-preserved c =
    let f = plain_form c.args.form.now in
    let s = plain_slot c.slot-slot.result in
    let more = take_next c.args.slots.now c.loop-i.i s c.slot-slot.ensures in
    let begun = c.in_ok-put_start.ensures ∙ ap (λ (k : ℕ). c.loop-i.starts ++ cond (begins f.lists s) (low_first 8 k) []) c.len.ensures in
    subst (λ (ss : List PlainSlot). Gathered f ss c.put_slot.new.out c.put_start.new.starts) (sym more)
    (gathered_more f (take c.loop-i.i c.args.slots.now) s c.loop-i.content c.loop-i.starts c.put_slot.new.out c.put_start.new.starts c.loop-i.invariant begun c.in_ok-put_slot.ensures)
