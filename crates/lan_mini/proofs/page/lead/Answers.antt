use Rattle.std.proofs.Common.{◌≡◌, ◌+◌, ◌==◌, List, false, length, ap, arith, ne_eqb}
use Rattle.lan_levels.specs.PlainSlots.{PlainSlot, plain_slot}
use Rattle.lan_levels.specs.ZipRows.{slots_before}
use Rattle.lan_mini.specs.Building.{range}
use Rattle.lan_mini.proofs.Ranges.{first_range}
use Rattle.lan_mini.proofs.Entries.{before_here, before_later}
use Rattle.lan_mini.proofs.page.lead.Goals as goal

pub returns-then-slot-lists : goal.returns-then-slot-lists
returns-then-slot-lists c =
    let xs = c.args.slots.now in
    let i = c.loop-i.i in
    let s = plain_slot c.slot-slot.result in
    let first = ap (λ (ys : List PlainSlot). length (slots_before c.args.lists 0 ys)) (first_range xs i c.args.to s (omega arith) c.slot-slot.ensures) in
    let here = before_here c.args.lists s (range xs (i + 1) c.args.to) c.if-slot-lists.true in
    let before = c.loop-i.invariant in
    omega arith

pub loop-i-preserved : goal.loop-i-preserved
loop-i-preserved c =
    let xs = c.args.slots.now in
    let i = c.loop-i.i in
    let s = plain_slot c.slot-slot.result in
    let first = ap (λ (ys : List PlainSlot). length (slots_before c.args.lists 0 ys)) (first_range xs i c.args.to s (omega arith) c.slot-slot.ensures) in
    let other : (s.rep == c.args.lists) ≡ false = ne_eqb s.rep c.args.lists c.if-slot-lists.false in
    let later = before_later c.args.lists s (range xs (i + 1) c.args.to) other in
    let before = c.loop-i.invariant in
    omega arith
