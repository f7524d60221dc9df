use Rattle.std.proofs.Common.{arith}
use Rattle.lan_page.proofs.RowPlaces.{row_behind, begins_here, begins_later, none_behind}
use Rattle.lan_page.proofs.piece_rows.row_end.Goals as goal

pub returns-then-slot-lists : goal.returns-then-slot-lists
returns-then-slot-lists c = λ row at.
    let behind = row_behind c.args.lists row c.args.at c.args.slots.now at c.requires in
    let here = begins_here c.args.lists c.loop-i.i c.args.slots.now _ c.slot.ensures c.if-slot-lists.true in
    let kept = c.loop-i.invariant in
    omega arith

pub loop-i-preserved : goal.loop-i-preserved
loop-i-preserved c =
    let later = begins_later c.args.lists c.loop-i.i c.args.slots.now _ c.slot.ensures c.if-slot-lists.false in
    let kept = c.loop-i.invariant in
    omega arith

pub returns : goal.returns
returns c = λ row at.
    let behind = row_behind c.args.lists row c.args.at c.args.slots.now at c.requires in
    let none = none_behind c.args.lists c.loop-i.i c.args.slots.now (omega arith) in
    let kept = c.loop-i.invariant in
    omega arith
