use Rattle.std.proofs.Common.{rules, refl, arith, ◌≡◌, ◌∙◌, ◌++◌, [], List, sym, ap, append-nil}
use Rattle.lan_model.specs.Leaves.{plain_leaf}
use Rattle.lan_levels.specs.PlainSlots.{PlainSlot, plain_slots}
use Rattle.lan_page.specs.Walks.{walk_slots}
use Rattle.lan_page.proofs.SlotLemmas.{given_rows, refused_rows, grew_by}
use Rattle.lan_page.proofs.giving.row_slots.Goals as goal

pub returns-in_err-walk-clause-slots : goal.returns-in_err-walk-clause-slots
returns-in_err-walk-clause-slots c = λ row. refused_rows (plain_leaf c.args.leaf.now) c.args.page.now row _ 1 c.args.cut.now c.args.bytes.now _ _ _ c.requires.page (omega arith) c.in_err-walk.ensures.none

pub returns-clause-slots : goal.returns-clause-slots
returns-clause-slots c = λ row.
    let none : walk_slots c.loop-slot.walk ≡ [] = search rules in
    let new = plain_slots c.loop-slot.into.slots in
    given_rows (plain_leaf c.args.leaf.now) c.args.page.now row _ 1 c.args.cut.now c.args.bytes.now _ new _ c.requires.page (omega arith) c.in_ok-walk.ensures.ok (sym (append-nil new) ∙ ap (λ (xs : List PlainSlot). new ++ xs) (sym none) ∙ c.loop-slot.invariant.all)

pub returns-clause-rows : goal.returns-clause-rows
returns-clause-rows c =
    let none : walk_slots c.loop-slot.walk ≡ [] = search rules in
    let new = plain_slots c.loop-slot.into.slots in
    grew_by (plain_leaf c.args.leaf.now) c.args.page.now 1 1 c.args.bytes.now _ new _ c.requires.page refl c.in_ok-walk.ensures.ok (sym (append-nil new) ∙ ap (λ (xs : List PlainSlot). new ++ xs) (sym none) ∙ c.loop-slot.invariant.all)
