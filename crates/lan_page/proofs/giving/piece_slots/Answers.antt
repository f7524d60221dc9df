use Rattle.std.proofs.Common.{rules, ◌≡◌, ◌∙◌, ◌++◌, [], List, sym, ap, append-nil}
use Rattle.lan_model.specs.Leaves.{plain_leaf}
use Rattle.lan_levels.specs.PlainSlots.{PlainSlot}
use Rattle.lan_page.specs.Walks.{walk_slots}
use Rattle.lan_page.proofs.SlotLemmas.{given_rows, refused_rows, grew_by}
use Rattle.lan_page.proofs.giving.piece_slots.Goals as goal

pub returns-in_err-walk-clause-slots : goal.returns-in_err-walk-clause-slots
returns-in_err-walk-clause-slots c =
    let p = c.args.piece.now in
    refused_rows (plain_leaf c.args.leaf.now) c.args.page.now p.row p.past c.saturating_sub-rows.result p.cut c.args.bytes.now _ _ _ c.requires.page c.saturating_sub-rows.ensures c.in_err-walk.ensures.none

pub returns-clause-slots : goal.returns-clause-slots
returns-clause-slots c =
    let p = c.args.piece.now in
    let none : walk_slots c.loop-slot.walk ≡ [] = search rules in
    let new = c.loop-slot.into in
    given_rows (plain_leaf c.args.leaf.now) c.args.page.now p.row p.past c.saturating_sub-rows.result p.cut c.args.bytes.now _ new _ c.requires.page c.saturating_sub-rows.ensures c.in_ok-walk.ensures.ok
    (sym (append-nil new) ∙ ap (λ (xs : List PlainSlot). new ++ xs) (sym none) ∙ c.loop-slot.invariant)

pub returns-clause-rows : goal.returns-clause-rows
returns-clause-rows c =
    let none : walk_slots c.loop-slot.walk ≡ [] = search rules in
    let new = c.loop-slot.into in
    grew_by (plain_leaf c.args.leaf.now) c.args.page.now c.saturating_sub-rows.result _ c.args.bytes.now _ new _ c.requires.page c.saturating_sub-rows.ensures c.in_ok-walk.ensures.ok
    (sym (append-nil new) ∙ ap (λ (xs : List PlainSlot). new ++ xs) (sym none) ∙ c.loop-slot.invariant)
