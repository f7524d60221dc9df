use Rattle.std.proofs.Common.{◌≡◌, ℕ, List, Option, subst}
use Rattle.std.specs.Prelude.{IfOk}
use Rattle.std.proofs.lemmas.Result.{IfOk-weaker}
use Rattle.lan_levels.specs.declared.slot.SlotRun.{SlotRun}
use Rattle.lan_levels.specs.PlainSlots.{plain_slots}
use Rattle.lan_page.specs.ColumnCursors.{PlainCursor, cursor_leaf, cursor_pages, next_row, Knows}
use Rattle.lan_page.specs.Columns.{AreSlotsOfRow}
use Rattle.lan_page.specs.PieceRows.{slots_at_hand}
use Rattle.lan_page.proofs.CursorLemmas.{run_is_lent}
use Rattle.lan_page.proofs.column_cursor.ColumnCursor.row_run.Goals as goal

pub returns-clause-slots : goal.returns-clause-slots
returns-clause-slots c =
    let i = c.self.inside in
    let v : PlainCursor = record { name = i.name; leaf = i.leaf; pages = i.pages; page = i.page; first = i.first; index = i.index; rows = i.rows } in
    let r = c.in-Some.rows in
    let order = c.run.ensures.rows in
    subst (λ (x : PlainCursor). IfOk c.run.result (λ run. (held : Option (List ℕ)) → Knows x held → AreSlotsOfRow (cursor_leaf x) (cursor_pages x) held (next_row x) (plain_slots run.slots))) c.self.view_is
    (IfOk-weaker c.run.result (λ (run : SlotRun). plain_slots run.slots ≡ slots_at_hand r) (λ (run : SlotRun). (held : Option (List ℕ)) → Knows v held → AreSlotsOfRow (cursor_leaf v) (cursor_pages v) held (next_row v) (plain_slots run.slots))
    (λ run same held known. run_is_lent v r (plain_slots run.slots) held c.self.invariant c.in-Some.is order.0 order.1 same known) c.run.ensures.slots)
