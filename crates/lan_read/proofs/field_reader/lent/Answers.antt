use Rattle.std.proofs.Common.{◌≡◌, ◌∙◌, ◌+◌, ◌<◌, ◌∷◌, ◌++◌, [], List, ap, arith, get_or, length, subst, sym, take}
use Rattle.std.proofs.lemmas.List.{take_more}
use Rattle.lan_levels.specs.declared.slot.SlotRun.{SlotRun}
use Rattle.lan_page.specs.ColumnCursors.{PlainCursor}
use Rattle.lan_read.specs.Joining.{AreLent}
use Rattle.lan_read.proofs.ReadValues.{lent_more}
use Rattle.lan_read.proofs.field_reader.lent.Goals as goal

pub loop-cursor-preserved : goal.loop-cursor-preserved
loop-cursor-preserved c =
    let cursors = c.args.cursors.now in
    let i = c.loop-cursor.cursor-index in
    let item = c.cursor-item.result in
    let run = c.in_ok-row_run.field-0 in
    let below : i < length cursors = omega (arith, ap length c.as_slice-cursor-items.ensures) in
    let is : item ≡ get_or cursors i item = c.cursor-item.is ∙ ap (λ (l : List PlainCursor). get_or l i item) c.as_slice-cursor-items.ensures in
    let more : take (i + 1) cursors ≡ take i cursors ++ item ∷ [] = take_more cursors i item below ∙ ap (λ (x : PlainCursor). take i cursors ++ x ∷ []) (sym is) in
    let step : AreLent (take i cursors ++ item ∷ []) (c.loop-cursor.runs ++ run ∷ []) =
    lent_more (take i cursors) c.loop-cursor.runs item run c.loop-cursor.invariant (record { leaf = c.in_ok-row_run.ensures.leaf; slots = c.in_ok-row_run.ensures.slots })
    in
    subst (λ (l : List PlainCursor). AreLent l c.push.new.self) (sym more) (subst (λ (r : List SlotRun). AreLent (take i cursors ++ item ∷ []) r) (sym c.in_ok-push.ensures.ok) step)
