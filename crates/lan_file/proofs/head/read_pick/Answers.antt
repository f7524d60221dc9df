use Rattle.std.proofs.Common.{rules, subst}
use Rattle.lan_bytes.specs.Placed.{Placed}
use Rattle.lan_model.specs.Leaves.{plain_leaf}
use Rattle.lan_meta.specs.Columns.{RefusesColumn}
use Rattle.lan_file.specs.declared.tail.Footer.{Footer}
use Rattle.lan_file.specs.Heads.{pick_of, placed, column_at}
use Rattle.lan_file.proofs.KeptPicks.{pick_keeps}
use Rattle.lan_file.proofs.Picked.{pick_refused}
use Rattle.lan_file.proofs.head.read_pick.Goals as goal

pub returns-in-Err-clause-answer : goal.returns-in-Err-clause-answer
returns-in-Err-clause-answer c = λ bytes is.
    let pick = c.args.pick.now in
    let leaf = plain_leaf pick.leaf in
    let P : Placed → Type 0 = λ view. RefusesColumn view leaf c.args.tables.now.footer.columns_at c.in-Err.fault in
    let Q : Footer → Type 0 = λ f. RefusesColumn (placed bytes (column_at bytes pick.column)) leaf f.columns_at c.in-Err.fault in
    rw c.meta_fault.ensures (pick_refused bytes c.args.rows (pick_of pick) c.in-Err.fault (subst Q is.footer (subst P (c.column_view-view.ensures bytes is) c.in-Err.ensures.fault)))

pub returns-clause-keeps : goal.returns-clause-keeps
returns-clause-keeps c = pick_keeps c.args.tables.now c.column_view-view.result c.args.rows (pick_of c.args.pick.now) c.in-Ok.column.pages c.requires.tables c.in-Ok.ensures.ok (search rules)
