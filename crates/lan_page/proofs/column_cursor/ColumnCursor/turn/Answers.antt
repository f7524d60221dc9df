use Rattle.std.proofs.Common.{◌<◌, ◌≤◌, ◌∷◌, None, is_some, refl, sym, subst, arith}
use Rattle.lan_model.specs.Leaves.{plain_leaf}
use Rattle.lan_store.specs.Budget.{nothing, plus, IsWithin}
use Rattle.lan_page.specs.ColumnBudgets.{still_due}
use Rattle.lan_page.specs.ColumnCursors.{PlainCursor, reach, row_past}
use Rattle.lan_page.proofs.DueLemmas.{due_let, due_turned, free, lies_same}
use Rattle.lan_page.proofs.column_cursor.ColumnCursor.turn.Goals as goal

pub returns-then-to-self-clause-due : goal.returns-then-to-self-clause-due
returns-then-to-self-clause-due c = λ held later.
    let i = c.self.inside in
    let v : PlainCursor = record { name = i.name; leaf = i.leaf; pages = i.pages; page = i.page; first = i.first; index = i.index; rows = i.rows } in
    let n : PlainCursor = record v { rows = None } in
    let to = c.page_of-to.result in
    let lies = lies_same i.pages to.page i.page to.first i.first c.args.row c.page_of-to.ensures.lies c.if-to-self.true c.self.invariant.first_is in
    let behind = subst (λ (r : PlainCursor). reach r ≤ c.args.row) (sym c.self.view_is) c.requires.behind in
    subst (λ (r : PlainCursor). IsWithin (plus nothing (still_due n held (c.args.row ∷ later))) (still_due r held (c.args.row ∷ later))) c.self.view_is
    (due_let v n held c.args.row later (record { name = refl; leaf = refl; pages = refl }) refl refl refl refl lies behind)

pub returns-clause-due : goal.returns-clause-due
returns-clause-due c = λ held later.
    let i = c.self.inside in
    let v : PlainCursor = record { name = i.name; leaf = i.leaf; pages = i.pages; page = i.page; first = i.first; index = i.index; rows = i.rows } in
    let to = c.page_of-to.result in
    let n : PlainCursor = record { name = i.name; leaf = i.leaf; pages = i.pages; page = to.page; first = to.first; index = None; rows = None } in
    let ahead = c.page_of-to.ensures.ahead in
    let other = c.if-to-self.false in
    let less : i.page < to.page = omega arith in
    subst (λ (r : PlainCursor). IsWithin (plus nothing (still_due n held (c.args.row ∷ later))) (still_due r held (c.args.row ∷ later))) c.self.view_is
    (free (still_due n held (c.args.row ∷ later)) (still_due v held (c.args.row ∷ later))
    (due_turned (plain_leaf i.leaf) held i.pages i.page to.page i.first to.first (is_some i.index) (row_past i.rows) (c.args.row ∷ later) less c.self.invariant.first_is c.page_of-to.ensures.lies.first_is))
