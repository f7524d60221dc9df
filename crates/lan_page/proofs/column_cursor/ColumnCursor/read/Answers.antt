use Rattle.std.proofs.Common.{◌≡◌, ◌∙◌, ℕ, ◌-◌, true, List, Option, Some, is_some, slice_get, refl, ap, sym, subst}
use Rattle.std.specs.Prelude.{IfSome}
use Rattle.std.proofs.lemmas.Result.{err_from_is_err_and}
use Rattle.lan_model.specs.Leaves.{plain_leaf}
use Rattle.lan_store.specs.Objects.{object}
use Rattle.lan_store.specs.declared.name.Name.{Name}
use Rattle.lan_page.specs.Asking.{IsIndexOf}
use Rattle.lan_page.specs.ColumnCursors.{PlainCursor, cursor_name, cursor_leaf, cursor_pages, Knows, RefusesColumn}
use Rattle.lan_page.proofs.CursorLemmas.{page_refuses, knows_read}
use Rattle.lan_page.proofs.PageRows.{contains_at}
use Rattle.lan_levels.specs.Past.{past}
use Rattle.lan_levels.specs.PlainSlots.{PlainSlot}
use Rattle.lan_store.specs.Budget.{Asks}
use Rattle.lan_meta.specs.declared.page.PageMeta.{PageMeta}
use Rattle.lan_page.specs.Asking.{piece_budget}
use Rattle.lan_page.specs.ColumnBudgets.{still_due, due_behind}
use Rattle.lan_page.specs.Held.{held_run, HoldsPage}
use Rattle.lan_page.proofs.DueLemmas.{same_page, due_same}
use Rattle.lan_page.proofs.column_cursor.ColumnCursor.read.Goals as goal

pub returns-in_err-rows-clause-reason : goal.returns-in_err-rows-clause-reason
returns-in_err-rows-clause-reason g c = λ all told.
    let p = err_from_is_err_and c.from_residual.result c.from_residual.ensures.1 in
    let i = c.self.inside in
    let page = c.at-page.result.now in
    let held = object all i.name in
    let fault = c.in_err-rows.field-0.0 in
    let known = subst (λ (r : PlainCursor). Knows r (object all (cursor_name r))) (sym c.self.view_is) (c.requires.knows all told) in
    let own = subst (λ (o : Option (List ℕ)). IfSome o (IsIndexOf page held)) c.in-Some.is (known.index page c.at-page.ensures) in
    let why = c.in_err-rows.ensures.answer all told (c.as_slice-index.ensures ∙ own) in
    rw (p.1, p.2) (subst (λ (r : PlainCursor). RefusesColumn (cursor_leaf r) (cursor_pages r) (object all (cursor_name r)) fault) c.self.view_is (page_refuses (plain_leaf i.leaf) i.pages page held fault (contains_at i.pages i.page page c.at-page.ensures) why))

pub returns-clause-knows : goal.returns-clause-knows
returns-clause-knows g c = λ all told.
    let i = c.self.inside in
    let page = c.at-page.result.now in
    let held = object all i.name in
    let v : PlainCursor = record { name = i.name; leaf = i.leaf; pages = i.pages; page = i.page; first = i.first; index = i.index; rows = i.rows } in
    let known = subst (λ (r : PlainCursor). Knows r (object all (cursor_name r))) (sym c.self.view_is) (c.requires.knows all told) in
    let own = subst (λ (o : Option (List ℕ)). IfSome o (IsIndexOf page held)) c.in-Some.is (known.index page c.at-page.ensures) in
    subst (λ (n : Name). Knows (record v { rows = Some c.in_ok-rows.rows }) (object all n)) (ap (λ (r : PlainCursor). r.name) c.self.view_is)
    (knows_read v held page c.in_ok-rows.rows c.at-page.ensures known (c.in_ok-rows.ensures.answer all told (c.as_slice-index.ensures ∙ own)))

pub returns-in_err-rows-clause-asks : goal.returns-in_err-rows-clause-asks
returns-in_err-rows-clause-asks g c = λ all told.
    let i = c.self.inside in
    let page = c.at-page.result.now in
    let held = object all i.name in
    let known = subst (λ (r : PlainCursor). Knows r (object all (cursor_name r))) (sym c.self.view_is) (c.requires.knows all told) in
    let own = subst (λ (o : Option (List ℕ)). IfSome o (IsIndexOf page held)) c.in-Some.is (known.index page c.at-page.ensures) in
    let s = g.S.Store.tells c.args.store.now in
    let t = g.S.Store.tells c.fetch_rows.new.store in
    subst (λ (r : PlainCursor). (p : PageMeta) → slice_get r.pages r.page ≡ Some p → (xs : List PlainSlot) → HoldsPage (cursor_leaf r) p (object all (cursor_name r)) xs → Asks (piece_budget (cursor_leaf r) p (object all (cursor_name r)) (c.args.row - r.first)) s t) c.self.view_is
    (λ p e slots h.
    subst (λ (q : PageMeta). (xs : List PlainSlot) → HoldsPage (plain_leaf i.leaf) q held xs → Asks (piece_budget (plain_leaf i.leaf) q held (c.args.row - i.first)) s t) (same_page i.pages i.page page p c.at-page.ensures e)
    (c.fetch_rows.ensures.asks all told (c.as_slice-index.ensures ∙ own)) slots h)

pub returns-clause-asks : goal.returns-clause-asks
returns-clause-asks g c = λ all told.
    let i = c.self.inside in
    let page = c.at-page.result.now in
    let held = object all i.name in
    let known = subst (λ (r : PlainCursor). Knows r (object all (cursor_name r))) (sym c.self.view_is) (c.requires.knows all told) in
    let own = subst (λ (o : Option (List ℕ)). IfSome o (IsIndexOf page held)) c.in-Some.is (known.index page c.at-page.ensures) in
    let s = g.S.Store.tells c.args.store.now in
    let t = g.S.Store.tells c.fetch_rows.new.store in
    subst (λ (r : PlainCursor). (p : PageMeta) → slice_get r.pages r.page ≡ Some p → (xs : List PlainSlot) → HoldsPage (cursor_leaf r) p (object all (cursor_name r)) xs → Asks (piece_budget (cursor_leaf r) p (object all (cursor_name r)) (c.args.row - r.first)) s t) c.self.view_is
    (λ p e slots h.
    subst (λ (q : PageMeta). (xs : List PlainSlot) → HoldsPage (plain_leaf i.leaf) q held xs → Asks (piece_budget (plain_leaf i.leaf) q held (c.args.row - i.first)) s t) (same_page i.pages i.page page p c.at-page.ensures e)
    (c.fetch_rows.ensures.asks all told (c.as_slice-index.ensures ∙ own)) slots h)

pub returns-clause-due : goal.returns-clause-due
returns-clause-due g c = λ all told.
    let i = c.self.inside in
    let page = c.at-page.result.now in
    let held = object all i.name in
    let v : PlainCursor = record { name = i.name; leaf = i.leaf; pages = i.pages; page = i.page; first = i.first; index = i.index; rows = i.rows } in
    let n : PlainCursor = record v { rows = Some c.in_ok-rows.rows } in
    let known = subst (λ (r : PlainCursor). Knows r (object all (cursor_name r))) (sym c.self.view_is) (c.requires.knows all told) in
    let own = subst (λ (o : Option (List ℕ)). IfSome o (IsIndexOf page held)) c.in-Some.is (known.index page c.at-page.ensures) in
    let is_open : is_some i.index ≡ true = ap (λ (o : Option (List ℕ)). is_some o) c.in-Some.is in
    subst (λ (r : PlainCursor). (p : PageMeta) → slice_get r.pages r.page ≡ Some p → (later : List ℕ) (xs : List PlainSlot) → HoldsPage (cursor_leaf r) p (object all (cursor_name r)) xs
    → still_due n (object all (cursor_name r)) later ≡ due_behind r p (object all (cursor_name r)) c.args.row later) c.self.view_is
    (λ p e later slots h.
    let same = same_page i.pages i.page page p c.at-page.ensures e in
    let are = c.in_ok-rows.ensures.answer all told (c.as_slice-index.ensures ∙ own) slots (subst (λ (q : PageMeta). HoldsPage (plain_leaf i.leaf) q held slots) (sym same) h) in
    let end = are.past_is ∙ ap (past (held_run (plain_leaf i.leaf) page held) page.rows) c.in_ok-rows.ensures.rows.from ∙ ap (λ (q : PageMeta). past (held_run (plain_leaf i.leaf) q held) q.rows (c.args.row - i.first)) same in
    due_same n held later i.leaf i.pages i.page i.first true (past (held_run (plain_leaf i.leaf) p held) p.rows (c.args.row - i.first)) refl refl refl refl is_open end)
