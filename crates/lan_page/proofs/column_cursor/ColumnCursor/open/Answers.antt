use Rattle.std.proofs.Common.{subst}
use Rattle.std.proofs.lemmas.Result.{err_from_is_err_and}
use Rattle.lan_model.specs.Leaves.{plain_leaf}
use Rattle.lan_store.specs.Objects.{object}
use Rattle.lan_page.specs.Asking.{IsIndexOf}
use Rattle.lan_page.specs.ColumnCursors.{PlainCursor, cursor_name, cursor_leaf, cursor_pages, RefusesColumn}
use Rattle.lan_page.proofs.CursorLemmas.{page_refuses, index_refuses}
use Rattle.lan_page.proofs.PageRows.{contains_at}
use Rattle.lan_page.proofs.column_cursor.ColumnCursor.open.Goals as goal

pub returns-in_err-fetch_index-clause-reason : goal.returns-in_err-fetch_index-clause-reason
returns-in_err-fetch_index-clause-reason g c = λ all told.
    let p = err_from_is_err_and c.from_residual.result c.from_residual.ensures.1 in
    let i = c.self.inside in
    let page = c.at-page.result.now in
    let held = object all i.name in
    let fault = c.in_err-fetch_index.field-0.0 in
    let why = index_refuses {A = Unit {0}} (λ _. IsIndexOf page held c.fetch_index.new.into) (plain_leaf i.leaf) page held fault (c.in_err-fetch_index.ensures.answer all told) in
    rw (p.1, p.2) (subst (λ (r : PlainCursor). RefusesColumn (cursor_leaf r) (cursor_pages r) (object all (cursor_name r)) fault) c.self.view_is (page_refuses (plain_leaf i.leaf) i.pages page held fault (contains_at i.pages i.page page c.at-page.ensures) why))
