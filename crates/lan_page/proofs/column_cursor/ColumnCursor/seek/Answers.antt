use Rattle.std.proofs.Common.{◌≡◌, ◌+◌, ◌-◌, ◌<◌, ◌∙◌, ◌∷◌, List, Some, cond, is_some, slice_get, ap, ap₂, sym, subst}
use Rattle.std.proofs.lemmas.Result.{err_from_is_err_and}
use Rattle.lan_store.specs.Budget.{nothing}
use Rattle.lan_store.specs.Looked.{Looked}
use Rattle.lan_store.specs.Objects.{object}
use Rattle.lan_store.specs.declared.name.Name.{Name}
use Rattle.lan_meta.specs.declared.page.PageMeta.{PageMeta}
use Rattle.lan_page.specs.Asking.{fault_failure, page_failure, index_budget, content_budget, first_len}
use Rattle.lan_page.specs.ColumnCursors.{cursor_name, reach, seek_most, Knows}
use Rattle.lan_page.proofs.CursorLemmas.{some_page, not_reached, seek_most_is, more_within, refuses_same, reads_then}
use Rattle.lan_model.specs.declared.tree.Leaf.{Leaf}
use Rattle.lan_model.specs.Leaves.{plain_leaf}
use Rattle.lan_store.specs.Budget.{plus, Spends, unless_refused}
use Rattle.lan_store.proofs.LawTerms.{spends_step, spends_then}
use Rattle.lan_page.specs.Asking.{piece_budget}
use Rattle.lan_page.specs.ColumnBudgets.{still_due, due_behind}
use Rattle.lan_page.specs.ColumnCursors.{cursor_leaf}
use Rattle.lan_page.specs.Held.{HoldsPage}
use Rattle.lan_page.proofs.DueLemmas.{due_advanced, due_opened, due_read, index_within, free_then, lies_at, holds_at, spends_read}
use Rattle.lan_page.proofs.GivenIndex.{asks_none}
use Rattle.lan_page.proofs.column_cursor.ColumnCursor.seek.Goals as goal

pub returns-then-has-clause-knows : goal.returns-then-has-clause-knows
returns-then-has-clause-knows g c = λ all told. subst (λ (n : Name). Knows c.advance.new.self (object all n)) (sym c.advance.ensures.same.name) (c.advance.ensures.knows _ (c.requires.knows all told))

pub open-requires-clause-knows : goal.open-requires-clause-knows
open-requires-clause-knows g c = λ all told. subst (λ (n : Name). Knows c.turn.new.self (object all n)) (sym c.turn.ensures.same.name) (c.turn.ensures.knows _ (c.requires.knows all told))

pub returns-in_err-open-clause-looked : goal.returns-in_err-open-clause-looked
returns-in_err-open-clause-looked g c =
    let p = err_from_is_err_and c.from_residual.result c.from_residual.ensures.1 in
    let t = c.turn.new.self in
    let fault = c.in_err-open.field-0.0 in
    let page = some_page (slice_get t.pages t.page) (λ (p : PageMeta). c.args.row < t.first + p.rows) c.turn.ensures.lies.before in
    let asked = cond (is_some t.index) nothing (index_budget page.0) in
    let behind = not_reached c.has.result c.args.row (reach c.args.self.now) c.has.ensures.reached c.if-has.false in
    let most = seek_most_is c.args.self.now t c.args.row page.0 behind c.turn.ensures.most c.turn.ensures.lies page.1 in
    let within = more_within asked (content_budget page.0.buffers (first_len page.0.buffers)) (seek_most c.args.self.now c.args.row) most in
    rw (p.1, p.2)
    (c.looks_add_up.ensures.within _ asked (seek_most c.args.self.now c.args.row) _ _ within
    (subst (λ (n : Name). Looked (fault_failure n fault) asked (g.S.Store.tells c.args.store.now) (g.S.Store.tells c.open.new.store)) c.turn.ensures.same.name (c.in_err-open.ensures.looked page.0 page.1)))

pub returns-clause-looked : goal.returns-clause-looked
returns-clause-looked g c =
    let t = c.turn.new.self in
    let o = c.open.new.self in
    let page = some_page (slice_get t.pages t.page) (λ (p : PageMeta). c.args.row < t.first + p.rows) c.turn.ensures.lies.before in
    let index = cond (is_some t.index) nothing (index_budget page.0) in
    let content = content_budget page.0.buffers (first_len page.0.buffers) in
    let behind = not_reached c.has.result c.args.row (reach c.args.self.now) c.has.ensures.reached c.if-has.false in
    let most = seek_most_is c.args.self.now t c.args.row page.0 behind c.turn.ensures.most c.turn.ensures.lies page.1 in
    let still : slice_get o.pages o.page ≡ Some page.0 = ap₂ slice_get c.in_ok-open.ensures.same.pages c.in_ok-open.ensures.stays.page ∙ page.1 in
    let name = reads_then c.args.self.now t o c.turn.ensures.same c.in_ok-open.ensures.same in
    let read = subst (λ (n : Name). Looked (page_failure n c.read.result) content (g.S.Store.tells c.open.new.store) (g.S.Store.tells c.read.new.store)) name.name (c.read.ensures.looked page.0 still) in
    subst (λ b. Looked (page_failure (cursor_name c.args.self.now) c.read.result) b (g.S.Store.tells c.args.store.now) (g.S.Store.tells c.read.new.store)) (sym most)
    (c.looks_add_up.ensures.then _ index content _ _ _ (c.in_ok-open.ensures.looked page.0 page.1) read)

pub returns-clause-knows : goal.returns-clause-knows
returns-clause-knows g c = λ all told.
    let t = c.turn.new.self in
    let o = c.open.new.self in
    let page = some_page (slice_get t.pages t.page) (λ (p : PageMeta). c.args.row < t.first + p.rows) c.turn.ensures.lies.before in
    let still : slice_get o.pages o.page ≡ Some page.0 = ap₂ slice_get c.in_ok-open.ensures.same.pages c.in_ok-open.ensures.stays.page ∙ page.1 in
    let kept = c.read.ensures.looked page.0 still in
    subst (λ (n : Name). Knows c.read.new.self (object all n)) (sym c.read.ensures.same.name) (c.read.ensures.knows all (sym kept.kept ∙ told))

pub returns-clause-reason : goal.returns-clause-reason
returns-clause-reason g c = λ all told.
    let t = c.turn.new.self in
    let o = c.open.new.self in
    let page = some_page (slice_get t.pages t.page) (λ (p : PageMeta). c.args.row < t.first + p.rows) c.turn.ensures.lies.before in
    let kept = c.in_ok-open.ensures.looked page.0 page.1 in
    refuses_same {A = Unit {0}} c.read.result c.args.self.now o all (reads_then c.args.self.now t o c.turn.ensures.same c.in_ok-open.ensures.same) (c.read.ensures.reason all (kept.kept ∙ told))

pub returns-then-has-clause-spends : goal.returns-then-has-clause-spends
returns-then-has-clause-spends g c = λ all told slots later h.
    let held = object all (cursor_name c.args.self.now) in
    let s = g.S.Store.tells c.args.store.now in
    spends_step (still_due c.args.self.now held (c.args.row ∷ later)) (still_due c.advance.new.self held later) nothing s s (asks_none nothing s)
    (due_advanced c.args.self.now c.advance.new.self held c.args.row later c.advance.ensures.same c.advance.ensures.stays (c.has.ensures.lies c.if-has.true) (c.has.ensures.reached.0 c.if-has.true))

pub returns-in_err-open-clause-spends : goal.returns-in_err-open-clause-spends
returns-in_err-open-clause-spends g c = λ all told slots later h.
    let p = err_from_is_err_and c.from_residual.result c.from_residual.ensures.1 in
    let held = object all (cursor_name c.args.self.now) in
    let t = c.turn.new.self in
    let page = some_page (slice_get t.pages t.page) (λ (p : PageMeta). c.args.row < t.first + p.rows) c.turn.ensures.lies.before in
    let asked = cond (is_some t.index) nothing (index_budget page.0) in
    let within = free_then (plus asked nothing) (still_due t held (c.args.row ∷ later)) (still_due c.args.self.now held (c.args.row ∷ later)) (index_within t held c.args.row later page.0 c.turn.ensures.none page.1 c.turn.ensures.lies) (c.turn.ensures.due held later) in
    rw p.1
    (spends_step (still_due c.args.self.now held (c.args.row ∷ later)) nothing asked (g.S.Store.tells c.args.store.now) (g.S.Store.tells c.open.new.store) (c.in_err-open.ensures.looked page.0 page.1).asks within)

pub returns-clause-spends : goal.returns-clause-spends
returns-clause-spends g c = λ all told slots later h.
    let now = c.args.self.now in
    let t = c.turn.new.self in
    let o = c.open.new.self in
    let n = c.read.new.self in
    let s = g.S.Store.tells c.args.store.now in
    let u = g.S.Store.tells c.open.new.store in
    let v = g.S.Store.tells c.read.new.store in
    let held = object all (cursor_name now) in
    let own = object all (cursor_name o) in
    let page = some_page (slice_get t.pages t.page) (λ (p : PageMeta). c.args.row < t.first + p.rows) c.turn.ensures.lies.before in
    let asked = cond (is_some t.index) nothing (index_budget page.0) in
    let looked = c.in_ok-open.ensures.looked page.0 page.1 in
    let opened = due_opened t o held c.args.row later page.0 c.in_ok-open.ensures.same c.in_ok-open.ensures.stays c.in_ok-open.ensures.open c.turn.ensures.none page.1 c.turn.ensures.lies in
    let first = spends_step (still_due now held (c.args.row ∷ later)) (still_due o held (c.args.row ∷ later)) asked s u looked.asks
    (free_then (plus asked (still_due o held (c.args.row ∷ later))) (still_due t held (c.args.row ∷ later)) (still_due now held (c.args.row ∷ later)) opened (c.turn.ensures.due held later)) in
    let same = reads_then now t o c.turn.ensures.same c.in_ok-open.ensures.same in
    let still : slice_get o.pages o.page ≡ Some page.0 = ap₂ slice_get c.in_ok-open.ensures.same.pages c.in_ok-open.ensures.stays.page ∙ page.1 in
    let holds = holds_at (cursor_leaf now) now.pages held slots t.page page.0 h (ap (λ (ps : List PageMeta). slice_get ps t.page) (sym c.turn.ensures.same.pages) ∙ page.1) in
    let here = subst (λ (m : Name). HoldsPage (cursor_leaf o) page.0 (object all m) holds.0) (sym same.name) (subst (λ (l : Leaf). HoldsPage (plain_leaf l) page.0 held holds.0) (sym same.leaf) holds.1) in
    let lies = lies_at t o c.args.row c.in_ok-open.ensures.same c.in_ok-open.ensures.stays c.turn.ensures.lies in
    let kept = looked.kept ∙ told in
    let second = spends_read {A = Unit {0}} c.read.result (still_due o own (c.args.row ∷ later)) (piece_budget (cursor_leaf o) page.0 own (c.args.row - o.first)) (due_behind o page.0 own c.args.row later) (still_due n own later) u v
    (c.read.ensures.asks all kept page.0 still holds.0 here) (due_read o own c.args.row later page.0 c.in_ok-open.ensures.open c.in_ok-open.ensures.stays.rows still lies) (c.read.ensures.due all kept page.0 still later holds.0 here) in
    spends_then (still_due now held (c.args.row ∷ later)) (still_due o held (c.args.row ∷ later)) (unless_refused c.read.result (still_due n held later)) s u v first
    (subst (λ (m : Name). Spends (still_due o (object all m) (c.args.row ∷ later)) (unless_refused c.read.result (still_due n (object all m) later)) u v) same.name second)
