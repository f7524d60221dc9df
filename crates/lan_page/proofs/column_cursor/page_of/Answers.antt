use Rattle.std.proofs.Common.{◌==◌, ◌+◌, ◌-◌, ◌∙◌, Bool, false, cond, drop, sym, ap, arith}
use Rattle.lan_page.specs.ColumnCursors.{most_of}
use Rattle.lan_page.proofs.CursorLemmas.{most_next, unknown_at}
use Rattle.lan_page.proofs.PageRows.{rows_to}
use Rattle.lan_page.proofs.column_cursor.page_of.Goals as goal

pub loop-page-preserved : goal.loop-page-preserved
loop-page-preserved c =
    let i = c.loop-page.invariant in
    let behind = i.behind in
    let over = c.if-row-first.false in
    let first = i.first_is in
    let count = rows_to c.args.pages.now c.loop-page.page c.at.result.now c.at.ensures in
    record {
      within = omega arith;
      ahead = let a = i.ahead in omega arith;
      first_is = omega arith;
      behind = omega arith;
      most = λ known.
          let before = i.ahead in
          i.most known
          ∙ most_next c.args.pages.now c.loop-page.page c.loop-page.first c.args.row (cond (c.args.from.page == c.loop-page.page) known false) c.at.result.now c.at.ensures behind over
          ∙ ap (λ (b : Bool). most_of b (drop (c.loop-page.page + 1) c.args.pages.now) (c.args.row - (c.loop-page.first + c.at.result.now.rows))) (sym (unknown_at known c.args.from.page (c.loop-page.page + 1) (λ e. omega arith)));
    }
