use Rattle.std.proofs.Common.{◌≡◌, ◌∙◌, List, ap, arith, length, subst}
use Rattle.std.specs.List.{AllZip}
use Rattle.std.specs.Vec.Iter.{into_iter_items}
use Rattle.lan_page.specs.ColumnCursors.{cursor_pages}
use Rattle.lan_file.specs.HeadSteps.{pages_of}
use Rattle.lan_file.specs.Heads.{picks_of}
use Rattle.lan_file.specs.declared.head.ColumnPick.{ColumnPick}
use Rattle.lan_read.specs.Dealt.{IsFirst}
use Rattle.lan_read.proofs.FileCursors.{cursors_all, cursors_more, is_first, keeps_parts, low_head, low_tail, pages_more}
use Rattle.lan_read.proofs.opened.cursors_of.Goals as goal

pub new-requires-clause-few : goal.new-requires-clause-few
new-requires-clause-few c = low_head (into_iter_items c.loop-pick.pick-iterator) (into_iter_items c.next.new.self) c.in-Some.pick c.in-Some.ensures.steps.0 c.loop-pick.invariant.layers

pub loop-pick-preserved : goal.loop-pick-preserved
loop-pick-preserved c =
    let l = c.loop-pick in
    let rows = c.args.head.rows in
    let picks : List ColumnPick = into_iter_items l.pick-iterator in
    let rest : List ColumnPick = into_iter_items c.next.new.self in
    let columns = into_iter_items l.columns in
    let more = into_iter_items c.next-in-loop-pick.new.self in
    let pick = c.in-Some.pick in
    let column = c.in-Some-next.column in
    let at = c.in-Some.ensures.steps.0 in
    let there = c.in-Some-next.ensures.items in
    let kept = keeps_parts rows picks rest pick columns more column at there l.invariant.keeps in
    let first = is_first c.args.name.now c.in_ok-name.name rows pick column.pages c.new.result c.in_ok-name.ensures c.new.ensures.cursor kept.0 in
    record {
      picks_left = omega (arith, l.invariant.picks_left, c.in-Some.ensures.steps.1, ap (length {A = ColumnPick}) at);
      columns_left = omega (arith, l.invariant.columns_left, c.in-Some-next.ensures.len, ap length there);
      layers = low_tail picks rest pick at l.invariant.layers;
      keeps = kept.1;
      first = cursors_more (IsFirst c.args.name.now rows) (picks_of (into_iter_items c.into_iter-pick-iterator.result)) picks rest pick l.cursors c.push.new.self c.new.result at c.in_ok-push.ensures.ok first l.invariant.first;
      pages = pages_more (pages_of (into_iter_items c.into_iter-columns.result)) columns more column l.cursors c.push.new.self c.new.result there c.in_ok-push.ensures.ok (ap cursor_pages c.new.ensures.cursor) l.invariant.pages;
    }

pub returns-clause-first : goal.returns-clause-first
returns-clause-first c =
    let l = c.loop-pick in
    let picks : List ColumnPick = into_iter_items l.pick-iterator in
    let R = IsFirst c.args.name.now c.args.head.rows in
    let is : into_iter_items c.into_iter-pick-iterator.result ≡ c.args.picks = c.into_iter-pick-iterator.ensures.into_iter_gives.0 ∙ c.into_vec-pick-items.ensures in
    subst (λ (ps : List ColumnPick). AllZip R (picks_of ps) l.cursors) is
    (cursors_all R (picks_of (into_iter_items c.into_iter-pick-iterator.result)) picks l.cursors (omega (arith, l.invariant.picks_left, c.in-None.ensures.steps.0)) l.invariant.first)
