use Rattle.std.proofs.Common.{◌≡◌, ◌++◌, List, length, map}
use Rattle.std.specs.Prelude.{All}
use Rattle.std.specs.List.{AllZip}
use Rattle.std.specs.Vec.Iter.{into_iter_items, into_iter_len}
use Rattle.lan_page.specs.ColumnCursors.{PlainCursor, cursor_pages}
use Rattle.lan_file.specs.HeadSteps.{pages_of}
use Rattle.lan_file.specs.Heads.{KeepPicks, picks_of}
use Rattle.lan_read.specs.Dealt.{IsFirst}
use Rattle.lan_read.specs.Grouped.{IsLow}
use Rattle.lan_read.proofs.opened.cursors_of.Given as goal

abbrev pub invariant-loop-pick : goal.invariant-loop-pick
invariant-loop-pick l = record {
  picks_left : into_iter_len l.pick-iterator ≡ length (into_iter_items l.pick-iterator);
  columns_left : into_iter_len l.columns ≡ length (into_iter_items l.columns);
  layers : All IsLow (picks_of (into_iter_items l.pick-iterator));
  keeps : KeepPicks l.fn.head.rows (picks_of (into_iter_items l.pick-iterator)) (pages_of (into_iter_items l.columns));
  first : (later : List PlainCursor) → AllZip (IsFirst l.name l.fn.head.rows) (picks_of (into_iter_items l.pick-iterator)) later → AllZip (IsFirst l.name l.fn.head.rows) (picks_of (into_iter_items l.initial.pick-iterator)) (l.cursors ++ later);
  pages : map cursor_pages l.cursors ++ pages_of (into_iter_items l.columns) ≡ pages_of (into_iter_items l.initial.columns);
}
