use Rattle.std.proofs.Common.{◌≡◌, ◌*◌, ◌++◌, length, map, take, drop}
use Rattle.std.specs.Prelude.{All, None}
use Rattle.std.specs.Option.{ForSome}
use Rattle.std.specs.Vec.Iter.{into_iter_items, into_iter_len}
use Rattle.lan_store.specs.Budget.{Spends, ranges}
use Rattle.lan_store.specs.Looked.{Looked}
use Rattle.lan_file.specs.Heads.{picks_of}
use Rattle.lan_read.specs.Dealt.{AreColumns, AreFirst, files_due}
use Rattle.lan_read.specs.Grouped.{IsLow}
use Rattle.lan_read.proofs.opened.open_files.Given as goal

abbrev pub invariant-loop-picks : goal.invariant-loop-picks
invariant-loop-picks g l = record {
  first : AreFirst l.rows (take (length l.opened) l.files) (map picks_of l.yielded) l.opened;
  columns : ForSome (g.S.Store.tells l.initial.store).objects (λ all. AreColumns all l.rows (take (length l.opened) l.files) (map picks_of l.yielded) l.opened);
  looked : Looked None (ranges (3 * length l.opened)) (g.S.Store.tells l.initial.store) (g.S.Store.tells l.store);
  spends : ForSome (g.S.Store.tells l.initial.store).objects (λ all. Spends (files_due all l.files (map picks_of (into_iter_items l.initial.picks-iterator))) (files_due all (drop (length l.opened) l.files) (map picks_of (into_iter_items l.picks-iterator))) (g.S.Store.tells l.initial.store) (g.S.Store.tells l.store));
  layers : All (All IsLow) (map picks_of (into_iter_items l.picks-iterator));
  long : length l.opened ≡ length l.yielded;
  same : length (into_iter_items l.initial.picks-iterator) ≡ length l.files;
  all : l.yielded ++ into_iter_items l.picks-iterator ≡ into_iter_items l.initial.picks-iterator;
  left : into_iter_len l.picks-iterator ≡ length (into_iter_items l.picks-iterator);
}
