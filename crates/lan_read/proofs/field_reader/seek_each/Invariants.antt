use Rattle.std.proofs.Common.{◌≡◌, ◌∷◌, ℕ, List, length, take, drop}
use Rattle.std.specs.Prelude.{All, None}
use Rattle.std.specs.Option.{ForSome}
use Rattle.lan_page.specs.ColumnCursors.{IsAt}
use Rattle.lan_store.specs.Budget.{Spends}
use Rattle.lan_store.specs.Looked.{Looked}
use Rattle.lan_read.specs.FieldReaders.{HoldsIn, columns_read, cursors_due, cursors_most}
use Rattle.lan_read.specs.Joining.{KnowsIn}
use Rattle.lan_read.proofs.ValuesDue.{due_between}
use Rattle.lan_read.proofs.field_reader.seek_each.Given as goal

abbrev pub invariant-loop-i : goal.invariant-loop-i
invariant-loop-i g l = record {
  long : length l.cursors ≡ length l.initial.cursors;
  rest : drop l.i l.cursors ≡ drop l.i l.initial.cursors;
  same : columns_read l.cursors ≡ columns_read l.initial.cursors;
  at : All (λ c. IsAt c l.row) (take l.i l.cursors);
  knows : ForSome (g.S.Store.tells l.store).objects (λ all. All (KnowsIn all) l.cursors);
  spends : ForSome (g.S.Store.tells l.initial.store).objects (λ all. (later : List ℕ) → All (HoldsIn all) l.initial.cursors → Spends (cursors_due all l.initial.cursors (l.row ∷ later)) (due_between all l.initial.cursors l.cursors l.i l.row later) (g.S.Store.tells l.initial.store) (g.S.Store.tells l.store));
  looked : Looked None (cursors_most (take l.i l.initial.cursors) l.row) (g.S.Store.tells l.initial.store) (g.S.Store.tells l.store);
}
