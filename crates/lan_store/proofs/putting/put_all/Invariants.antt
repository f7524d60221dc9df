use Rattle.std.proofs.Common.{◌≡◌, ◌≤◌, take}
use Rattle.std.specs.Prelude.{None}
use Rattle.lan_store.specs.Budget.{nothing, Asks}
use Rattle.lan_store.specs.Looked.{Fails}
use Rattle.lan_store.specs.Objects.{and_then}
use Rattle.lan_store.proofs.putting.put_all.Given as goal

abbrev pub invariant-loop-i : goal.invariant-loop-i
invariant-loop-i g l = record {
  puts : (g.S.Store.tells l.store).objects ≡ and_then (g.S.Store.tells l.initial.store).objects (take l.i l.objects);
  fails : Fails None (g.S.Store.tells l.initial.store) (g.S.Store.tells l.store);
  asks : Asks nothing (g.S.Store.tells l.initial.store) (g.S.Store.tells l.store);
  clashes : (g.S.Store.tells l.initial.store).clashes ≤ (g.S.Store.tells l.store).clashes;
}
