use Rattle.std.proofs.Common.{◌+◌, ◌-◌, ◌≤◌, length}
use Rattle.lan_store.proofs.Told.{ReadSoFar}
use Rattle.lan_store.proofs.copying.read_all.Given as goal

abbrev pub invariant-reading : goal.invariant-reading
invariant-reading g l = record {
  read : ReadSoFar (g.I.Source.left l.initial.input) (g.I.Source.left l.input) l.bytes.items;
  later : g.I.Source.faults l.initial.input ≤ g.I.Source.faults l.input;
}

abbrev pub decreases-reading : goal.decreases-reading
decreases-reading g l = (l.most + 1) - length l.bytes.items
