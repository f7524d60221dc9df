use Rattle.std.proofs.Common.{◌≡◌, ◌+◌, ◌≤◌, drop}
use Rattle.lan_levels.specs.ZipSlots.{starts}
use Rattle.lan_levels.proofs.buffer.SlotPart.row_starts.Given as goal

abbrev pub invariant-loop-i : goal.invariant-loop-i
invariant-loop-i l = record { all : l.count + starts l.lists (drop l.i l.self) ≡ starts l.lists l.self; few : l.count ≤ l.i }
