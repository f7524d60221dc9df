use Rattle.std.proofs.Common.{◌≡◌, ◌+◌, ◌-◌, ◌≤◌}
use Rattle.lan_levels.specs.ZipSlots.{starts}
use Rattle.lan_mini.specs.Building.{range}
use Rattle.lan_mini.proofs.page.row_starts.Given as goal

abbrev pub invariant-loop-i : goal.invariant-loop-i
invariant-loop-i l = record { all : l.count + starts l.lists (range l.slots l.i l.to) ≡ starts l.lists (range l.slots l.from l.to); few : l.count ≤ l.i - l.from }
