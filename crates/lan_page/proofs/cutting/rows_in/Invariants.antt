use Rattle.std.proofs.Common.{◌≡◌, ◌-◌, ◌≤◌, take, drop}
use Rattle.lan_levels.specs.ZipSlots.{starts}
use Rattle.lan_page.proofs.cutting.rows_in.Given as goal

abbrev pub invariant-loop-i : goal.invariant-loop-i
invariant-loop-i l = record {
  count : l.count ≡ starts l.lists (take (l.i - l.from) (drop l.from l.slots));
  few : l.count ≤ l.i;
}
