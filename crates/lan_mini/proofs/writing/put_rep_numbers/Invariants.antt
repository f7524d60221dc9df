use Rattle.std.proofs.Common.{◌≡◌, ◌++◌}
use Rattle.lan_levels.specs.MiniWritten.{rep_bytes}
use Rattle.lan_mini.specs.Building.{range}
use Rattle.lan_mini.proofs.writing.put_rep_numbers.Given as goal

abbrev pub invariant-loop-i : goal.invariant-loop-i
invariant-loop-i l = l.out ≡ l.fn.out ++ rep_bytes (range l.slots l.from l.i)
