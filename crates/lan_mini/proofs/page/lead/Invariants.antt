use Rattle.std.proofs.Common.{◌≡◌, ◌+◌, ◌-◌, length}
use Rattle.lan_levels.specs.ZipRows.{slots_before}
use Rattle.lan_mini.specs.Building.{range}
use Rattle.lan_mini.proofs.page.lead.Given as goal

abbrev pub invariant-loop-i : goal.invariant-loop-i
invariant-loop-i l = l.i - l.from + length (slots_before l.lists 0 (range l.slots l.i l.to)) ≡ length (slots_before l.lists 0 (range l.slots l.from l.to))
