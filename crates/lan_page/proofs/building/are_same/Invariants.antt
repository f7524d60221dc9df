use Rattle.std.proofs.Common.{◌≡◌, ◌-◌, take, drop, true}
use Rattle.std.specs.List.{list_all}
use Rattle.lan_levels.specs.PagesWritten.{same_slot}
use Rattle.lan_levels.specs.PlainSlots.{plain_slot}
use Rattle.lan_page.proofs.building.are_same.Given as goal

abbrev pub invariant-loop-i : goal.invariant-loop-i
invariant-loop-i l = list_all (same_slot (plain_slot l.first)) (take (l.i - l.from) (drop l.from l.slots)) ≡ true
