use Rattle.std.proofs.Common.{◌≡◌, ◌++◌, length}
use Rattle.lan_page.specs.Walks.{walk_slots}
use Rattle.lan_page.proofs.giving.piece_slots.Given as goal

abbrev pub invariant-loop-slot : goal.invariant-loop-slot
invariant-loop-slot l = l.into ++ walk_slots l.walk ≡ l.initial.into ++ walk_slots l.initial.walk

abbrev pub decreases-loop-slot : goal.decreases-loop-slot
decreases-loop-slot l = length (walk_slots l.walk)
