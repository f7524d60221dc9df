use Rattle.std.proofs.Common.{◌≡◌, ◌++◌, length}
use Rattle.lan_levels.specs.PlainSlots.{plain_slots}
use Rattle.lan_page.specs.Walks.{walk_slots}
use Rattle.lan_page.proofs.giving.row_slots.Given as goal

abbrev pub invariant-loop-slot : goal.invariant-loop-slot
invariant-loop-slot l = record {
  all : plain_slots l.into.slots ++ walk_slots l.walk ≡ plain_slots l.initial.into.slots ++ walk_slots l.initial.walk;
  leaf : l.into.leaf ≡ l.initial.into.leaf;
}

abbrev pub decreases-loop-slot : goal.decreases-loop-slot
decreases-loop-slot l = length (walk_slots l.walk)
