use Rattle.std.proofs.Common.{◌≤◌, length}
use Rattle.lan_schema.specs.Building.{siblings}
use Rattle.lan_schema.proofs.Gathering.{Gathers}
use Rattle.lan_schema.proofs.Walking.{after}
use Rattle.lan_schema.proofs.building.build.Given as goal

abbrev pub invariant-loop-i : goal.invariant-loop-i
invariant-loop-i l = record {
  within : l.i ≤ length l.nodes;
  gathers : Gathers (after l.i l.nodes) (siblings l.built);
}

abbrev pub decreases-loop-i : goal.decreases-loop-i
decreases-loop-i l = l.i
