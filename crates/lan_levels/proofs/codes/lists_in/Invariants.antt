use Rattle.std.proofs.Common.{◌≡◌, ◌+◌, ◌≤◌, drop}
use Rattle.lan_levels.specs.SlotsOf.{lists_in}
use Rattle.lan_levels.proofs.codes.lists_in.Given as goal

abbrev pub invariant-loop-layer : goal.invariant-loop-layer
invariant-loop-layer l = record { all : l.count + lists_in (drop l.layer-index l.layers) ≡ lists_in l.layers; few : l.count ≤ l.layer-index }
