use Rattle.std.proofs.Common.{◌≡◌, ◌+◌, ◌≤◌, drop}
use Rattle.lan_levels.specs.SlotsOf.{lists_in}
use Rattle.lan_meta.proofs.rules.lists.Given as goal

abbrev pub invariant-loop-layer : goal.invariant-loop-layer
invariant-loop-layer l = (l.count + lists_in (drop l.layer-index l.layers) ≡ lists_in l.layers) × (l.count ≤ l.layer-index)
