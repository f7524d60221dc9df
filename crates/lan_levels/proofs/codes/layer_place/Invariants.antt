use Rattle.lan_levels.proofs.StateNumbers.{Searched}
use Rattle.lan_levels.proofs.codes.layer_place.Given as goal

abbrev pub invariant-loop-k : goal.invariant-loop-k
invariant-loop-k l = Searched l.codes l.state l.k l.count
