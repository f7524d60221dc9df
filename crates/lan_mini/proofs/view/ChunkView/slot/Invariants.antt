use Rattle.std.proofs.Common.{◌≡◌, drop}
use Rattle.lan_mini.proofs.view.ChunkView.slot.Given as goal

abbrev pub invariant-loop-k : goal.invariant-loop-k
invariant-loop-k l = l.walk ≡ drop l.k l.self
