use Rattle.std.proofs.Common.{map, take}
use Rattle.std.specs.Prelude.{All, ◌≢◌}
use Rattle.lan_read.proofs.ReadValues.{run_id}
use Rattle.lan_read.proofs.field_reader.place_of.Given as goal

abbrev pub invariant-loop-i : goal.invariant-loop-i
invariant-loop-i l = All (λ n. n ≢ l.id) (take l.i (map run_id l.runs))
