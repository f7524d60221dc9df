use Rattle.std.proofs.Common.{◌≡◌, ◌++◌}
use Rattle.lan_levels.specs.BuiltValues.{bool_bytes}
use Rattle.lan_values.proofs.bools.put_bytes.Given as goal

abbrev pub invariant-loop-i : goal.invariant-loop-i
invariant-loop-i l = l.out ≡ l.initial.out ++ bool_bytes l.i l.values
