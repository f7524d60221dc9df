use Rattle.std.proofs.Common.{◌≡◌}
use Rattle.lan_levels.specs.Values.{offset, NoneFalls}
use Rattle.lan_values.proofs.variable.check_offsets.Given as goal

abbrev pub invariant-loop-i : goal.invariant-loop-i
invariant-loop-i l = record { last : l.last ≡ offset l.bytes l.i; rises : NoneFalls l.bytes l.i }
