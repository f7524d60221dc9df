use Rattle.std.proofs.Common.{◌≡◌, ◌+◌, length, drop, map}
use Rattle.std.specs.Prelude.{flat_map}
use Rattle.lan_wire.specs.Spelling.{varint, two_complement}
use Rattle.lan_wire.proofs.writer.signed_packed_len.Given as goal

abbrev pub invariant-loop-value : goal.invariant-loop-value
invariant-loop-value l = l.len + length (flat_map varint (map two_complement (drop l.value-index l.values))) ≡ length (flat_map varint (map two_complement l.values))
