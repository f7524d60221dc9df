use Rattle.std.proofs.Common.{◌≡◌, ◌+◌, length}
use Rattle.lan_wire.specs.Spelling.{varint}
use Rattle.lan_wire.proofs.writer.varint_len.Given as goal

abbrev pub invariant-loop-rest : goal.invariant-loop-rest
invariant-loop-rest l = l.len + length (varint l.rest) ≡ length (varint l.value) + 1

abbrev pub decreases-loop-rest : goal.decreases-loop-rest
decreases-loop-rest l = l.rest
