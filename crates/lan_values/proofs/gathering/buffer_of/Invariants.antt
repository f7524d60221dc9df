use Rattle.std.proofs.Common.{◌≡◌, ◌+◌, ◌*◌, ◌++◌, drop, length, sum}
use Rattle.lan_levels.specs.BuiltValues.{four_bytes, ends_bytes}
use Rattle.lan_values.proofs.gathering.buffer_of.Given as goal

abbrev pub invariant-loop-length : goal.invariant-loop-length
invariant-loop-length l = record {
  room : l.end + sum (drop l.length-index l.lengths) ≡ 4 * (length l.lengths + 1) + length l.bytes;
  spelled : l.all ++ ends_bytes l.end (drop l.length-index l.lengths) ≡ four_bytes (4 * (length l.lengths + 1)) ++ ends_bytes (4 * (length l.lengths + 1)) l.lengths;
}
