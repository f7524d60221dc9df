use Rattle.std.proofs.Common.{◌≡◌, ◌++◌, length, take, drop, map}
use Rattle.std.specs.Prelude.{flat_map}
use Rattle.lan_wire.specs.Spelling.{varint, two_complement}
use Rattle.lan_wire.proofs.writer.push_signed_varints.Given as goal

abbrev pub invariant-loop-value : goal.invariant-loop-value
invariant-loop-value l = record {
  spelled : l.bytes.items ++ flat_map varint (map two_complement (drop l.value-index l.values)) ≡ l.initial.bytes.items ++ flat_map varint (map two_complement l.values);
  front : take (length l.initial.bytes.items) l.bytes.items ≡ l.initial.bytes.items;
}
