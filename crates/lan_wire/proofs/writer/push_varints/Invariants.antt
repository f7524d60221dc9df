use Rattle.std.proofs.Common.{◌≡◌, ◌++◌, length, take}
use Rattle.std.specs.Prelude.{flat_map}
use Rattle.lan_wire.specs.Spelling.{varint}
use Rattle.lan_wire.proofs.writer.push_varints.Given as goal

abbrev pub invariant-loop-value : goal.invariant-loop-value
invariant-loop-value l = record {
  spelled : l.bytes.items ≡ l.initial.bytes.items ++ flat_map varint (take l.value-index l.values);
  front : take (length l.initial.bytes.items) l.bytes.items ≡ l.initial.bytes.items;
}
