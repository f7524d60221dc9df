use Rattle.std.proofs.Common.{◌≡◌, ◌-◌, ◌^◌, ◌<◌, ◌≤◌, length}
use Rattle.lan_wire.specs.Reading.{above, varint_in, varint_at}
use Rattle.lan_wire.proofs.reading.varint_at.Given as goal

abbrev pub invariant-loop : goal.invariant-loop
invariant-loop l = record {
  unit : l.unit ≡ 128 ^ l.counter;
  low : l.low < l.unit;
  shorter : length l.rest ≤ length l.bytes;
  read : varint_at l.bytes ≡ above l.low l.unit (varint_in (9 - l.counter) l.rest);
}
