use Rattle.std.proofs.Common.{◌≡◌, ◌+◌, ◌-◌, ◌^◌, ◌≤◌}
use Rattle.lan_levels.specs.Chunks.{small_chunks}
use Rattle.lan_levels.specs.MiniWritten.{chunk_size}
use Rattle.lan_mini.specs.Form.{plain_form}
use Rattle.lan_mini.specs.Building.{IsTotal, range}
use Rattle.lan_mini.proofs.cutting.Front.greatest.Given as goal

abbrev pub invariant-loop-log : goal.invariant-loop-log
invariant-loop-log l = record {
  small : l.log ≤ 12;
  power : l.count ≡ 2 ^ l.log;
  few : l.count ≤ 4096;
  within : l.count ≤ l.to - l.from;
  total : IsTotal (plain_form l.form) (range l.slots l.from (l.from + l.count)) l.total;
  fits : chunk_size small_chunks (plain_form l.form) (range l.slots l.from (l.from + l.count)) ≤ 32768;
}

abbrev pub decreases-loop-log : goal.decreases-loop-log
decreases-loop-log l = 12 - l.log
