use Rattle.std.proofs.Common.{◌≡◌, ◌+◌, ◌*◌, ◌-◌, ◌++◌}
use Rattle.lan_arrow.specs.Seen.{HasJust}
use Rattle.lan_arrow.specs.Batches.{numbers}
use Rattle.lan_arrow.specs.Deletions.{AreRows}
use Rattle.lan_arrow.proofs.gathering.gather.Given as goal

abbrev pub invariant-loop-i : goal.invariant-loop-i
invariant-loop-i l = record {
  whole : l.rows.items ++ numbers l.file.bytes (l.batch.from + 4 * l.i) (l.batch.count - l.i)
      ≡ l.fn.rows.items ++ numbers l.file.bytes l.batch.from l.batch.count;
  seen : HasJust l.seen l.rows.items;
  right : AreRows l.physical l.rows.items;
}
