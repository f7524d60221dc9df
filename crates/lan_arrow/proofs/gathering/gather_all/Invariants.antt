use Rattle.std.proofs.Common.{◌≡◌, ◌-◌, ◌++◌}
use Rattle.lan_arrow.specs.Seen.{HasJust}
use Rattle.lan_arrow.specs.Batches.{rows_after}
use Rattle.lan_arrow.specs.Deletions.{AreRows, all_rows, blocks_in, footer_of}
use Rattle.lan_arrow.proofs.gathering.gather_all.Given as goal

abbrev pub invariant-loop-i : goal.invariant-loop-i
invariant-loop-i l = record {
  whole : l.rows.items ++ rows_after l.file.bytes (footer_of l.file.bytes) l.i (blocks_in l.file.bytes - l.i)
      ≡ all_rows l.file.bytes;
  seen : HasJust l.seen l.rows.items;
  right : AreRows l.physical l.rows.items;
}
