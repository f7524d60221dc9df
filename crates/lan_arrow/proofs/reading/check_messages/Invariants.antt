use Rattle.lan_arrow.specs.Batches.{AllTablesStand}
use Rattle.lan_arrow.specs.Deletions.{footer_of}
use Rattle.lan_arrow.proofs.reading.check_messages.Given as goal

abbrev pub invariant-loop-i : goal.invariant-loop-i
invariant-loop-i l = AllTablesStand l.file.bytes (footer_of l.file.bytes) l.i
