use Rattle.lan_arrow.specs.Batches.{AreBatches}
use Rattle.lan_arrow.specs.Deletions.{footer_of}
use Rattle.lan_arrow.proofs.reading.check_batches.Given as goal

abbrev pub invariant-loop-i : goal.invariant-loop-i
invariant-loop-i l = AreBatches l.file.bytes (footer_of l.file.bytes) l.i
