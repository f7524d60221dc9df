use Rattle.std.proofs.Common.{take}
use Rattle.lan_read.specs.Joining.{AreLent}
use Rattle.lan_read.proofs.field_reader.lent.Given as goal

abbrev pub invariant-loop-cursor : goal.invariant-loop-cursor
invariant-loop-cursor l = AreLent (take l.cursor-index l.cursors) l.runs
