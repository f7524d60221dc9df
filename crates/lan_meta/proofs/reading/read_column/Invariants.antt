use Rattle.std.proofs.Common.{length}
use Rattle.lan_model.specs.Leaves.{plain_leaf}
use Rattle.lan_wire.proofs.Nested.{Walked}
use Rattle.lan_meta.specs.Columns.{StandsForPage}
use Rattle.lan_meta.proofs.reading.read_column.Given as goal

abbrev pub invariant-loop-part : goal.invariant-loop-part
invariant-loop-part l = Walked (StandsForPage (plain_leaf l.leaf) l.end) l.initial.parts l.parts l.pages

abbrev pub decreases-loop-part : goal.decreases-loop-part
decreases-loop-part l = length l.parts
