use Rattle.std.proofs.Common.{length}
use Rattle.lan_wire.proofs.Nested.{Walked}
use Rattle.lan_schema.specs.FieldMessage.{SaysField}
use Rattle.lan_schema.proofs.listing.read_nodes.Given as goal

abbrev pub invariant-loop-part : goal.invariant-loop-part
invariant-loop-part l = Walked SaysField l.initial.parts l.parts l.nodes

abbrev pub decreases-loop-part : goal.decreases-loop-part
decreases-loop-part l = length l.parts
