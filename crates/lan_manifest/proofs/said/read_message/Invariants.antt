use Rattle.std.proofs.Common.{length}
use Rattle.lan_wire.proofs.Nested.{Walked}
use Rattle.lan_manifest.specs.ManifestMessages.{SaysFragment}
use Rattle.lan_manifest.proofs.said.read_message.Given as goal

abbrev pub invariant-loop-part : goal.invariant-loop-part
invariant-loop-part l = Walked SaysFragment l.initial.parts l.parts l.fragments

abbrev pub decreases-loop-part : goal.decreases-loop-part
decreases-loop-part l = length l.parts
