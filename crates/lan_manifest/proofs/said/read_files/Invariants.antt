use Rattle.std.proofs.Common.{length}
use Rattle.lan_wire.proofs.Nested.{Walked}
use Rattle.lan_manifest.specs.ManifestMessages.{SaysFile}
use Rattle.lan_manifest.proofs.said.read_files.Given as goal

abbrev pub invariant-loop-part : goal.invariant-loop-part
invariant-loop-part l = Walked SaysFile l.initial.parts l.parts l.files

abbrev pub decreases-loop-part : goal.decreases-loop-part
decreases-loop-part l = length l.parts
