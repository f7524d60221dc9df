use Rattle.std.proofs.Common.{List, sym, subst, inr}
use Rattle.lan_bytes.specs.Placed.{Placed}
use Rattle.lan_wire.specs.Messages.{FailsInOne}
use Rattle.lan_wire.proofs.Nested.{Walked, walked_more, walked_fails}
use Rattle.lan_manifest.specs.ManifestMessages.{SaysFile, FailsFile}
use Rattle.lan_manifest.specs.declared.said.SaidFile.{SaidFile}
use Rattle.lan_manifest.proofs.said.read_files.Goals as goal

pub loop-part-preserved : goal.loop-part-preserved
loop-part-preserved c =
    subst (λ (files : List SaidFile). Walked SaysFile c.parts-parts.result c.next.new.self files) (sym c.in_ok-push-in-Ok.ensures.ok)
    (walked_more SaysFile c.parts-parts.result c.loop-part.parts c.next.new.self c.in-Some.part c.loop-part.files c.in-Ok.file c.loop-part.invariant c.in-Some.ensures.some c.in-Ok.ensures.ok)

pub returns-in-Err-clause-fault : goal.returns-in-Err-clause-fault
returns-in-Err-clause-fault c =
    inr (subst (λ (ps : List Placed). FailsInOne FailsFile ps c.in-Err.fault) c.parts-parts.ensures
    (walked_fails SaysFile FailsFile c.parts-parts.result c.loop-part.parts c.next.new.self c.in-Some.part c.loop-part.files c.in-Err.fault c.loop-part.invariant c.in-Some.ensures.some c.in-Err.ensures.fault))
