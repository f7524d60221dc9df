use Rattle.std.proofs.Common.{List, sym, subst, inr}
use Rattle.lan_bytes.specs.Placed.{Placed}
use Rattle.lan_wire.specs.Messages.{FailsInOne}
use Rattle.lan_wire.proofs.Nested.{Walked, walked_more, walked_fails}
use Rattle.lan_manifest.specs.ManifestMessages.{SaysFragment, FailsFragment}
use Rattle.lan_manifest.specs.declared.said.SaidFragment.{SaidFragment}
use Rattle.lan_manifest.proofs.said.read_message.Goals as goal

pub loop-part-preserved : goal.loop-part-preserved
loop-part-preserved c =
    subst (λ (fragments : List SaidFragment). Walked SaysFragment c.parts-parts.result c.next.new.self fragments) (sym c.in_ok-push-in-Ok.ensures.ok)
    (walked_more SaysFragment c.parts-parts.result c.loop-part.parts c.next.new.self c.in-Some.part c.loop-part.fragments c.in-Ok.fragment c.loop-part.invariant c.in-Some.ensures.some c.in-Ok.ensures.ok)

pub returns-in-Err-clause-fault : goal.returns-in-Err-clause-fault
returns-in-Err-clause-fault c = inr (record {
  items = c.in_ok-said.said.items;
  reads = c.in_ok-said.ensures.ok;
  said = inr (subst (λ (ps : List Placed). FailsInOne FailsFragment ps c.in-Err.fault) c.parts-parts.ensures
      (walked_fails SaysFragment FailsFragment c.parts-parts.result c.loop-part.parts c.next.new.self c.in-Some.part c.loop-part.fragments c.in-Err.fault c.loop-part.invariant c.in-Some.ensures.some c.in-Err.ensures.fault));
})
