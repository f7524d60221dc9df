use Rattle.std.proofs.Common.{List, sym, subst, inr}
use Rattle.lan_bytes.specs.Placed.{Placed}
use Rattle.lan_model.specs.Leaves.{plain_leaf}
use Rattle.lan_wire.specs.Messages.{FailsInOne}
use Rattle.lan_wire.proofs.Nested.{Walked, walked_more, walked_fails}
use Rattle.lan_meta.specs.Columns.{StandsForPage, RefusesPage}
use Rattle.lan_meta.specs.declared.page.PageMeta.{PageMeta}
use Rattle.lan_meta.proofs.reading.read_column.Goals as goal

pub loop-part-preserved : goal.loop-part-preserved
loop-part-preserved c =
    let leaf = plain_leaf c.args.leaf.now in
    subst (λ (pages : List PageMeta). Walked (StandsForPage leaf c.args.end) c.parts-parts.result c.next.new.self pages) (sym c.in_ok-push-in-Ok.ensures.ok)
    (walked_more (StandsForPage leaf c.args.end) c.parts-parts.result c.loop-part.parts c.next.new.self c.in-Some.part c.loop-part.pages c.in-Ok.page c.loop-part.invariant c.in-Some.ensures.some c.in-Ok.ensures.ok)

pub returns-in-Err-clause-fault : goal.returns-in-Err-clause-fault
returns-in-Err-clause-fault c =
    let leaf = plain_leaf c.args.leaf.now in
    let parts = c.parts-parts.result in
    let one : FailsInOne (RefusesPage leaf c.args.end) parts c.in-Err.fault =
    walked_fails (StandsForPage leaf c.args.end) (RefusesPage leaf c.args.end) parts c.loop-part.parts c.next.new.self c.in-Some.part c.loop-part.pages c.in-Err.fault c.loop-part.invariant c.in-Some.ensures.some c.in-Err.ensures.fault in
    inr (record {
      items = c.in_ok-said.said.items;
      reads = c.in_ok-said.ensures.ok;
      said = inr (subst (λ (ps : List Placed). FailsInOne (RefusesPage leaf c.args.end) ps c.in-Err.fault) c.parts-parts.ensures one);
    })
