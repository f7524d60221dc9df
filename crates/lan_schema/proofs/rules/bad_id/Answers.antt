use Rattle.std.proofs.Common.{sym, ap, ◌∙◌, w32, rules}
use Rattle.std.proofs.lemmas.Int.{to_z-of_z}
use Rattle.lan_schema.specs.Listed.{has_bad_id}
use lib.Signed.{lt_z}
use Rattle.std.proofs.Common.{pos}
use Rattle.lan_schema.proofs.Steps.{negative_is}
use Rattle.lan_schema.proofs.Walking.{passed_none, passed_more, passed_all, found_id}
use Rattle.lan_schema.proofs.rules.bad_id.Goals as goal

pub loop-node-init : goal.loop-node-init
loop-node-init c = passed_none has_bad_id c.args.nodes.now

pub returns-then-id-lt0 : goal.returns-then-id-lt0
returns-then-id-lt0 c =
    let id = to_z-of_z w32 c.id-id.result (search rules) ∙ c.id-id.ensures in
    found_id has_bad_id c.loop-node.node-index c.args.nodes.now c.node-item.result _ c.loop-node-test.true c.node-item.is id (sym (negative_is c.node-item.result.id) ∙ ap (λ z. lt_z z (pos 0)) (sym id) ∙ c.if-id-lt0.true)

pub loop-node-preserved : goal.loop-node-preserved
loop-node-preserved c =
    let id = to_z-of_z w32 c.id-id.result (search rules) ∙ c.id-id.ensures in
    passed_more has_bad_id c.loop-node.node-index c.args.nodes.now c.node-item.result c.loop-node-test.true c.node-item.is (sym (negative_is c.node-item.result.id) ∙ ap (λ z. lt_z z (pos 0)) (sym id) ∙ c.if-id-lt0.false) c.loop-node.invariant

pub returns : goal.returns
returns c = passed_all has_bad_id c.loop-node.node-index c.args.nodes.now c.loop-node-test.false c.loop-node.invariant
