use Rattle.std.proofs.Common.{sym, ◌∙◌, w32, rules}
use Rattle.std.proofs.lemmas.Int.{to_z-of_z}
use Rattle.lan_schema.specs.Listed.{is_nameless}
use Rattle.lan_schema.proofs.Steps.{empty_is}
use Rattle.lan_schema.proofs.Walking.{passed_none, passed_more, passed_all, found_id}
use Rattle.lan_schema.proofs.rules.nameless.Goals as goal

pub loop-node-init : goal.loop-node-init
loop-node-init c = passed_none is_nameless c.args.nodes.now

pub returns-then-is_empty : goal.returns-then-is_empty
returns-then-is_empty c =
    let id = to_z-of_z w32 c.id-id.result (search rules) ∙ c.id-id.ensures in
    found_id is_nameless c.loop-node.node-index c.args.nodes.now c.node-item.result _ c.loop-node-test.true c.node-item.is id (sym (empty_is c.node-item.result.name c.is_empty.result (search rules)) ∙ c.if-is_empty.true)

pub loop-node-preserved : goal.loop-node-preserved
loop-node-preserved c =
    passed_more is_nameless c.loop-node.node-index c.args.nodes.now c.node-item.result c.loop-node-test.true c.node-item.is (sym (empty_is c.node-item.result.name c.is_empty.result (search rules)) ∙ c.if-is_empty.false) c.loop-node.invariant

pub returns : goal.returns
returns c = passed_all is_nameless c.loop-node.node-index c.args.nodes.now c.loop-node-test.false c.loop-node.invariant
