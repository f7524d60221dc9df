use Rattle.std.proofs.Common.{◌≡◌, ◌&&◌, sym, ap, ◌∙◌, w32, rules, true, not}
use Rattle.std.specs.Prelude.{is_some}
use Rattle.std.specs.Str.{bytes_eq}
use Rattle.std.proofs.lemmas.Int.{to_z-of_z}
use Rattle.std.proofs.lemmas.Slice.Eq.{bytes_eq-Decides}
use Rattle.lan_schema.specs.Listed.{is_untyped}
use Rattle.lan_schema.specs.Logical.{leaf_type}
use Rattle.lan_schema.specs.SchemaFaults.{is_untyped_as}
use Rattle.lan_schema.specs.Shapes.{shape_of, takes}
use Rattle.lan_schema.proofs.Walking.{passed_none, passed_more, passed_all, found_id}
use Rattle.lan_schema.proofs.rules.check_known.Goals as goal

pub loop-node-init : goal.loop-node-init
loop-node-init c = passed_none is_untyped c.args.nodes.now

pub returns-then-is_unknown-clause-err : goal.returns-then-is_unknown-clause-err
returns-then-is_unknown-clause-err c =
    let e = c.node-item.result in
    let text = c.in_ok-text.text in
    let id = to_z-of_z w32 c.id-id.result (search rules) ∙ c.id-id.ensures in
    let test = sym (ap (λ t. takes (shape_of t) 0 && not (is_some (leaf_type t))) c.logical-logical.ensures) ∙ sym c.is_unknown.ensures ∙ c.if-is_unknown.true in
    let same : bytes_eq e.logical text ≡ true = (bytes_eq-Decides e.logical text).1 (sym (c.in_ok-text.ensures ∙ c.logical-logical.ensures)) in
    (c.requires.linked, c.requires.named, found_id (is_untyped_as text) c.loop-node.node-index c.args.nodes.now c.node-item.result _ c.loop-node-test.true c.node-item.is id (ap (λ b. b && bytes_eq e.logical text) test ∙ same))

pub loop-node-preserved : goal.loop-node-preserved
loop-node-preserved c =
    let test = sym (ap (λ t. takes (shape_of t) 0 && not (is_some (leaf_type t))) c.logical-logical.ensures) ∙ sym c.is_unknown.ensures ∙ c.if-is_unknown.false in
    passed_more is_untyped c.loop-node.node-index c.args.nodes.now c.node-item.result c.loop-node-test.true c.node-item.is test c.loop-node.invariant

pub returns-clause-ok : goal.returns-clause-ok
returns-clause-ok c = passed_all is_untyped c.loop-node.node-index c.args.nodes.now c.loop-node-test.false c.loop-node.invariant
