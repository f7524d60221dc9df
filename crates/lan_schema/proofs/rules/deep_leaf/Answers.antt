use Rattle.std.proofs.Common.{◌≡◌, ◌&&◌, sym, ap, ◌∙◌, w32, arith, rules}
use Rattle.std.specs.Int.{cast_signed, cast_unsigned}
use Rattle.std.specs.Ordering.{int_cmp}
use Rattle.std.proofs.lemmas.Int.{to_z-of_z}
use Rattle.lan_schema.specs.Listed.{is_deep, layers_of}
use Rattle.std.specs.Prelude.{◌+◌, nat_lt, unwrap_or}
use Rattle.std.specs.BTreeMap as tree
use Rattle.lan_schema.specs.Shapes.{shape_of, takes}
use Rattle.lan_schema.proofs.Steps.{layers_none, layers_more, layers_few}
use Rattle.lan_schema.proofs.Walking.{before_length}
use Rattle.lan_schema.proofs.Walking.{passed_none, passed_more, passed_all, found_id, before}
use Rattle.lan_schema.proofs.rules.deep_leaf.Goals as goal

pub loop-node-init : goal.loop-node-init
loop-node-init c = record { passed = passed_none is_deep c.args.nodes.now; layers = layers_none (tree.get int_cmp c.new-layers.result) c.args.nodes.now (λ q. search rules) }

pub returns-then-passes_limit : goal.returns-then-passes_limit
returns-then-passes_limit c =
    let id = to_z-of_z w32 c.id-id.result (search rules) ∙ c.id-id.ensures in
    let e = c.node-item.result in
    let parent : cast_signed w32 (cast_unsigned w32 c.parent-parent.result) ≡ e.parent = to_z-of_z w32 c.parent-parent.result (search rules) ∙ c.parent-parent.ensures in
    let outer : c.number_at-outer.result ≡ layers_of (before c.loop-node.node-index c.args.nodes.now) e.parent = c.number_at-outer.ensures ∙ ap (λ p. unwrap_or (tree.get int_cmp c.loop-node.layers p) 0) parent ∙ c.loop-node.invariant.layers e.parent in
    let leaf : c.takes-is_leaf.result ≡ takes (shape_of e.logical) 0 = c.takes-is_leaf.ensures ∙ ap (λ s. takes s 0) c.shape_of.ensures ∙ ap (λ t. takes (shape_of t) 0) c.logical.ensures in
    let test = sym (ap (λ n. takes (shape_of e.logical) 0 && nat_lt 16 (n + 1)) outer) ∙ sym (ap (λ b. b && nat_lt 16 (c.number_at-outer.result + 1)) leaf) ∙ sym c.passes_limit.ensures ∙ c.if-passes_limit.true in
    found_id is_deep c.loop-node.node-index c.args.nodes.now c.node-item.result _ c.loop-node-test.true c.node-item.is id test

pub overflow_add-outer : goal.overflow_add-outer
overflow_add-outer c =
    let e = c.node-item.result in
    let parent : cast_signed w32 (cast_unsigned w32 c.parent-parent.result) ≡ e.parent = to_z-of_z w32 c.parent-parent.result (search rules) ∙ c.parent-parent.ensures in
    let outer : c.number_at-outer.result ≡ layers_of (before c.loop-node.node-index c.args.nodes.now) e.parent = c.number_at-outer.ensures ∙ ap (λ p. unwrap_or (tree.get int_cmp c.loop-node.layers p) 0) parent ∙ c.loop-node.invariant.layers e.parent in
    omega (arith, layers_few (before c.loop-node.node-index c.args.nodes.now) e.parent, before_length c.loop-node.node-index c.args.nodes.now)

pub loop-node-preserved : goal.loop-node-preserved
loop-node-preserved c =
    let z = cast_signed w32 (cast_unsigned w32 c.id-id.result) in
    let id : z ≡ c.node-item.result.id = to_z-of_z w32 c.id-id.result (search rules) ∙ c.id-id.ensures in
    let e = c.node-item.result in
    let parent : cast_signed w32 (cast_unsigned w32 c.parent-parent.result) ≡ e.parent = to_z-of_z w32 c.parent-parent.result (search rules) ∙ c.parent-parent.ensures in
    let outer : c.number_at-outer.result ≡ layers_of (before c.loop-node.node-index c.args.nodes.now) e.parent = c.number_at-outer.ensures ∙ ap (λ p. unwrap_or (tree.get int_cmp c.loop-node.layers p) 0) parent ∙ c.loop-node.invariant.layers e.parent in
    let leaf : c.takes-is_leaf.result ≡ takes (shape_of e.logical) 0 = c.takes-is_leaf.ensures ∙ ap (λ s. takes s 0) c.shape_of.ensures ∙ ap (λ t. takes (shape_of t) 0) c.logical.ensures in
    let test = sym (ap (λ n. takes (shape_of e.logical) 0 && nat_lt 16 (n + 1)) outer) ∙ sym (ap (λ b. b && nat_lt 16 (c.number_at-outer.result + 1)) leaf) ∙ sym c.passes_limit.ensures ∙ c.if-passes_limit.false in
    record {
      passed = passed_more is_deep c.loop-node.node-index c.args.nodes.now c.node-item.result c.loop-node-test.true c.node-item.is test c.loop-node.invariant.passed;
      layers = layers_more (tree.get int_cmp c.loop-node.layers) (tree.get int_cmp c.insert.new.self) c.loop-node.node-index c.args.nodes.now c.node-item.result z (c.number_at-outer.result + 1) c.loop-node-test.true c.node-item.is id (ap (λ n. n + 1) outer) c.loop-node.invariant.layers c.in_ok-insert.ensures.updates.0;
    }

pub returns : goal.returns
returns c = passed_all is_deep c.loop-node.node-index c.args.nodes.now c.loop-node-test.false c.loop-node.invariant.passed
