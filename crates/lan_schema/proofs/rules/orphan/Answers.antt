use Rattle.std.proofs.Common.{◌≡◌, ◌||◌, sym, ap, ◌∙◌, w32, rules, not}
use Rattle.std.specs.Int.{cast_signed, cast_unsigned}
use Rattle.std.specs.Ordering.{int_cmp}
use Rattle.std.proofs.lemmas.Int.{to_z-of_z}
use Rattle.lan_schema.specs.Listed.{is_orphan}
use Rattle.std.specs.Prelude.{negsuc}
use Rattle.std.specs.BTreeSet as tree
use Rattle.lan_schema.specs.Forest.{same}
use Rattle.lan_schema.proofs.Steps.{listed_none, listed_more}
use Rattle.lan_schema.proofs.Walking.{passed_none, passed_more, passed_all, found_id}
use Rattle.lan_schema.proofs.rules.orphan.Goals as goal

pub loop-node-init : goal.loop-node-init
loop-node-init c = record { passed = passed_none is_orphan c.args.nodes.now; seen = listed_none (tree.contains int_cmp c.new-seen.result) c.args.nodes.now (λ q. search rules) }

pub returns-then-not-is_parent : goal.returns-then-not-is_parent
returns-then-not-is_parent c =
    let id = to_z-of_z w32 c.id-id.result (search rules) ∙ c.id-id.ensures in
    let e = c.node-item.result in
    let parent : cast_signed w32 (cast_unsigned w32 c.parent-parent.result) ≡ e.parent = to_z-of_z w32 c.parent-parent.result (search rules) ∙ c.parent-parent.ensures in
    let there = sym (c.loop-node.invariant.seen e.parent) in
    found_id is_orphan c.loop-node.node-index c.args.nodes.now c.node-item.result _ c.loop-node-test.true c.node-item.is id (ap (λ b. not (same e.parent (negsuc 0) || b)) there ∙ sym (ap (λ p. not (same p (negsuc 0) || tree.contains int_cmp c.loop-node.seen p)) parent) ∙ ap not (sym c.is_parent.ensures ∙ c.if-not-is_parent.true))

pub loop-node-preserved : goal.loop-node-preserved
loop-node-preserved c =
    let z = cast_signed w32 (cast_unsigned w32 c.id-id.result) in
    let id : z ≡ c.node-item.result.id = to_z-of_z w32 c.id-id.result (search rules) ∙ c.id-id.ensures in
    let e = c.node-item.result in
    let parent : cast_signed w32 (cast_unsigned w32 c.parent-parent.result) ≡ e.parent = to_z-of_z w32 c.parent-parent.result (search rules) ∙ c.parent-parent.ensures in
    let there = sym (c.loop-node.invariant.seen e.parent) in
    record {
      passed = passed_more is_orphan c.loop-node.node-index c.args.nodes.now c.node-item.result c.loop-node-test.true c.node-item.is (ap (λ b. not (same e.parent (negsuc 0) || b)) there ∙ sym (ap (λ p. not (same p (negsuc 0) || tree.contains int_cmp c.loop-node.seen p)) parent) ∙ ap not (sym c.is_parent.ensures ∙ c.if-not-is_parent.false)) c.loop-node.invariant.passed;
      seen = listed_more (tree.contains int_cmp c.loop-node.seen) (tree.contains int_cmp c.insert.new.self) c.loop-node.node-index c.args.nodes.now c.node-item.result z c.loop-node-test.true c.node-item.is id c.loop-node.invariant.seen c.in_ok-insert.ensures.updates.0;
    }

pub returns : goal.returns
returns c = passed_all is_orphan c.loop-node.node-index c.args.nodes.now c.loop-node-test.false c.loop-node.invariant.passed
