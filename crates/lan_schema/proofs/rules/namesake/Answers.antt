use Rattle.std.proofs.Common.{◌≡◌, sym, ap, ◌∙◌, w32, rules}
use Rattle.std.specs.Int.{cast_signed, cast_unsigned}
use Rattle.std.proofs.lemmas.Int.{to_z-of_z}
use Rattle.lan_schema.specs.Listed.{has_namesake, is_named}
use Rattle.std.specs.BTreeSet as tree
use Rattle.lan_schema.proofs.Steps.{Key, key_order, named_none, named_more, was_there, was_not}
use Rattle.lan_schema.proofs.Walking.{passed_none, passed_more, passed_all, found_id, before}
use Rattle.lan_schema.proofs.rules.namesake.Goals as goal

pub loop-node-init : goal.loop-node-init
loop-node-init c = record { passed = passed_none has_namesake c.args.nodes.now; seen = named_none (tree.contains key_order c.new-seen.result) c.args.nodes.now (λ q. search rules) }

pub returns-then-not-added : goal.returns-then-not-added
returns-then-not-added c =
    let id = to_z-of_z w32 c.id-id.result (search rules) ∙ c.id-id.ensures in
    let e = c.node-item.result in
    let k : Key = (cast_signed w32 (cast_unsigned w32 c.parent.result), c.name.result) in
    let parent : k.0 ≡ e.parent = to_z-of_z w32 c.parent.result (search rules) ∙ c.parent.ensures in
    let name : k.1.now ≡ e.name = c.name.ensures in
    let h = was_there c.in_ok-added.added (tree.contains key_order c.loop-node.seen k) c.in_ok-added.ensures.added c.if-not-added.true in
    let same = sym (ap (λ p. is_named (before c.loop-node.node-index c.args.nodes.now) p k.1.now) parent ∙ ap (is_named (before c.loop-node.node-index c.args.nodes.now) e.parent) name) in
    found_id has_namesake c.loop-node.node-index c.args.nodes.now c.node-item.result _ c.loop-node-test.true c.node-item.is id (same ∙ sym (c.loop-node.invariant.seen k) ∙ h)

pub loop-node-preserved : goal.loop-node-preserved
loop-node-preserved c =
    let e = c.node-item.result in
    let k : Key = (cast_signed w32 (cast_unsigned w32 c.parent.result), c.name.result) in
    let parent : k.0 ≡ e.parent = to_z-of_z w32 c.parent.result (search rules) ∙ c.parent.ensures in
    let name : k.1.now ≡ e.name = c.name.ensures in
    let h = was_not c.in_ok-added.added (tree.contains key_order c.loop-node.seen k) c.in_ok-added.ensures.added c.if-not-added.false in
    let same = sym (ap (λ p. is_named (before c.loop-node.node-index c.args.nodes.now) p k.1.now) parent ∙ ap (is_named (before c.loop-node.node-index c.args.nodes.now) e.parent) name) in
    record {
      passed = passed_more has_namesake c.loop-node.node-index c.args.nodes.now c.node-item.result c.loop-node-test.true c.node-item.is (same ∙ sym (c.loop-node.invariant.seen k) ∙ h) c.loop-node.invariant.passed;
      seen = named_more (tree.contains key_order c.loop-node.seen) (tree.contains key_order c.insert.new.self) c.loop-node.node-index c.args.nodes.now c.node-item.result k c.loop-node-test.true c.node-item.is parent name c.loop-node.invariant.seen c.in_ok-added.ensures.updates.0;
    }

pub returns : goal.returns
returns c = passed_all has_namesake c.loop-node.node-index c.args.nodes.now c.loop-node-test.false c.loop-node.invariant.passed
