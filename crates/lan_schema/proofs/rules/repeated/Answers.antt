use Rattle.std.proofs.Common.{◌≡◌, sym, ap, ◌∙◌, w32, rules}
use Rattle.std.specs.Int.{cast_signed, cast_unsigned}
use Rattle.std.specs.Ordering.{int_cmp}
use Rattle.std.proofs.lemmas.Int.{to_z-of_z}
use Rattle.lan_schema.specs.Listed.{repeats, is_listed}
use Rattle.std.specs.BTreeSet as tree
use Rattle.lan_schema.proofs.Steps.{listed_none, listed_more, was_there, was_not}
use Rattle.lan_schema.proofs.Walking.{passed_none, passed_more, passed_all, found_id, before}
use Rattle.lan_schema.proofs.rules.repeated.Goals as goal

pub loop-node-init : goal.loop-node-init
loop-node-init c = record { passed = passed_none repeats c.args.nodes.now; seen = listed_none (tree.contains int_cmp c.new-seen.result) c.args.nodes.now (λ q. search rules) }

pub returns-then-not-added : goal.returns-then-not-added
returns-then-not-added c =
    let z = cast_signed w32 (cast_unsigned w32 c.id-id.result) in
    let id : z ≡ c.node-item.result.id = to_z-of_z w32 c.id-id.result (search rules) ∙ c.id-id.ensures in
    let h = was_there c.in_ok-added.added (tree.contains int_cmp c.loop-node.seen z) c.in_ok-added.ensures.added c.if-not-added.true in
    let name = sym (ap (is_listed (before c.loop-node.node-index c.args.nodes.now)) id) in
    found_id repeats c.loop-node.node-index c.args.nodes.now c.node-item.result _ c.loop-node-test.true c.node-item.is id (name ∙ sym (c.loop-node.invariant.seen z) ∙ h)

pub loop-node-preserved : goal.loop-node-preserved
loop-node-preserved c =
    let z = cast_signed w32 (cast_unsigned w32 c.id-id.result) in
    let id : z ≡ c.node-item.result.id = to_z-of_z w32 c.id-id.result (search rules) ∙ c.id-id.ensures in
    let h = was_not c.in_ok-added.added (tree.contains int_cmp c.loop-node.seen z) c.in_ok-added.ensures.added c.if-not-added.false in
    let name = sym (ap (is_listed (before c.loop-node.node-index c.args.nodes.now)) id) in
    record {
      passed = passed_more repeats c.loop-node.node-index c.args.nodes.now c.node-item.result c.loop-node-test.true c.node-item.is (name ∙ sym (c.loop-node.invariant.seen z) ∙ h) c.loop-node.invariant.passed;
      seen = listed_more (tree.contains int_cmp c.loop-node.seen) (tree.contains int_cmp c.insert.new.self) c.loop-node.node-index c.args.nodes.now c.node-item.result z c.loop-node-test.true c.node-item.is id c.loop-node.invariant.seen c.in_ok-added.ensures.updates.0;
    }

pub returns : goal.returns
returns c = passed_all repeats c.loop-node.node-index c.args.nodes.now c.loop-node-test.false c.loop-node.invariant.passed
