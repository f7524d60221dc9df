use Rattle.std.proofs.Common.{◌≡◌, sym, ap, ◌∙◌, w32, arith, rules, not}
use Rattle.std.specs.Int.{cast_signed, cast_unsigned}
use Rattle.std.specs.Ordering.{int_cmp}
use Rattle.std.proofs.lemmas.Int.{to_z-of_z}
use Rattle.lan_schema.specs.Listed.{miscounts, children_of, Lacks}
use Rattle.std.proofs.Common.{◌+◌, ◌-◌, ◌<◌, length, subst}
use Rattle.std.specs.Prelude.{unwrap_or}
use Rattle.std.specs.BTreeMap as tree
use Rattle.lan_schema.specs.Shapes.{shape_of, takes}
use Rattle.lan_schema.proofs.Steps.{children_none, children_more, children_few}
use Rattle.lan_schema.proofs.Walking.{after_length, lacks_more, lacks_none, whole_from}
use Rattle.lan_schema.proofs.Walking.{found_id, before, after}
use Rattle.lan_schema.proofs.rules.miscounted.Goals as goal

pub loop-i-init : goal.loop-i-init
loop-i-init c = record {
  within = omega arith;
  lacks = lacks_none miscounts c.args.nodes.now;
  counted = children_none (tree.get int_cmp c.new-counts.result) c.args.nodes.now (length c.args.nodes.now) (omega arith) (λ q. search rules);
}

pub returns-then-not-takes : goal.returns-then-not-takes
returns-then-not-takes c =
    let i = c.loop-i.i - 1 in
    let es = c.args.nodes.now in
    let e = c.index-nodes-i.result in
    let id : cast_signed w32 (cast_unsigned w32 c.id-id.result) ≡ e.id = to_z-of_z w32 c.id-id.result (search rules) ∙ c.id-id.ensures in
    let back : i + 1 ≡ c.loop-i.i = omega arith in
    let lt : i < length es = omega arith in
    let inside : c.number_at-inside.result ≡ children_of (after (i + 1) es) e.id = c.number_at-inside.ensures ∙ ap (λ p. unwrap_or (tree.get int_cmp c.loop-i.counts p) 0) id ∙ c.loop-i.invariant.counted e.id ∙ ap (λ n. children_of (after n es) e.id) (sym back) in
    let right : c.takes-takes.result ≡ takes (shape_of e.logical) (children_of (after (i + 1) es) e.id) = c.takes-takes.ensures ∙ ap (λ s. takes s c.number_at-inside.result) (c.shape_of.ensures ∙ ap shape_of c.logical.ensures) ∙ ap (takes (shape_of e.logical)) inside in
    found_id miscounts i es e _ lt c.index-nodes-i.is id (ap not (sym right ∙ c.if-not-takes.true))

pub overflow_add-beside : goal.overflow_add-beside
overflow_add-beside c =
    let i = c.loop-i.i - 1 in
    let es = c.args.nodes.now in
    let e = c.index-nodes-i.result in
    let back : i + 1 ≡ c.loop-i.i = omega arith in
    let lt : i < length es = omega arith in
    let parent : cast_signed w32 (cast_unsigned w32 c.parent-parent.result) ≡ e.parent = to_z-of_z w32 c.parent-parent.result (search rules) ∙ c.parent-parent.ensures in
    let beside : c.number_at-beside.result ≡ children_of (after (i + 1) es) e.parent = c.number_at-beside.ensures ∙ ap (λ p. unwrap_or (tree.get int_cmp c.loop-i.counts p) 0) parent ∙ c.loop-i.invariant.counted e.parent ∙ ap (λ n. children_of (after n es) e.parent) (sym back) in
    omega (arith, children_few (after (i + 1) es) e.parent, after_length i es lt)

pub loop-i-preserved : goal.loop-i-preserved
loop-i-preserved c =
    let i = c.loop-i.i - 1 in
    let es = c.args.nodes.now in
    let e = c.index-nodes-i.result in
    let id : cast_signed w32 (cast_unsigned w32 c.id-id.result) ≡ e.id = to_z-of_z w32 c.id-id.result (search rules) ∙ c.id-id.ensures in
    let back : i + 1 ≡ c.loop-i.i = omega arith in
    let lt : i < length es = omega arith in
    let inside : c.number_at-inside.result ≡ children_of (after (i + 1) es) e.id = c.number_at-inside.ensures ∙ ap (λ p. unwrap_or (tree.get int_cmp c.loop-i.counts p) 0) id ∙ c.loop-i.invariant.counted e.id ∙ ap (λ n. children_of (after n es) e.id) (sym back) in
    let right : c.takes-takes.result ≡ takes (shape_of e.logical) (children_of (after (i + 1) es) e.id) = c.takes-takes.ensures ∙ ap (λ s. takes s c.number_at-inside.result) (c.shape_of.ensures ∙ ap shape_of c.logical.ensures) ∙ ap (takes (shape_of e.logical)) inside in
    let parent : cast_signed w32 (cast_unsigned w32 c.parent-parent.result) ≡ e.parent = to_z-of_z w32 c.parent-parent.result (search rules) ∙ c.parent-parent.ensures in
    let beside : c.number_at-beside.result ≡ children_of (after (i + 1) es) e.parent = c.number_at-beside.ensures ∙ ap (λ p. unwrap_or (tree.get int_cmp c.loop-i.counts p) 0) parent ∙ c.loop-i.invariant.counted e.parent ∙ ap (λ n. children_of (after n es) e.parent) (sym back) in
    record {
      within = omega arith;
      lacks = lacks_more miscounts i es e lt c.index-nodes-i.is (ap not (sym right ∙ c.if-not-takes.false)) (subst (λ n. Lacks miscounts (before n es) (after n es)) (sym back) c.loop-i.invariant.lacks);
      counted = children_more (tree.get int_cmp c.loop-i.counts) (tree.get int_cmp c.insert.new.self) i es e (cast_signed w32 (cast_unsigned w32 c.parent-parent.result)) (c.number_at-beside.result + 1) lt c.index-nodes-i.is parent (ap (λ n. n + 1) beside) (λ q. c.loop-i.invariant.counted q ∙ ap (λ n. children_of (after n es) q) (sym back)) c.in_ok-insert.ensures.updates.0;
    }

pub returns : goal.returns
returns c = whole_from miscounts c.loop-i.i c.args.nodes.now (omega arith) c.loop-i.invariant.lacks
