use Rattle.std.proofs.Common.{sym, ◌∙◌, ap, subst, ◌≡◌, true, false, take, Some, cond}
use Rattle.std.specs.Prelude.{is_some, bytes_eq}
use Rattle.std.specs.List.{list_any}
use Rattle.std.specs.Ordering.{nat_cmp}
use Rattle.std.specs.Cmp.Lexicographic.{slice_cmp}
use Rattle.std.specs.BTreeMap as tree
use Rattle.std.proofs.lemmas.Map.Text.{btree_map_updates_str}
use Rattle.lan_form.proofs.Twice.{names, step, seen_more}
use Rattle.lan_form.proofs.names.first_twice.Goals as goal

pub returns-then-is_some : goal.returns-then-is_some
returns-then-is_some c =
    let fs = c.args.fields.now in
    let i = c.loop-field.field-index in
    let name = c.as_str-name.result.now in
    let value = c.as_str-name.ensures.value in
    let old : is_some c.in_ok-insert.field-0 ≡ is_some (tree.get_by (λ k. slice_cmp nat_cmp name k.now) c.loop-field.seen) = ap is_some c.in_ok-insert.ensures.old in
    let found : list_any (bytes_eq name) (names (take i fs)) ≡ true = sym (c.loop-field.invariant.seen name) ∙ sym old ∙ sym c.if-is_some.ensures in
    let same = subst (λ n. list_any (bytes_eq n) (names (take i fs)) ≡ true) value found in
    ap (λ n. Some n) value ∙ sym (c.loop-field.invariant.so_far ∙ step fs i c.field-item.result true c.loop-field-test.true c.field-item.is same)

pub loop-field-preserved : goal.loop-field-preserved
loop-field-preserved c =
    let fs = c.args.fields.now in
    let i = c.loop-field.field-index in
    let name = c.as_str-name.result.now in
    let value = c.as_str-name.ensures.value in
    let updates = btree_map_updates_str name c.loop-field.seen c.insert.new.self _ c.in_ok-insert.ensures.updates in
    let old : is_some c.in_ok-insert.field-0 ≡ is_some (tree.get_by (λ k. slice_cmp nat_cmp name k.now) c.loop-field.seen) = ap is_some c.in_ok-insert.ensures.old in
    let fresh : list_any (bytes_eq name) (names (take i fs)) ≡ false = sym (c.loop-field.invariant.seen name) ∙ sym old ∙ sym c.if-is_some.ensures in
    let same = subst (λ n. list_any (bytes_eq n) (names (take i fs)) ≡ false) value fresh in
    record {
      so_far = c.loop-field.invariant.so_far ∙ step fs i c.field-item.result false c.loop-field-test.true c.field-item.is same;
      seen = λ q.
          let before = tree.get_by (λ k. slice_cmp nat_cmp q k.now) c.loop-field.seen in
          let after = tree.get_by (λ k. slice_cmp nat_cmp q k.now) c.insert.new.self in
          seen_more fs i c.field-item.result q before after c.loop-field-test.true c.field-item.is (c.loop-field.invariant.seen q)
          (subst (λ n. after ≡ cond (bytes_eq n q) (Some tt) before) value (updates q));
    }
