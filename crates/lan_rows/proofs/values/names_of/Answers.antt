use Rattle.std.proofs.Common.{◌≡◌, ◌+◌, ◌∷◌, ◌∙◌, ◌≤◌, subst, rules, arith, drop, length}
use Rattle.std.specs.Prelude.{Some, cond, bytes_eq, is_some}
use Rattle.std.specs.BTreeMap.{get_by}
use Rattle.std.specs.Cmp.Lexicographic.{slice_cmp}
use Rattle.std.specs.Ordering.{nat_cmp}
use Rattle.std.proofs.lemmas.Grind.{common_steps}
use Rattle.std.proofs.lemmas.Map.Text.{btree_map_updates_str}
use Rattle.lan_rows.proofs.Names.{gathered_more, gathered_all}
use Rattle.lan_rows.proofs.values.names_of.Goals as goal

pub loop-field-preserved : goal.loop-field-preserved
loop-field-preserved c = λ key.
    let i = c.loop-field.field-index in
    let fs = c.args.fields.now in
    let name = c.as_str.result.now in
    let cut : drop i fs ≡ c.field-item.result ∷ drop (i + 1) fs = first_of (search rules, grind (arith, common_steps)) in
    let old = get_by (λ k. slice_cmp nat_cmp key k.now) c.loop-field.names in
    let new = get_by (λ k. slice_cmp nat_cmp key k.now) c.insert.new.self in
    let updates = btree_map_updates_str name c.loop-field.names c.insert.new.self _ c.in_ok-insert.ensures.updates in
    let is : new ≡ cond (bytes_eq c.field-item.result.name key) (Some tt) old = subst (λ n. new ≡ cond (bytes_eq n key) (Some tt) old) c.as_str.ensures.value (updates key) in
    gathered_more fs i c.field-item.result key old new cut is ∙ c.loop-field.invariant key

pub returns : goal.returns
returns c = λ key.
    let fs = c.args.fields.now in
    let past : length fs ≤ c.loop-field.field-index = omega (arith, c.loop-field-test.false) in
    gathered_all fs c.loop-field.field-index key (is_some (get_by (λ k. slice_cmp nat_cmp key k.now) c.loop-field.names)) past (c.loop-field.invariant key)
