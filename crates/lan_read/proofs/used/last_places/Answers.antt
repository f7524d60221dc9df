use Rattle.std.proofs.Common.{◌≡◌, subst, cond}
use Rattle.std.specs.Prelude.{Some, bytes_eq}
use Rattle.std.specs.BTreeMap.{get_by}
use Rattle.std.specs.Cmp.Lexicographic.{slice_cmp}
use Rattle.std.specs.Ordering.{nat_cmp}
use Rattle.std.proofs.lemmas.Map.Text.{btree_map_updates_str}
use Rattle.lan_read.proofs.Grouping.{last_step}
use Rattle.lan_read.proofs.used.last_places.Goals as goal

pub loop-i-preserved : goal.loop-i-preserved
loop-i-preserved c = λ path.
    let i = c.loop-i.i in
    let old = get_by (λ k. slice_cmp nat_cmp path k.now) c.loop-i.last in
    let new = get_by (λ k. slice_cmp nat_cmp path k.now) c.insert.new.self in
    let updates = btree_map_updates_str c.as_str.result.now c.loop-i.last c.insert.new.self _ c.in_ok-insert.ensures.updates in
    last_step c.args.files.now i c.at.result.now path old new c.at.ensures (c.loop-i.invariant path) (subst (λ n. new ≡ cond (bytes_eq n path) (Some i) old) c.as_str.ensures.value (updates path))
