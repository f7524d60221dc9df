use Rattle.std.proofs.Common.{◌≡◌, ◌-◌, ◌∙◌, true, false, get_or, drop, sym, inl, inr, w32, arith, rules}
use Rattle.std.specs.Prelude.{pos}
use Rattle.std.specs.Int.{cast_signed, cast_unsigned}
use Rattle.std.specs.Ordering.{int_cmp}
use Rattle.std.specs.BTreeSet as tree
use Rattle.std.proofs.lemmas.Int.{to_z-of_z}
use Rattle.lan_schema.proofs.Steps.{was_there, was_not}
use Rattle.lan_manifest.specs.FragmentRules.{repeats}
use Rattle.lan_manifest.specs.SchemaLeaves.{is_listed}
use Rattle.lan_manifest.proofs.Listed.{listed_at, repeats_at, repeats_from, found_twice, still_once}
use Rattle.lan_manifest.proofs.keeping.repeats.Goals as goal
use Rattle.lan_manifest.proofs.keeping.repeats.Goals.{else-not-added-via-then-not-added+else-is_leaf, else-not-added-via-else-not-added}

pub returns-then-is_leaf : goal.returns-then-is_leaf
returns-then-is_leaf c =
    let ids = c.args.ids.now in
    let i = c.loop-i.i - 1 in
    let leaf = tree.contains int_cmp c.args.schema.now.leaves in
    let z = cast_signed w32 (cast_unsigned w32 (get_or ids i (pos 0))) in
    let is : z ≡ get_or ids i (pos 0) = to_z-of_z w32 (get_or ids i (pos 0)) (search rules) in
    let is_leaf : leaf z ≡ true = sym c.is_leaf.ensures ∙ c.if-is_leaf.true in
    let again : is_listed (drop c.loop-i.i ids) z ≡ true = sym (c.loop-i.invariant.seen z) ∙ was_there c.in_ok-added.added (tree.contains int_cmp c.loop-i.seen z) c.in_ok-added.ensures.added c.if-not-added.true in
    let here = repeats_at leaf ids i c.loop-i.i z (omega arith) (omega (arith, c.loop-i.invariant.within)) is in
    sym (repeats_from leaf i ids (here ∙ found_twice (leaf z) (is_listed (drop c.loop-i.i ids) z) (repeats leaf (drop c.loop-i.i ids)) is_leaf again))

pub loop-i-preserved : goal.loop-i-preserved
loop-i-preserved c =
    let ids = c.args.ids.now in
    let i = c.loop-i.i - 1 in
    let leaf = tree.contains int_cmp c.args.schema.now.leaves in
    let z = cast_signed w32 (cast_unsigned w32 (get_or ids i (pos 0))) in
    let is : z ≡ get_or ids i (pos 0) = to_z-of_z w32 (get_or ids i (pos 0)) (search rules) in
    let listed = is_listed (drop c.loop-i.i ids) z in
    let rest = repeats leaf (drop c.loop-i.i ids) in
    let here = repeats_at leaf ids i c.loop-i.i z (omega arith) (omega (arith, c.loop-i.invariant.within)) is in
    record {
      within = omega (arith, c.loop-i.invariant.within);
      seen = listed_at (tree.contains int_cmp c.loop-i.seen) (tree.contains int_cmp c.insert.new.self) ids i c.loop-i.i z (omega arith) (omega (arith, c.loop-i.invariant.within)) is c.loop-i.invariant.seen c.in_ok-added.ensures.updates.0;
      once = elim c.else-not-added.branch [
        | else-not-added-via-then-not-added+else-is_leaf w ↦ here ∙ still_once (leaf z) listed rest (inl (sym w.is_leaf.ensures ∙ w.if-is_leaf.false)) c.loop-i.invariant.once
        | else-not-added-via-else-not-added w ↦
            here ∙ still_once (leaf z) listed rest (inr (sym (c.loop-i.invariant.seen z) ∙ was_not c.in_ok-added.added (tree.contains int_cmp c.loop-i.seen z) c.in_ok-added.ensures.added w.if-not-added.false)) c.loop-i.invariant.once
      ];
    }
