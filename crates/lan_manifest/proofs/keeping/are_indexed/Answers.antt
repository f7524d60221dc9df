use Rattle.std.proofs.Common.{◌≡◌, ◌+◌, ◌<◌, ◌∙◌, true, false, get_or, drop, length, sym, ap, inl, inr, w32, arith, rules}
use Rattle.std.specs.Prelude.{pos}
use Rattle.std.specs.Int.{cast_signed, cast_unsigned}
use Rattle.std.specs.Ordering.{int_cmp}
use Rattle.std.specs.BTreeSet as tree
use Rattle.std.proofs.lemmas.Int.{to_z-of_z}
use lib.Signed.{lt_z}
use Rattle.lan_schema.specs.Listed.{is_negative}
use Rattle.lan_schema.proofs.Steps.{negative_is}
use Rattle.lan_manifest.specs.FragmentRules.{are_indexed}
use Rattle.lan_manifest.proofs.Listed.{indexed_at, not_indexed, indexed_so_far}
use Rattle.lan_manifest.proofs.keeping.are_indexed.Goals as goal
use Rattle.lan_manifest.proofs.keeping.are_indexed.Goals.{else-is_leaf-via-then-is_leaf+else-columns-i-lt0, else-is_leaf-via-else-is_leaf}

pub returns-then-columns-i-lt0 : goal.returns-then-columns-i-lt0
returns-then-columns-i-lt0 c =
    let ids = c.args.ids.now in
    let columns = c.args.columns.now in
    let i = c.loop-i.i in
    let leaf = tree.contains int_cmp c.args.schema.now.leaves in
    let id = get_or ids i (pos 0) in
    let column = get_or columns i (pos 0) in
    let is_leaf : leaf id ≡ true = sym (c.is_leaf.ensures ∙ ap leaf (to_z-of_z w32 id (search rules))) ∙ c.if-is_leaf.true in
    let below : is_negative column ≡ true = sym (negative_is column) ∙ ap (λ z. lt_z z (pos 0)) (sym (to_z-of_z w32 column (search rules))) ∙ c.if-columns-i-lt0.true in
    sym (sym c.loop-i.invariant ∙ indexed_at leaf ids columns i c.loop-i-test.true (omega (arith, c.requires, c.loop-i-test.true)) ∙ not_indexed (leaf id) (is_negative column) (are_indexed leaf (drop (i + 1) ids) (drop (i + 1) columns)) is_leaf below)

pub loop-i-preserved : goal.loop-i-preserved
loop-i-preserved c =
    let ids = c.args.ids.now in
    let columns = c.args.columns.now in
    let i = c.loop-i.i in
    let leaf = tree.contains int_cmp c.args.schema.now.leaves in
    let id = get_or ids i (pos 0) in
    let column = get_or columns i (pos 0) in
    let rest = are_indexed leaf (drop (i + 1) ids) (drop (i + 1) columns) in
    let here = indexed_at leaf ids columns i c.loop-i-test.true (omega (arith, c.requires, c.loop-i-test.true)) in
    elim c.else-is_leaf.branch [
      | else-is_leaf-via-then-is_leaf+else-columns-i-lt0 w ↦
          let above : is_negative column ≡ false = sym (negative_is column) ∙ ap (λ z. lt_z z (pos 0)) (sym (to_z-of_z w32 column (search rules))) ∙ w.if-columns-i-lt0.false in
          sym (indexed_so_far (leaf id) (is_negative column) rest (inr above)) ∙ sym here ∙ c.loop-i.invariant
      | else-is_leaf-via-else-is_leaf w ↦
          let no_leaf : leaf id ≡ false = sym (c.is_leaf.ensures ∙ ap leaf (to_z-of_z w32 id (search rules))) ∙ w.if-is_leaf.false in
          sym (indexed_so_far (leaf id) (is_negative column) rest (inl no_leaf)) ∙ sym here ∙ c.loop-i.invariant
    ]
