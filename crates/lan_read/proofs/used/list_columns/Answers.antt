use Rattle.std.proofs.Common.{◌∙◌, ap₂, arith, cond, rules, w32}
use Rattle.std.specs.Prelude.{ℤ, None}
use Rattle.std.specs.BTreeMap.{get}
use Rattle.std.specs.Option.{option_or}
use Rattle.std.specs.Ordering.{int_cmp}
use Rattle.std.proofs.lemmas.Int.{to_z-of_z}
use Rattle.lan_schema.specs.Forest.{same}
use Rattle.lan_read.specs.Grouped.{placed}
use Rattle.lan_read.specs.Opened.{own_column}
use Rattle.lan_read.proofs.Grouping.{listed_at, listed_done}
use Rattle.lan_read.proofs.used.list_columns.Goals as goal

pub loop-k-preserved : goal.loop-k-preserved
loop-k-preserved c = λ q.
    let i = c.at.result.now in
    let column = c.at-in-loop-k.result.now in
    let old = get int_cmp c.loop-k.places q in
    listed_at c.args.number c.loop-k.k c.args.file.now.ids c.args.file.now.columns i column q old (get int_cmp c.list_column.new.places q) _ c.at.ensures c.at-in-loop-k.ensures
    (c.in_ok-list_column.ensures q ∙ ap₂ (λ (a b : ℤ). option_or old (cond (same a q) (placed c.args.number (own_column b)) None)) (to_z-of_z w32 i (search rules)) (to_z-of_z w32 column (search rules)))
    (c.loop-k.invariant q)

pub returns : goal.returns
returns c = λ q.
    listed_done c.args.number c.loop-k.k c.args.file.now.ids c.args.file.now.columns q (get int_cmp c.loop-k.places q) _ (omega (arith, c.loop-k-test.false, c.min-k-end.ensures, c.len.ensures, c.len-2.ensures)) (c.loop-k.invariant q)
