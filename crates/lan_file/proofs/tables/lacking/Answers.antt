use Rattle.std.proofs.Common.{◌<◌, refl, sym, subst, List}
use Rattle.std.specs.Prelude.{All}
use Rattle.std.proofs.lemmas.List.{take_all}
use Rattle.std.proofs.lemmas.List.Elements.{All-more}
use Rattle.lan_file.specs.declared.head.ColumnPick.{ColumnPick}
use Rattle.lan_file.proofs.tables.lacking.Goals as goal

pub returns-then-pick-columns : goal.returns-then-pick-columns
returns-then-pick-columns c = record {
  pick = c.pick-item.result;
  asked = (c.loop-pick.pick-index, c.loop-pick-test.true, sym c.pick-item.is);
  is = refl;
  lacks = c.if-pick-columns.true;
}

pub loop-pick-preserved : goal.loop-pick-preserved
loop-pick-preserved c =
    let P : ColumnPick → Type 0 = λ pick. pick.column < c.args.columns in
    All-more P c.args.picks.now c.loop-pick.pick-index c.pick-item.result c.loop-pick-test.true c.loop-pick.invariant (subst P c.pick-item.is c.if-pick-columns.false)

pub returns : goal.returns
returns c =
    let P : List ColumnPick → Type 0 = λ picks. All (λ (pick : ColumnPick). pick.column < c.args.columns) picks in
    subst P (take_all c.loop-pick.pick-index c.args.picks.now c.loop-pick-test.false) c.loop-pick.invariant
