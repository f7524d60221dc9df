use Rattle.std.proofs.Common.{◌≡◌, ◌∙◌, ◌+◌, ◌∷◌, arith, refl, subst, sym}
use Rattle.std.specs.Prelude.{Some, slice_get}
use Rattle.std.proofs.lemmas.Grind.{drop_more_same}
use Rattle.std.proofs.lemmas.List.{length-set, drop-set-lt}
use Rattle.std.proofs.lemmas.List.Elements.{All-nil, All-set}
use Rattle.std.proofs.lemmas.Result.{err_from_is_err_and}
use Rattle.lan_page.specs.ColumnBudgets.{still_due}
use Rattle.lan_page.specs.ColumnCursors.{IsAt, PlainCursor}
use Rattle.lan_store.specs.Budget.{Spends, nothing}
use Rattle.lan_store.specs.declared.name.Name.{Name}
use Rattle.lan_store.specs.Objects.{object}
use Rattle.lan_read.specs.FieldReaders.{HoldsIn, MayAsk}
use Rattle.lan_read.specs.Joining.{KnowsIn}
use Rattle.lan_read.proofs.SeekEach.{all_at, all_more, all_taken, at_rest, most_all, most_ended, most_step, same_columns}
use Rattle.lan_read.proofs.ValuesDue.{due_end, due_in, due_step, due_stop, spends_not}
use Rattle.lan_read.proofs.field_reader.seek_each.Goals as goal

pub loop-i-init : goal.loop-i-init
loop-i-init g c = record {
  long = refl;
  rest = refl;
  same = refl;
  at = All-nil (λ (x : PlainCursor). IsAt x c.args.row);
  knows = c.requires.knows;
  spends = λ all told later holds. spends_not _ _ (g.S.Store.tells c.args.store.now) (record { ranges = omega arith; bytes = omega arith });
  looked = c.looks_add_up.ensures.none nothing (g.S.Store.tells c.args.store.now);
}

pub seek-requires-clause-may : goal.seek-requires-clause-may
seek-requires-clause-may g c =
    let l = c.loop-i in
    let was = c.args.cursors.now in
    all_at (MayAsk c.args.row) was l.i c.at_mut.result.now c.requires.may (at_rest l.cursors was l.i c.at_mut.result.now l.invariant.rest c.at_mut.ensures.value)

pub seek-requires-clause-knows : goal.seek-requires-clause-knows
seek-requires-clause-knows g c = λ all told. all_at (KnowsIn all) c.loop-i.cursors c.loop-i.i c.at_mut.result.now (c.loop-i.invariant.knows all told) c.at_mut.ensures.value

pub loop-i-preserved : goal.loop-i-preserved
loop-i-preserved g c =
    let l = c.loop-i in
    let was = c.args.cursors.now in
    let x = c.at_mut.result.now in
    let y = c.seek.new.cursor in
    let here = c.at_mut.ensures.value in
    let at : slice_get was l.i ≡ Some x = at_rest l.cursors was l.i x l.invariant.rest here in
    record {
      long = length-set l.cursors l.i y ∙ l.invariant.long;
      rest = drop-set-lt (l.i + 1) l.cursors l.i y (omega arith) ∙ drop_more_same l.cursors was l.i l.invariant.rest;
      same = same_columns l.cursors l.i x y here c.in_ok-seek.ensures.same ∙ l.invariant.same;
      at = all_more (λ (x : PlainCursor). IsAt x c.args.row) l.cursors l.i y (omega arith) l.invariant.at c.in_ok-seek.ensures.at;
      knows = λ all told. All-set (KnowsIn all) l.cursors l.i y (c.in_ok-seek.ensures.knows all told) (l.invariant.knows all (sym c.in_ok-seek.ensures.looked.kept ∙ told));
      spends = λ all told later holds.
          let Left : Name → Type 0 = λ n. Spends (due_in all x (c.args.row ∷ later)) (still_due y (object all n) later) (g.S.Store.tells l.store) (g.S.Store.tells c.seek.new.store) in
          due_step all was l.cursors l.i c.args.row later x y _ _ _ _ at (omega arith) (l.invariant.spends all told later holds)
          (subst Left (sym c.in_ok-seek.ensures.same.name) (c.in_ok-seek.ensures.spends all (l.invariant.looked.kept ∙ told) later (all_at (HoldsIn all) was l.i x holds at)));
      looked = c.looks_add_up.ensures.within _ _ _ _ _ (most_step c.args.row was l.i x at) (c.looks_add_up.ensures.then _ _ _ _ _ _ l.invariant.looked c.in_ok-seek.ensures.looked);
    }

pub returns-in_err-seek-clause-looked : goal.returns-in_err-seek-clause-looked
returns-in_err-seek-clause-looked g c =
    let l = c.loop-i in
    let was = c.args.cursors.now in
    let x = c.at_mut.result.now in
    let at : slice_get was l.i ≡ Some x = at_rest l.cursors was l.i x l.invariant.rest c.at_mut.ensures.value in
    let p = err_from_is_err_and c.from_residual.result c.from_residual.ensures.1 in
    rw (p.1, p.2) (c.looks_add_up.ensures.within _ _ _ _ _ (most_all c.args.row was l.i x at) (c.looks_add_up.ensures.then _ _ _ _ _ _ l.invariant.looked c.in_err-seek.ensures.looked))

pub returns-in_err-seek-clause-reason : goal.returns-in_err-seek-clause-reason
returns-in_err-seek-clause-reason g c = λ all told.
    let l = c.loop-i in
    let was = c.args.cursors.now in
    let x = c.at_mut.result.now in
    let at : slice_get was l.i ≡ Some x = at_rest l.cursors was l.i x l.invariant.rest c.at_mut.ensures.value in
    let p = err_from_is_err_and c.from_residual.result c.from_residual.ensures.1 in
    rw (p.1, p.2) (record { place = l.i; cursor = x; at = at; refuses = c.in_err-seek.ensures.reason all (l.invariant.looked.kept ∙ told) })

pub returns-clause-looked : goal.returns-clause-looked
returns-clause-looked g c = c.looks_add_up.ensures.within _ _ _ _ _ (most_ended c.args.row c.args.cursors.now c.loop-i.i) c.loop-i.invariant.looked

pub returns-clause-at : goal.returns-clause-at
returns-clause-at g c = all_taken (λ (x : PlainCursor). IsAt x c.args.row) c.loop-i.cursors c.loop-i.i (omega (arith, c.loop-i.invariant.long)) c.loop-i.invariant.at

pub returns-in_err-seek-clause-spends : goal.returns-in_err-seek-clause-spends
returns-in_err-seek-clause-spends g c = λ all told later holds.
    let l = c.loop-i in
    let was = c.args.cursors.now in
    let x = c.at_mut.result.now in
    let at : slice_get was l.i ≡ Some x = at_rest l.cursors was l.i x l.invariant.rest c.at_mut.ensures.value in
    let p = err_from_is_err_and c.from_residual.result c.from_residual.ensures.1 in
    rw p.1 (due_stop all was l.cursors l.i c.args.row later x _ _ _ _ at (l.invariant.spends all told later holds) (c.in_err-seek.ensures.spends all (l.invariant.looked.kept ∙ told) later (all_at (HoldsIn all) was l.i x holds at)))

pub returns-clause-spends : goal.returns-clause-spends
returns-clause-spends g c = λ all told later holds.
    due_end all c.args.cursors.now c.loop-i.cursors c.loop-i.i c.args.row later _ _ _ (omega (arith, c.loop-i.invariant.long)) (c.loop-i.invariant.spends all told later holds)
