use Rattle.std.proofs.Common.{◌≡◌, ◌∙◌, ◌+◌, ◌∷◌, ℕ, List, arith, map, subst, sym, take}
use Rattle.std.specs.Prelude.{Some, slice_get}
use Rattle.std.proofs.lemmas.Grind.{drop_more_same}
use Rattle.std.proofs.lemmas.List.{drop-set-lt, length-map, length-set}
use Rattle.std.proofs.lemmas.List.Elements.{All-set}
use Rattle.std.proofs.lemmas.Option.{slice_get_within}
use Rattle.std.proofs.lemmas.Result.{err_from_is_err_and}
use Rattle.std.proofs.lemmas.Slice.Zip.{all_zipped_more}
use Rattle.lan_model.specs.Plain.{PlainField, PlainValue, plain_field, plain_value}
use Rattle.lan_model.specs.PlainTable.{row_of}
use Rattle.lan_model.specs.Table.{FitsRow, IsField}
use Rattle.lan_model.specs.declared.tree.Val.{Val}
use Rattle.lan_store.specs.Budget.{nothing}
use Rattle.lan_read.specs.FieldReaders.{IsValueOf, ReaderHolds, ReaderKnows, ReadsField, values_due}
use Rattle.lan_read.specs.RowValues.{AreValuesOf, IsShallow}
use Rattle.lan_read.proofs.RowLists.{fits_more}
use Rattle.lan_read.proofs.RowReaders.{all_on, can_here, can_long, can_on, due_is, is_one_of, most_is, plain_at, row_more, row_most, rows_due, zip_at, zip_on}
use Rattle.lan_read.proofs.SeekEach.{all_at, at_rest}
use Rattle.lan_read.proofs.Totals.{between_end, between_step, between_stop, total_all, total_step, total_taken}
use Rattle.lan_read.proofs.row_values.row_values.Goals as goal

pub at_mut-requires : goal.at_mut-requires
at_mut-requires g c =
    omega (arith, c.loop-i.invariant.long, can_long (map plain_field c.args.fields.now) c.args.row (c.args.row + 1) c.args.readers.now c.requires.can, length-map c.args.fields.now plain_field)

pub value-requires-clause-field : goal.value-requires-clause-field
value-requires-clause-field g c = all_at IsField (map plain_field c.args.fields.now) c.loop-i.i (plain_field c.at.result.now) c.requires.fields (plain_at c.args.fields.now c.loop-i.i c.at.result.now c.at.ensures)

pub value-requires-clause-layers : goal.value-requires-clause-layers
value-requires-clause-layers g c = all_at IsShallow (map plain_field c.args.fields.now) c.loop-i.i (plain_field c.at.result.now) c.requires.layers (plain_at c.args.fields.now c.loop-i.i c.at.result.now c.at.ensures)

pub value-requires-clause-can : goal.value-requires-clause-can
value-requires-clause-can g c =
    can_here (map plain_field c.args.fields.now) c.args.row c.loop-i.readers c.loop-i.i (plain_field c.at.result.now) c.at_mut.result.now (plain_at c.args.fields.now c.loop-i.i c.at.result.now c.at.ensures) c.at_mut.ensures.value
    (c.loop-i.invariant.can (c.args.row + 1) c.requires.can)

pub value-requires-clause-knows : goal.value-requires-clause-knows
value-requires-clause-knows g c = λ all told. all_at (ReaderKnows all) c.loop-i.readers c.loop-i.i c.at_mut.result.now (c.loop-i.invariant.knows all told) c.at_mut.ensures.value

pub loop-i-preserved : goal.loop-i-preserved
loop-i-preserved g c =
    let l = c.loop-i in
    let was = c.args.readers.now in
    let fields : List (PlainField ℕ) = map plain_field c.args.fields.now in
    let f : PlainField ℕ = plain_field c.at.result.now in
    let x = c.at_mut.result.now in
    let y = c.value.new.self in
    let v = c.in_ok-value.value in
    let row = c.args.row in
    let at : slice_get fields l.i ≡ Some f = plain_at c.args.fields.now l.i c.at.result.now c.at.ensures in
    let here = c.at_mut.ensures.value in
    let there : slice_get was l.i ≡ Some x = at_rest l.readers was l.i x l.invariant.rest here in
    let answered = c.in_ok-value.ensures in
    let More : List Val → Type 0 = λ (values : List Val). FitsRow (take (l.i + 1) fields) (row_of values) in
    record {
      long = length-set l.readers l.i y ∙ l.invariant.long;
      rest = drop-set-lt (l.i + 1) l.readers l.i y (omega arith) ∙ drop_more_same l.readers was l.i l.invariant.rest;
      fits = subst More (sym c.in_ok-push.ensures.ok) (row_more FitsRow fields l.i f l.values v at (fits_more (take l.i fields) f (row_of l.values) (plain_value v) l.invariant.fits answered.fits));
      can = λ count can. can_on fields row count l.readers l.i f x y at here answered.can (l.invariant.can count can);
      knows = λ all told. All-set (ReaderKnows all) l.readers l.i y (answered.knows all told) (l.invariant.knows all (sym answered.looked.kept ∙ told));
      holds = λ objects holds. all_on (ReaderHolds objects) l.readers l.i x y here (answered.holds objects) (l.invariant.holds objects holds);
      reads = λ objects files count reads. zip_on (ReadsField objects files count) fields l.readers l.i f x y at here (answered.reads objects files count) (l.invariant.reads objects files count reads);
      answer = λ all told files count below reads.
          let Values : List Val → Type 0 = λ (values : List Val). AreValuesOf all files count (take (l.i + 1) fields) row (row_of values) in
          let IsValue : PlainField ℕ → PlainValue → Type 0 = λ f v. IsValueOf all files count f row v in
          let reader : ReadsField all files count f x = zip_at (ReadsField all files count) fields l.readers l.i f x (l.invariant.reads all files count reads) at here in
          subst Values (sym c.in_ok-push.ensures.ok) (row_more (λ (fs : List (PlainField ℕ)) (vs : List PlainValue). AreValuesOf all files count fs row vs) fields l.i f l.values v at
          (all_zipped_more IsValue (take l.i fields) (row_of l.values) f (plain_value v) (l.invariant.answer all told files count below reads) (answered.answer all (l.invariant.looked.kept ∙ told) files count below reader)));
      spends = λ all told later holds.
          between_step (rows_due all (row ∷ later)) (rows_due all later) was l.readers l.i x y _ _ _ _ there (slice_get_within l.readers l.i x here) (l.invariant.spends all told later holds)
          (answered.spends all (l.invariant.looked.kept ∙ told) later (all_at (ReaderHolds all) was l.i x holds there));
      looked = c.looks_add_up.ensures.within _ _ _ _ _ (total_step (row_most row) was l.i x there) (c.looks_add_up.ensures.then _ _ _ _ _ _ l.invariant.looked answered.looked);
    }

pub returns-in_err-value-clause-looked : goal.returns-in_err-value-clause-looked
returns-in_err-value-clause-looked g c =
    let l = c.loop-i in
    let was = c.args.readers.now in
    let x = c.at_mut.result.now in
    let there : slice_get was l.i ≡ Some x = at_rest l.readers was l.i x l.invariant.rest c.at_mut.ensures.value in
    let p = err_from_is_err_and c.from_residual.result c.from_residual.ensures.1 in
    rw (p.1, p.2, most_is c.args.row was) (c.looks_add_up.ensures.within _ _ _ _ _ (total_all (row_most c.args.row) was l.i x there) (c.looks_add_up.ensures.then _ _ _ _ _ _ l.invariant.looked c.in_err-value.ensures.looked))

pub returns-in_err-push-clause-looked : goal.returns-in_err-push-clause-looked
returns-in_err-push-clause-looked g c =
    let l = c.loop-i in
    let was = c.args.readers.now in
    let x = c.at_mut.result.now in
    let there : slice_get was l.i ≡ Some x = at_rest l.readers was l.i x l.invariant.rest c.at_mut.ensures.value in
    let p = err_from_is_err_and c.from_residual-in_err-push.result c.from_residual-in_err-push.ensures.1 in
    rw (p.1, p.2, most_is c.args.row was) (c.looks_add_up.ensures.within _ _ _ _ _ (total_all (row_most c.args.row) was l.i x there) (c.looks_add_up.ensures.then _ _ _ _ _ _ l.invariant.looked c.in_ok-value.ensures.looked))

pub returns-clause-looked : goal.returns-clause-looked
returns-clause-looked g c =
    rw (most_is c.args.row c.args.readers.now) (c.looks_add_up.ensures.within _ _ _ _ _ (total_taken (row_most c.args.row) c.args.readers.now c.loop-i.i) c.loop-i.invariant.looked)

pub returns-in_err-value-clause-answer : goal.returns-in_err-value-clause-answer
returns-in_err-value-clause-answer g c = λ all told files count below reads.
    let l = c.loop-i in
    let fields : List (PlainField ℕ) = map plain_field c.args.fields.now in
    let f : PlainField ℕ = plain_field c.at.result.now in
    let at : slice_get fields l.i ≡ Some f = plain_at c.args.fields.now l.i c.at.result.now c.at.ensures in
    let reader : ReadsField all files count f c.at_mut.result.now = zip_at (ReadsField all files count) fields l.readers l.i f c.at_mut.result.now (l.invariant.reads all files count reads) at c.at_mut.ensures.value in
    let p = err_from_is_err_and c.from_residual.result c.from_residual.ensures.1 in
    rw (p.1, p.2) (record { field = f; is_one = is_one_of fields l.i f at; refuses = c.in_err-value.ensures.answer all (l.invariant.looked.kept ∙ told) files count below reader })

pub returns-in_err-push-clause-answer : goal.returns-in_err-push-clause-answer
returns-in_err-push-clause-answer g c = λ all told files count below reads.
    let fields : List (PlainField ℕ) = map plain_field c.args.fields.now in
    let f : PlainField ℕ = plain_field c.at.result.now in
    let p = err_from_is_err_and c.from_residual-in_err-push.result c.from_residual-in_err-push.ensures.1 in
    rw (p.1, p.2) (record { field = f; is_one = is_one_of fields c.loop-i.i f (plain_at c.args.fields.now c.loop-i.i c.at.result.now c.at.ensures); refuses = tt })

pub returns-in_err-value-clause-spends : goal.returns-in_err-value-clause-spends
returns-in_err-value-clause-spends g c = λ all told later holds.
    let l = c.loop-i in
    let was = c.args.readers.now in
    let x = c.at_mut.result.now in
    let there : slice_get was l.i ≡ Some x = at_rest l.readers was l.i x l.invariant.rest c.at_mut.ensures.value in
    let p = err_from_is_err_and c.from_residual.result c.from_residual.ensures.1 in
    rw (p.1, due_is all (c.args.row ∷ later) was) (between_stop (rows_due all (c.args.row ∷ later)) (rows_due all later) was l.readers l.i x nothing _ _ _ _ there (l.invariant.spends all told later holds)
    (c.in_err-value.ensures.spends all (l.invariant.looked.kept ∙ told) later (all_at (ReaderHolds all) was l.i x holds there)))

pub returns-in_err-push-clause-spends : goal.returns-in_err-push-clause-spends
returns-in_err-push-clause-spends g c = λ all told later holds.
    let l = c.loop-i in
    let was = c.args.readers.now in
    let x = c.at_mut.result.now in
    let there : slice_get was l.i ≡ Some x = at_rest l.readers was l.i x l.invariant.rest c.at_mut.ensures.value in
    let p = err_from_is_err_and c.from_residual-in_err-push.result c.from_residual-in_err-push.ensures.1 in
    rw (p.1, due_is all (c.args.row ∷ later) was) (between_stop (rows_due all (c.args.row ∷ later)) (rows_due all later) was l.readers l.i x (values_due all c.value.new.self later) _ _ _ _ there (l.invariant.spends all told later holds)
    (c.in_ok-value.ensures.spends all (l.invariant.looked.kept ∙ told) later (all_at (ReaderHolds all) was l.i x holds there)))

pub returns-clause-spends : goal.returns-clause-spends
returns-clause-spends g c = λ all told later holds.
    let l = c.loop-i in
    let was = c.args.readers.now in
    let as_many = can_long (map plain_field c.args.fields.now) c.args.row (c.args.row + 1) was c.requires.can in
    rw (due_is all (c.args.row ∷ later) was, due_is all later l.readers)
    (between_end (rows_due all (c.args.row ∷ later)) (rows_due all later) was l.readers l.i _ _ _ (omega (arith, l.invariant.long, as_many, length-map c.args.fields.now plain_field)) (l.invariant.spends all told later holds))
