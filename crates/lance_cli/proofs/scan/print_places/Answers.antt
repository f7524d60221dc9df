use Rattle.std.proofs.Common.{map, subst, sym}
use Rattle.std.proofs.lemmas.Result.{err_from_is_err_and}
use Rattle.lan_model.specs.PlainTable.{column_of}
use Rattle.lan_rows.specs.Line.{line_of}
use Rattle.lan_read.specs.Scans.{Looks, PlainScan, ScanDue}
use Rattle.lance_cli.proofs.PassedRows.{asks_none, flushed_places, line_is, looks_none, unbegun_places, unflushed_failed, unflushed_may, unpassed_places}
use Rattle.lance_cli.proofs.scan.print_places.Goals as goal

-- ---- before the first row

pub returns-in_err-fields-clause-prints : goal.returns-in_err-fields-clause-prints
returns-in_err-fields-clause-prints g c = λ all told.
    let p = err_from_is_err_and c.from_residual.result c.from_residual.ensures.1 in
    rw (p.1, p.2) (unbegun_places all c.args.snapshot.now c.args.places (g.O.Sink.held c.args.out.now))

pub returns-in_err-fields-clause-looked : goal.returns-in_err-fields-clause-looked
returns-in_err-fields-clause-looked g c =
    let p = err_from_is_err_and c.from_residual.result c.from_residual.ensures.1 in
    rw (p.1, p.2) (looks_none (g.S.Store.tells c.args.store.now))

pub returns-in_err-fields-clause-asks : goal.returns-in_err-fields-clause-asks
returns-in_err-fields-clause-asks g c = λ all told due owed. asks_none due (g.S.Store.tells c.args.store.now)

pub returns-in_err-waiting-clause-prints : goal.returns-in_err-waiting-clause-prints
returns-in_err-waiting-clause-prints g c = λ all told.
    let p = err_from_is_err_and c.from_residual-in_err-waiting.result c.from_residual-in_err-waiting.ensures.1 in
    rw (p.1, p.2) (unbegun_places all c.args.snapshot.now c.args.places (g.O.Sink.held c.args.out.now))

pub returns-in_err-waiting-clause-looked : goal.returns-in_err-waiting-clause-looked
returns-in_err-waiting-clause-looked g c =
    let p = err_from_is_err_and c.from_residual-in_err-waiting.result c.from_residual-in_err-waiting.ensures.1 in
    rw (p.1, p.2) (looks_none (g.S.Store.tells c.args.store.now))

pub returns-in_err-waiting-clause-asks : goal.returns-in_err-waiting-clause-asks
returns-in_err-waiting-clause-asks g c = λ all told due owed. asks_none due (g.S.Store.tells c.args.store.now)

pub returns-in_err-scan-clause-prints : goal.returns-in_err-scan-clause-prints
returns-in_err-scan-clause-prints g c = λ all told.
    let p = err_from_is_err_and c.from_residual-in_err-scan.result c.from_residual-in_err-scan.ensures.1 in
    rw (p.1, p.2) (unbegun_places all c.args.snapshot.now c.args.places (g.O.Sink.held c.args.out.now))

pub returns-in_err-scan-clause-looked : goal.returns-in_err-scan-clause-looked
returns-in_err-scan-clause-looked g c =
    let p = err_from_is_err_and c.from_residual-in_err-scan.result c.from_residual-in_err-scan.ensures.1 in
    rw (p.1, p.2) (looks_none (g.S.Store.tells c.args.store.now))

pub returns-in_err-scan-clause-asks : goal.returns-in_err-scan-clause-asks
returns-in_err-scan-clause-asks g c = λ all told due owed. asks_none due (g.S.Store.tells c.args.store.now)

-- ---- the rows

pub returns-in_err-pass_rows-clause-prints : goal.returns-in_err-pass_rows-clause-prints
returns-in_err-pass_rows-clause-prints g c = λ all told.
    let p = err_from_is_err_and c.from_residual-in_err-pass_rows.result c.from_residual-in_err-pass_rows.ensures.1 in
    let m = c.args.snapshot.now in
    let picked = rw c.fields.ensures at c.in_ok-fields.ensures in
    rw (p.1, p.2)
    (unpassed_places all m c.args.places c.in_ok-scan.scan (line_of (map column_of c.new-printer.result)) c.pass_rows.new.waiting (g.O.Sink.held c.args.out.now) (g.O.Sink.held c.pass_rows.new.out) c.in_err-pass_rows.field-0.0 c.in_ok-scan.ensures
    (line_is m.fields c.in_ok-fields.fields c.new-printer.result c.args.places c.new-printer.ensures picked) (c.in_err-pass_rows.ensures.passes all told))

pub returns-in_err-pass_rows-clause-looked : goal.returns-in_err-pass_rows-clause-looked
returns-in_err-pass_rows-clause-looked g c =
    let p = err_from_is_err_and c.from_residual-in_err-pass_rows.result c.from_residual-in_err-pass_rows.ensures.1 in
    rw (p.1, p.2) c.in_err-pass_rows.ensures.looked

pub returns-in_err-pass_rows-clause-asks : goal.returns-in_err-pass_rows-clause-asks
returns-in_err-pass_rows-clause-asks g c = λ all told due owed. c.pass_rows.ensures.asks all told due (subst (λ (s : PlainScan). ScanDue all s due) (sym c.in_ok-scan.ensures) owed)

pub returns-clause-prints : goal.returns-clause-prints
returns-clause-prints g c = λ all told.
    let m = c.args.snapshot.now in
    let picked = rw c.fields.ensures at c.in_ok-fields.ensures in
    flushed_places all m c.args.places c.in_ok-scan.scan (line_of (map column_of c.new-printer.result)) c.pass_rows.new.waiting c.flush.new.waiting (g.O.Sink.held c.args.out.now) (g.O.Sink.held c.pass_rows.new.out) (g.O.Sink.held c.flush.new.out) c.flush.result _ c.in_ok-scan.ensures
    (line_is m.fields c.in_ok-fields.fields c.new-printer.result c.args.places c.new-printer.ensures picked) (c.in_ok-pass_rows.ensures.passes all told) c.flush.ensures.passes c.flush.ensures.ok

pub returns-clause-looked : goal.returns-clause-looked
returns-clause-looked g c =
    subst (λ o. Looks o (g.S.Store.tells c.args.store.now) (g.S.Store.tells c.pass_rows.new.store))
    (unflushed_failed c.pass_rows.new.waiting c.flush.new.waiting (g.O.Sink.held c.pass_rows.new.out) (g.O.Sink.held c.flush.new.out) c.flush.result c.flush.ensures.passes) c.in_ok-pass_rows.ensures.looked

pub returns-clause-stops : goal.returns-clause-stops
returns-clause-stops g c = unflushed_may c.pass_rows.new.waiting c.flush.new.waiting (g.O.Sink.held c.pass_rows.new.out) (g.O.Sink.held c.flush.new.out) c.flush.result c.flush.ensures.passes

pub returns-clause-asks : goal.returns-clause-asks
returns-clause-asks g c = λ all told due owed. c.pass_rows.ensures.asks all told due (subst (λ (s : PlainScan). ScanDue all s due) (sym c.in_ok-scan.ensures) owed)
