use Rattle.std.proofs.Common.{◌∙◌, List, [], ap, map, subst, refl, rules}
use Rattle.std.specs.Prelude.{None, Ok, Err}
use Rattle.std.proofs.lemmas.Result.{err_from_is_err_and}
use Rattle.lan_model.specs.Plain.{plain_value}
use Rattle.lan_model.specs.PlainTable.{column_of}
use Rattle.lan_model.specs.declared.tree.Field.{Field}
use Rattle.lan_rows.specs.Line.{line_of}
use Rattle.lan_read.specs.Scans.{Looks}
use Rattle.lance_cli.proofs.PassedRows.{asks_err, asks_ok, given_all, lines_wait, looks_kept, looks_none, looks_then, one_line, passed_more, passed_none, passed_unsent, same_on, spends_ok, spends_start, stop_cause, stop_looks, stop_may, unread_stops, unsent_failed}
use Rattle.lance_cli.proofs.scan.pass_rows.Goals as goal

pub loop-row-init : goal.loop-row-init
loop-row-init g c = record {
  same = record { manifest = refl; places = refl };
  going = c.requires.going;
  knows = c.requires.knows;
  printer = refl;
  lines = ([], c.requires.none);
  looked = looks_none (g.S.Store.tells c.args.store.now);
  passed = λ all told start. passed_none all c.args.scan.now (line_of (map column_of c.args.printer.now)) (g.O.Sink.held c.args.out.now) c.args.waiting.now start c.requires.none;
  spent = λ all told due owed. spends_start all c.args.scan.now due (g.S.Store.tells c.args.store.now) owed;
  later = search rules;
}

pub loop-row-preserved : goal.loop-row-preserved
loop-row-preserved g c =
    let l = c.loop-row in
    let line = line_of (map column_of c.args.printer.now) in
    let row = c.in-Ok-Some.row in
    let told_by = rw c.in-Ok-Some.field-0-is at c.in-Ok-Some.ensures in
    let sends = one_line (line_of (map column_of l.printer)) line (map plain_value row) l.waiting c.print_row.new.waiting (g.O.Sink.held l.out) (g.O.Sink.held c.print_row.new.out) (Ok tt) (ap (λ (p : List Field). line_of (map column_of p)) l.invariant.printer) c.in_ok-print_row-in-Ok-Some.ensures.passes in
    let kept = looks_kept None (g.S.Store.tells c.args.store.now) (g.S.Store.tells l.store) l.invariant.looked in
    record {
      same = same_on c.args.scan.now l.scan c.next.new.self l.invariant.same c.next.ensures.same;
      going = c.in-Ok-Some.ensures.failed;
      knows = c.in-Ok-Some.ensures.knows;
      printer = c.print_row.ensures.same ∙ l.invariant.printer;
      lines = lines_wait line (map plain_value row) (g.O.Sink.held l.out) (g.O.Sink.held c.print_row.new.out) l.waiting c.print_row.new.waiting tt l.invariant.lines sends;
      looked = looks_then None (g.S.Store.tells c.args.store.now) (g.S.Store.tells l.store) (g.S.Store.tells c.next.new.store) l.invariant.looked c.in-Ok-Some.ensures.looked;
      passed = λ all told start.
          passed_more all l.scan c.next.new.self line (map plain_value row) (g.O.Sink.held c.args.out.now) (g.O.Sink.held l.out) (g.O.Sink.held c.print_row.new.out) l.waiting c.print_row.new.waiting tt
          (l.invariant.passed all told start) (told_by.gives all (kept ∙ told)) sends;
      spent = λ all told due owed.
          spends_ok all l.scan c.next.new.self due (g.S.Store.tells c.args.store.now) (g.S.Store.tells l.store) (g.S.Store.tells c.next.new.store) (l.invariant.spent all told due owed) (c.in-Ok-Some.ensures.spends all (kept ∙ told));
      later = search rules;
    }

-- ---- the next row wasn't given

pub returns-in-Err-clause-looked : goal.returns-in-Err-clause-looked
returns-in-Err-clause-looked g c =
    let l = c.loop-row in
    rw c.stop_of.ensures
    (looks_then _ (g.S.Store.tells c.args.store.now) (g.S.Store.tells l.store) (g.S.Store.tells c.next.new.store) l.invariant.looked
    (stop_looks c.in-Err.fault (g.S.Store.tells l.store) (g.S.Store.tells c.next.new.store) c.in-Err.ensures.looked))

pub returns-in-Err-clause-passes : goal.returns-in-Err-clause-passes
returns-in-Err-clause-passes g c = λ all told start.
    let l = c.loop-row in
    let kept = looks_kept None (g.S.Store.tells c.args.store.now) (g.S.Store.tells l.store) l.invariant.looked in
    let before = l.invariant.passed all told start in
    rw c.stop_of.ensures
    (unread_stops all c.args.scan.now l.scan (line_of (map column_of c.args.printer.now)) before.given (g.O.Sink.held c.args.out.now) (g.O.Sink.held l.out) l.waiting c.in-Err.fault l.invariant.same before.has before.waits
    (c.in-Err.ensures.gives all (kept ∙ told) before.given before.has))

pub returns-in-Err-clause-stops : goal.returns-in-Err-clause-stops
returns-in-Err-clause-stops g c = rw c.stop_of.ensures (stop_may c.in-Err.fault)

pub returns-in-Err-clause-asks : goal.returns-in-Err-clause-asks
returns-in-Err-clause-asks g c = λ all told due owed.
    let l = c.loop-row in
    let kept = looks_kept None (g.S.Store.tells c.args.store.now) (g.S.Store.tells l.store) l.invariant.looked in
    asks_err all l.scan due (g.S.Store.tells c.args.store.now) (g.S.Store.tells l.store) (g.S.Store.tells c.next.new.store) (l.invariant.spent all told due owed) (c.in-Err.ensures.spends all (kept ∙ told))

pub returns-in-Err-clause-write_cause : goal.returns-in-Err-clause-write_cause
returns-in-Err-clause-write_cause g c = rw c.stop_of.ensures (stop_cause c.in-Err.fault (g.O.Sink.faults c.args.out.now) (g.O.Sink.faults c.loop-row.out) c.loop-row.invariant.later)

-- ---- all rows were given

pub returns-in-Ok-None-clause-looked : goal.returns-in-Ok-None-clause-looked
returns-in-Ok-None-clause-looked g c =
    let l = c.loop-row in
    looks_then None (g.S.Store.tells c.args.store.now) (g.S.Store.tells l.store) (g.S.Store.tells c.next.new.store) l.invariant.looked c.in-Ok-None.ensures.looked

pub returns-in-Ok-None-clause-passes : goal.returns-in-Ok-None-clause-passes
returns-in-Ok-None-clause-passes g c = λ all told start.
    let l = c.loop-row in
    let kept = looks_kept None (g.S.Store.tells c.args.store.now) (g.S.Store.tells l.store) l.invariant.looked in
    let told_by = rw c.in-Ok-None.field-0-is at c.in-Ok-None.ensures in
    let before = l.invariant.passed all told start in
    given_all all c.args.scan.now l.scan (line_of (map column_of c.args.printer.now)) before.given (g.O.Sink.held c.args.out.now) (g.O.Sink.held l.out) l.waiting l.invariant.same (told_by.gives all (kept ∙ told) before.given before.has) before.waits

pub returns-in-Ok-None-clause-asks : goal.returns-in-Ok-None-clause-asks
returns-in-Ok-None-clause-asks g c = λ all told due owed.
    let l = c.loop-row in
    let kept = looks_kept None (g.S.Store.tells c.args.store.now) (g.S.Store.tells l.store) l.invariant.looked in
    asks_ok all c.next.new.self due (g.S.Store.tells c.args.store.now) (g.S.Store.tells c.next.new.store)
    (spends_ok all l.scan c.next.new.self due (g.S.Store.tells c.args.store.now) (g.S.Store.tells l.store) (g.S.Store.tells c.next.new.store) (l.invariant.spent all told due owed) (c.in-Ok-None.ensures.spends all (kept ∙ told)))

-- ---- a row wasn't passed on

pub returns-in_err-print_row-in-Ok-Some-clause-looked : goal.returns-in_err-print_row-in-Ok-Some-clause-looked
returns-in_err-print_row-in-Ok-Some-clause-looked g c =
    let l = c.loop-row in
    let p = err_from_is_err_and c.from_residual.result c.from_residual.ensures.1 in
    let line = line_of (map column_of c.args.printer.now) in
    let row = map plain_value c.in-Ok-Some.row in
    let f = c.in_err-print_row-in-Ok-Some.field-0.0 in
    let sends = one_line (line_of (map column_of l.printer)) line row l.waiting c.print_row.new.waiting (g.O.Sink.held l.out) (g.O.Sink.held c.print_row.new.out) (Err f) (ap (λ (p : List Field). line_of (map column_of p)) l.invariant.printer) c.in_err-print_row-in-Ok-Some.ensures.passes in
    rw (p.1, p.2)
    (looks_then _ (g.S.Store.tells c.args.store.now) (g.S.Store.tells l.store) (g.S.Store.tells c.next.new.store) l.invariant.looked
    (subst (λ o. Looks o (g.S.Store.tells l.store) (g.S.Store.tells c.next.new.store))
    (unsent_failed line row l.waiting c.print_row.new.waiting (g.O.Sink.held l.out) (g.O.Sink.held c.print_row.new.out) f l.invariant.lines sends) c.in-Ok-Some.ensures.looked))

pub returns-in_err-print_row-in-Ok-Some-clause-passes : goal.returns-in_err-print_row-in-Ok-Some-clause-passes
returns-in_err-print_row-in-Ok-Some-clause-passes g c = λ all told start.
    let l = c.loop-row in
    let p = err_from_is_err_and c.from_residual.result c.from_residual.ensures.1 in
    let kept = looks_kept None (g.S.Store.tells c.args.store.now) (g.S.Store.tells l.store) l.invariant.looked in
    let told_by = rw c.in-Ok-Some.field-0-is at c.in-Ok-Some.ensures in
    let line = line_of (map column_of c.args.printer.now) in
    let row = map plain_value c.in-Ok-Some.row in
    let f = c.in_err-print_row-in-Ok-Some.field-0.0 in
    let sends = one_line (line_of (map column_of l.printer)) line row l.waiting c.print_row.new.waiting (g.O.Sink.held l.out) (g.O.Sink.held c.print_row.new.out) (Err f) (ap (λ (p : List Field). line_of (map column_of p)) l.invariant.printer) c.in_err-print_row-in-Ok-Some.ensures.passes in
    rw (p.1, p.2)
    (passed_unsent all c.args.scan.now l.scan c.next.new.self line row (g.O.Sink.held c.args.out.now) (g.O.Sink.held l.out) (g.O.Sink.held c.print_row.new.out) l.waiting c.print_row.new.waiting f
    (same_on c.args.scan.now l.scan c.next.new.self l.invariant.same c.next.ensures.same) (l.invariant.passed all told start) (told_by.gives all (kept ∙ told)) sends)

pub returns-in_err-print_row-in-Ok-Some-clause-asks : goal.returns-in_err-print_row-in-Ok-Some-clause-asks
returns-in_err-print_row-in-Ok-Some-clause-asks g c = λ all told due owed.
    let l = c.loop-row in
    let kept = looks_kept None (g.S.Store.tells c.args.store.now) (g.S.Store.tells l.store) l.invariant.looked in
    asks_ok all c.next.new.self due (g.S.Store.tells c.args.store.now) (g.S.Store.tells c.next.new.store)
    (spends_ok all l.scan c.next.new.self due (g.S.Store.tells c.args.store.now) (g.S.Store.tells l.store) (g.S.Store.tells c.next.new.store) (l.invariant.spent all told due owed) (c.in-Ok-Some.ensures.spends all (kept ∙ told)))
