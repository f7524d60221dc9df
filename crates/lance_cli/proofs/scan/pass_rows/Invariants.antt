use Rattle.std.proofs.Common.{◌≡◌, ◌≤◌, [], map, false}
use Rattle.std.specs.Prelude.{None}
use Rattle.std.specs.Option.{ForSome}
use Rattle.lan_model.specs.PlainTable.{column_of}
use Rattle.lan_rows.specs.Line.{line_of}
use Rattle.lan_store.specs.Budget.{Budget}
use Rattle.lan_read.specs.Scans.{HasGiven, Looks, ScanDue, ScanKnows, ScansSame, rows_left}
use Rattle.lance_cli.proofs.PassedRows.{AreLines, Passed, SpendsTo}
use Rattle.lance_cli.proofs.scan.pass_rows.Given as goal

abbrev pub invariant-loop-row : goal.invariant-loop-row
invariant-loop-row g l = record {
  same : ScansSame l.initial.scan l.scan;
  going : l.scan.failed ≡ false;
  knows : ForSome (g.S.Store.tells l.store).objects (λ all. ScanKnows all l.scan);
  printer : l.printer ≡ l.initial.printer;
  lines : AreLines (line_of (map column_of l.initial.printer)) l.waiting;
  looked : Looks None (g.S.Store.tells l.initial.store) (g.S.Store.tells l.store);
  passed : ForSome (g.S.Store.tells l.initial.store).objects (λ all. HasGiven all l.initial.scan [] → Passed all l.scan (line_of (map column_of l.initial.printer)) (g.O.Sink.held l.initial.out) (g.O.Sink.held l.out) l.waiting);
  spent : ForSome (g.S.Store.tells l.initial.store).objects (λ all. (due : Budget) → ScanDue all l.initial.scan due → SpendsTo all l.scan due (g.S.Store.tells l.initial.store) (g.S.Store.tells l.store));
  later : g.O.Sink.faults l.initial.out ≤ g.O.Sink.faults l.out;
}

abbrev pub decreases-loop-row : goal.decreases-loop-row
decreases-loop-row g l = rows_left l.scan
