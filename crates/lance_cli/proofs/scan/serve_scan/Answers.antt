use Rattle.std.proofs.Common.{◌∙◌, ◌<◌, List, length, map, refl, subst}
use Rattle.std.specs.Prelude.{All, Err}
use Rattle.std.proofs.lemmas.Result.{err_from_is_err_and}
use Rattle.lan_model.specs.PlainTable.{column_of}
use Rattle.lan_model.specs.declared.tree.Field.{Field}
use Rattle.lan_manifest.specs.Manifests.{plain_manifest}
use Rattle.lan_store.specs.Budget.{ranges}
use Rattle.lan_store.specs.Looked.{Fails}
use Rattle.lance_cli.specs.Options.{plain_options}
use Rattle.lance_cli.specs.Printing.{FindsPlaces}
use Rattle.lance_cli.specs.Scanning.{places_asked}
use Rattle.lance_cli.proofs.Failing.{read_looked}
use Rattle.lance_cli.proofs.PassedRows.{looks_kept, looks_then}
use Rattle.lance_cli.proofs.ServedScans.{asks_manifest, asks_rows, is_scanned, printed_scan, unfound_cause, unfound_failed, unfound_scan, unopened_cause, unopened_scan}
use Rattle.lance_cli.proofs.scan.serve_scan.Goals as goal

-- ---- the version wasn't opened

pub returns-in_err-snapshot-clause-served : goal.returns-in_err-snapshot-clause-served
returns-in_err-snapshot-clause-served g c = λ line lines.
    let p = err_from_is_err_and c.from_residual.result c.from_residual.ensures.1 in
    rw (p.1, p.2)
    (unopened_scan (record { before = (g.S.Store.tells c.args.store.now).objects; now = (g.S.Store.tells c.open_version.new.store).objects; held = g.O.Sink.held c.args.out.now; holds = g.O.Sink.held c.args.out.now }) (plain_options c.args.options.now) line lines
    c.in_err-snapshot.field-0.0 c.open_version.ensures.looked.kept refl (λ number newest is. c.in_err-snapshot.ensures.named number newest (cc is)) c.in_err-snapshot.ensures.opens)

pub returns-in_err-snapshot-clause-fails : goal.returns-in_err-snapshot-clause-fails
returns-in_err-snapshot-clause-fails g c =
    let p = err_from_is_err_and c.from_residual.result c.from_residual.ensures.1 in
    rw (p.1, p.2) (read_looked c.in_err-snapshot.field-0.0 (ranges 1) (g.S.Store.tells c.args.store.now) (g.S.Store.tells c.open_version.new.store) c.in_err-snapshot.ensures.looked).fails

pub returns-in_err-snapshot-clause-asks : goal.returns-in_err-snapshot-clause-asks
returns-in_err-snapshot-clause-asks g c = λ all told. asks_manifest all (plain_options c.args.options.now) (g.S.Store.tells c.args.store.now) (g.S.Store.tells c.open_version.new.store) c.open_version.ensures.looked.asks

pub returns-in_err-snapshot-clause-write_cause : goal.returns-in_err-snapshot-clause-write_cause
returns-in_err-snapshot-clause-write_cause g c =
    let p = err_from_is_err_and c.from_residual.result c.from_residual.ensures.1 in
    rw (p.1, p.2) (unopened_cause c.in_err-snapshot.field-0.0 (g.O.Sink.faults c.args.out.now))

-- ---- a column wasn't found

pub returns-in_err-places-clause-served : goal.returns-in_err-places-clause-served
returns-in_err-places-clause-served g c = λ line lines.
    let p = err_from_is_err_and c.from_residual-in_err-places.result c.from_residual-in_err-places.ensures.1 in
    rw (p.1, p.2)
    (unfound_scan (record { before = (g.S.Store.tells c.args.store.now).objects; now = (g.S.Store.tells c.open_version.new.store).objects; held = g.O.Sink.held c.args.out.now; holds = g.O.Sink.held c.args.out.now }) (plain_options c.args.options.now) line lines
    c.in_ok-snapshot.snapshot c.in_err-places.field-0.0 c.open_version.ensures.looked.kept refl c.in_ok-snapshot.ensures.opens
    (subst (λ (fields : List Field). FindsPlaces (places_asked (map column_of fields) c.args.options.now.columns) (Err c.in_err-places.field-0.0)) c.fields.ensures c.in_err-places.ensures.finds))

pub returns-in_err-places-clause-fails : goal.returns-in_err-places-clause-fails
returns-in_err-places-clause-fails g c =
    let p = err_from_is_err_and c.from_residual-in_err-places.result c.from_residual-in_err-places.ensures.1 in
    rw (p.1, p.2)
    (subst (λ o. Fails o (g.S.Store.tells c.args.store.now) (g.S.Store.tells c.open_version.new.store)) (unfound_failed (places_asked (map column_of c.fields.result.now) c.args.options.now.columns) c.in_err-places.field-0.0 c.in_err-places.ensures.finds)
    c.in_ok-snapshot.ensures.looked.fails)

pub returns-in_err-places-clause-asks : goal.returns-in_err-places-clause-asks
returns-in_err-places-clause-asks g c = λ all told. asks_manifest all (plain_options c.args.options.now) (g.S.Store.tells c.args.store.now) (g.S.Store.tells c.open_version.new.store) c.open_version.ensures.looked.asks

pub returns-in_err-places-clause-write_cause : goal.returns-in_err-places-clause-write_cause
returns-in_err-places-clause-write_cause g c =
    let p = err_from_is_err_and c.from_residual-in_err-places.result c.from_residual-in_err-places.ensures.1 in
    rw (p.1, p.2) (unfound_cause (places_asked (map column_of c.fields.result.now) c.args.options.now.columns) c.in_err-places.field-0.0 (g.O.Sink.faults c.args.out.now) c.in_err-places.ensures.finds)

-- ---- the rows

pub print_places-requires : goal.print_places-requires
print_places-requires g c = subst (λ (fields : List Field). All (λ place. place < length fields) c.in_ok-places.places) c.fields.ensures c.in_ok-places.ensures.there

pub returns-clause-served : goal.returns-clause-served
returns-clause-served g c = λ line lines.
    let options = plain_options c.args.options.now in
    let m = c.in_ok-snapshot.snapshot in
    let kept = c.open_version.ensures.looked.kept in
    let found = rw c.fields.ensures at c.in_ok-places.ensures.finds in
    printed_scan (record { before = (g.S.Store.tells c.args.store.now).objects; now = (g.S.Store.tells c.print_places.new.store).objects; held = g.O.Sink.held c.args.out.now; holds = g.O.Sink.held c.print_places.new.out }) options line lines (plain_manifest m) c.in_ok-places.places
    c.print_places.result (looks_kept _ (g.S.Store.tells c.open_version.new.store) (g.S.Store.tells c.print_places.new.store) c.print_places.ensures.looked ∙ kept)
    (λ all told. is_scanned all options m c.in_ok-places.places (c.in_ok-snapshot.ensures.opens all told) found) c.print_places.ensures.stops (λ all told. c.print_places.ensures.prints all (kept ∙ told))

pub returns-clause-fails : goal.returns-clause-fails
returns-clause-fails g c =
    (looks_then _ (g.S.Store.tells c.args.store.now) (g.S.Store.tells c.open_version.new.store) (g.S.Store.tells c.print_places.new.store) (ranges 1, c.in_ok-snapshot.ensures.looked) c.print_places.ensures.looked).1.fails

pub returns-clause-clashes : goal.returns-clause-clashes
returns-clause-clashes g c =
    (looks_then _ (g.S.Store.tells c.args.store.now) (g.S.Store.tells c.open_version.new.store) (g.S.Store.tells c.print_places.new.store) (ranges 1, c.in_ok-snapshot.ensures.looked) c.print_places.ensures.looked).1.clashes

pub returns-clause-asks : goal.returns-clause-asks
returns-clause-asks g c = λ all told.
    let options = plain_options c.args.options.now in
    let m = c.in_ok-snapshot.snapshot in
    let found = rw c.fields.ensures at c.in_ok-places.ensures.finds in
    asks_rows all options m c.in_ok-places.places (g.S.Store.tells c.args.store.now) (g.S.Store.tells c.open_version.new.store) (g.S.Store.tells c.print_places.new.store) (is_scanned all options m c.in_ok-places.places (c.in_ok-snapshot.ensures.opens all told) found)
    c.open_version.ensures.looked.asks (c.print_places.ensures.asks all (c.open_version.ensures.looked.kept ∙ told))
