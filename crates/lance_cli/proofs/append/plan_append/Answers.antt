use Rattle.std.proofs.Common.{◌∙◌, ap, subst, map, []}
use Rattle.std.specs.Prelude.{None, Ok, Err}
use Rattle.std.proofs.lemmas.Result.{err_from_is_err_and}
use Rattle.lan_model.specs.Plain.{plain_field}
use Rattle.lan_model.specs.PlainTable.{column_of}
use Rattle.lan_rows.specs.Lines.{rows_of, cut}
use Rattle.lan_manifest.specs.Manifests.{plain_manifest}
use Rattle.lan_store.specs.Budget.{ranges}
use Rattle.lance_cli.specs.Lines.{RowsAre}
use Rattle.lance_cli.proofs.Failing.{commit_looked}
use Rattle.lance_cli.proofs.Planned.{opened_columns, planned_append, rows_read, unplanned_append, unread_rows}
use Rattle.lance_cli.proofs.VersionOpened.{append_unopened, newest_opened, opened_as}
use Rattle.lance_cli.proofs.append.plan_append.Goals as goal

pub returns-in_err-open_version-clause-plans : goal.returns-in_err-open_version-clause-plans
returns-in_err-open_version-clause-plans g c = λ line.
    let p = err_from_is_err_and c.from_residual.result c.from_residual.ensures.1 in
    rw (p.1, p.2)
    (append_unopened (g.S.Store.tells c.args.store.now).objects line (cut 1 [] c.args.text.items) c.in_err-open_version.field-0.0
    (λ n newest is. c.in_err-open_version.ensures.named n newest (ap (λ f. Err f) is)) c.in_err-open_version.ensures.opens)

pub rows_in-requires-clause-columns : goal.rows_in-requires-clause-columns
rows_in-requires-clause-columns g c = opened_columns c.into_manifest-manifest.result c.in_ok-open_version.field-0 c.into_manifest-manifest.ensures.manifest c.into_manifest-manifest.ensures.opened

pub returns-in_err-rows-clause-plans : goal.returns-in_err-rows-clause-plans
returns-in_err-rows-clause-plans g c = λ line.
    let p = err_from_is_err_and c.from_residual-in_err-rows.result c.from_residual-in_err-rows.ensures.1 in
    let before = (g.S.Store.tells c.args.store.now).objects in
    let m = c.into_manifest-manifest.result in
    let opens = opened_as before None m c.in_ok-open_version.field-0 c.into_manifest-manifest.ensures.manifest c.in_ok-open_version.ensures.opens in
    rw (p.1, p.2)
    (unread_rows before m line (cut 1 [] c.args.text.items) c.in_err-rows.field-0.0 (newest_opened before m opens)
    (subst (λ text. RowsAre (map plain_field m.fields) (rows_of (map column_of m.fields) (cut 1 [] text)) (Err c.in_err-rows.field-0.0)) c.deref.ensures.value c.in_err-rows.ensures.rows))

pub returns-in_err-objects-clause-plans : goal.returns-in_err-objects-clause-plans
returns-in_err-objects-clause-plans g c = λ line.
    let p = err_from_is_err_and c.from_residual-in_err-objects.result c.from_residual-in_err-objects.ensures.1 in
    let before = (g.S.Store.tells c.args.store.now).objects in
    let m = c.into_manifest-manifest.result in
    let lines = cut 1 [] c.args.text.items in
    let opens = opened_as before None m c.in_ok-open_version.field-0 c.into_manifest-manifest.ensures.manifest c.in_ok-open_version.ensures.opens in
    let k = subst (λ text. RowsAre (map plain_field m.fields) (rows_of (map column_of m.fields) (cut 1 [] text)) (Ok c.in_ok-rows.rows)) c.deref.ensures.value c.in_ok-rows.ensures.rows in
    rw (p.1, p.2)
    (unplanned_append before (plain_manifest m) line lines k.rows c.in_err-objects.field-0.0 (rows_read before m lines c.in_ok-rows.rows (newest_opened before m opens) k)
    (λ all told. c.in_err-objects.ensures.prepares k.rows k.has all (c.open_version.ensures.looked.kept ∙ told)) c.in_err-objects.ensures.stops)

pub returns-in_err-objects-clause-looked : goal.returns-in_err-objects-clause-looked
returns-in_err-objects-clause-looked g c =
    let p = err_from_is_err_and c.from_residual-in_err-objects.result c.from_residual-in_err-objects.ensures.1 in
    rw (p.1, p.2) (commit_looked c.in_err-objects.field-0.0 (ranges 1) _ _ (c.looks_add_up.ensures.then _ _ _ _ _ _ c.in_ok-open_version.ensures.looked c.in_err-objects.ensures.looked))

pub returns-clause-plans : goal.returns-clause-plans
returns-clause-plans g c = λ line.
    let before = (g.S.Store.tells c.args.store.now).objects in
    let m = c.into_manifest-manifest.result in
    let lines = cut 1 [] c.args.text.items in
    let opens = opened_as before None m c.in_ok-open_version.field-0 c.into_manifest-manifest.ensures.manifest c.in_ok-open_version.ensures.opens in
    let k = subst (λ text. RowsAre (map plain_field m.fields) (rows_of (map column_of m.fields) (cut 1 [] text)) (Ok c.in_ok-rows.rows)) c.deref.ensures.value c.in_ok-rows.ensures.rows in
    planned_append before (plain_manifest m) line lines k.rows c.in_ok-objects.objects (rows_read before m lines c.in_ok-rows.rows (newest_opened before m opens) k)
    (λ all told. c.in_ok-objects.ensures.prepares k.rows k.has all (c.open_version.ensures.looked.kept ∙ told))

pub returns-clause-looked : goal.returns-clause-looked
returns-clause-looked g c = c.looks_add_up.ensures.then _ _ _ _ _ _ c.in_ok-open_version.ensures.looked c.in_ok-objects.ensures.looked
