use Rattle.std.proofs.Common.{ap, subst}
use Rattle.std.specs.Prelude.{None, Err}
use Rattle.std.proofs.lemmas.Result.{err_from_is_err_and}
use Rattle.lan_manifest.specs.Manifests.{plain_manifest}
use Rattle.lan_store.specs.Budget.{ranges}
use Rattle.lan_store.specs.Looked.{Looked}
use Rattle.lance_cli.proofs.Failing.{commit_unfailing}
use Rattle.lance_cli.proofs.Planned.{both_read, planned_restore, unplanned_restore}
use Rattle.lance_cli.proofs.VersionOpened.{listed_old, newest_unopened, opened_as}
use Rattle.lance_cli.proofs.restore.plan_as.Goals as goal

pub returns-in_err-open_version-clause-plans : goal.returns-in_err-open_version-clause-plans
returns-in_err-open_version-clause-plans g c = λ version line lines opened.
    let p = err_from_is_err_and c.from_residual.result c.from_residual.ensures.1 in
    rw (p.1, p.2)
    (newest_unopened (g.S.Store.tells c.args.store.now).objects version line lines c.in_err-open_version.field-0.0 (λ all told. listed_old all version c.args.old.version (opened all told).0)
    (λ n newest is. c.in_err-open_version.ensures.named n newest (ap (λ f. Err f) is)) c.in_err-open_version.ensures.opens)

pub returns-in_err-objects-clause-plans : goal.returns-in_err-objects-clause-plans
returns-in_err-objects-clause-plans g c = λ version line lines opened.
    let p = err_from_is_err_and c.from_residual-in_err-objects.result c.from_residual-in_err-objects.ensures.1 in
    let before = (g.S.Store.tells c.args.store.now).objects in
    let newest = c.into_manifest-newest.result in
    let opens = opened_as before None newest c.in_ok-open_version.field-0 c.into_manifest-newest.ensures.manifest c.in_ok-open_version.ensures.opens in
    rw (p.1, p.2) (unplanned_restore before version line lines (plain_manifest newest) (plain_manifest c.args.old) c.in_err-objects.field-0.0 (both_read before version newest c.args.old opens opened) c.in_err-objects.ensures.prepares)

pub returns-in_err-objects-clause-looked : goal.returns-in_err-objects-clause-looked
returns-in_err-objects-clause-looked g c =
    let p = err_from_is_err_and c.from_residual-in_err-objects.result c.from_residual-in_err-objects.ensures.1 in
    rw (p.1, p.2)
    (subst (λ o. Looked o (ranges 1) (g.S.Store.tells c.args.store.now) (g.S.Store.tells c.open_version.new.store)) (commit_unfailing c.in_err-objects.field-0.0 (λ name is. c.in_err-objects.ensures.unfailing name (ap (λ f. Err f) is))) c.in_ok-open_version.ensures.looked)

pub returns-clause-plans : goal.returns-clause-plans
returns-clause-plans g c = λ version line lines opened.
    let before = (g.S.Store.tells c.args.store.now).objects in
    let newest = c.into_manifest-newest.result in
    let opens = opened_as before None newest c.in_ok-open_version.field-0 c.into_manifest-newest.ensures.manifest c.in_ok-open_version.ensures.opens in
    planned_restore before version line lines (plain_manifest newest) (plain_manifest c.args.old) c.in_ok-objects.objects (both_read before version newest c.args.old opens opened) c.in_ok-objects.ensures.prepares
