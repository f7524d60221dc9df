use Rattle.std.proofs.Common.{ap}
use Rattle.std.specs.Prelude.{Err}
use Rattle.std.proofs.lemmas.Result.{err_from_is_err_and}
use Rattle.lance_cli.proofs.VersionOpened.{listed_old, newest_unopened, old_outside}
use Rattle.lance_cli.proofs.restore.refuse_behind_newest.Goals as goal

pub returns-in_err-_newest-clause-plans : goal.returns-in_err-_newest-clause-plans
returns-in_err-_newest-clause-plans g c = λ version line lines opened.
    let p = err_from_is_err_and c.from_residual.result c.from_residual.ensures.1 in
    rw (p.1, p.2)
    (newest_unopened (g.S.Store.tells c.args.store.now).objects version line lines c.in_err-_newest.field-0.0 (λ all told. listed_old all version (opened all told).0 (opened all told).1)
    (λ n newest is. c.in_err-_newest.ensures.named n newest (ap (λ f. Err f) is)) c.in_err-_newest.ensures.opens)

pub returns-clause-plans : goal.returns-clause-plans
returns-clause-plans g c = λ version line lines opened. old_outside (g.S.Store.tells c.args.store.now).objects version line lines c.args.object c.args.reason c.args.place opened
