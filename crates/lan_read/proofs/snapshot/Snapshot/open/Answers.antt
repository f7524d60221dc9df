use Rattle.std.proofs.Common.{subst, sym}
use Rattle.std.proofs.lemmas.Result.{err_from_is_err_and}
use Rattle.lan_manifest.specs.Versions.{AreListed}
use Rattle.lan_read.proofs.OpenedVersions.{unlisted}
use Rattle.lan_read.proofs.snapshot.Snapshot.open.Goals as goal

pub returns-clause-opens : goal.returns-clause-opens
returns-clause-opens g c = λ all told. c.in-Err.ensures.refused all (subst (AreListed all) (sym c.as_slice.ensures) (c.in_ok-versions.ensures.listed all told))

pub returns-in_err-versions-clause-opens : goal.returns-in_err-versions-clause-opens
returns-in_err-versions-clause-opens g c = λ all told.
    let p = err_from_is_err_and c.from_residual.result c.from_residual.ensures.1 in
    rw (p.1, p.2) (unlisted all c.args.version _ (c.in_err-versions.ensures.none all told))
