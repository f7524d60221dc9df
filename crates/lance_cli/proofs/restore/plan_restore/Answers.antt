use Rattle.std.proofs.Common.{◌∙◌, subst, sym}
use Rattle.std.specs.Prelude.{Some}
use Rattle.lance_cli.specs.Commands.{restore}
use Rattle.lance_cli.specs.Plans.{Plans}
use Rattle.lance_cli.proofs.VersionOpened.{opened_as, refused_as}
use Rattle.lance_cli.proofs.restore.plan_restore.Goals as goal

pub returns-in-Ok-clause-plans : goal.returns-in-Ok-clause-plans
returns-in-Ok-clause-plans g c = λ line lines.
    let kept = c.open_version.ensures.looked.kept in
    let opens = opened_as (g.S.Store.tells c.args.store.now).objects (Some c.args.version) c.into_manifest.result c.in-Ok.old c.into_manifest.ensures.manifest c.in-Ok.ensures.opens in
    subst (λ o. Plans o (record { asked = restore c.args.version; line = line; lines = lines }) c.plan_as.result) kept (c.plan_as.ensures.plans c.args.version line lines (λ all told. opens all (sym kept ∙ told)))

pub returns-in-Err-Outside-clause-plans : goal.returns-in-Err-Outside-clause-plans
returns-in-Err-Outside-clause-plans g c = λ line lines.
    let kept = c.open_version.ensures.looked.kept in
    let opens = refused_as (g.S.Store.tells c.args.store.now).objects (Some c.args.version) _ _ c.in-Err-Outside.field-0-is c.in-Err-Outside.ensures.opens in
    subst (λ o. Plans o (record { asked = restore c.args.version; line = line; lines = lines }) c.refuse_behind_newest.result) kept (c.refuse_behind_newest.ensures.plans c.args.version line lines (λ all told. opens all (sym kept ∙ told)))
