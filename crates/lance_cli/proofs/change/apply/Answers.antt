use Rattle.std.proofs.Common.{◌∙◌, refl, subst}
use Rattle.std.specs.Prelude.{None}
use Rattle.std.proofs.lemmas.Result.{err_from_is_err_and}
use Rattle.lan_store.specs.Budget.{nothing}
use Rattle.lan_store.specs.Looked.{Stored}
use Rattle.lance_cli.specs.Failures.{clashed}
use Rattle.lance_cli.specs.Reports.{PrintsReply}
use Rattle.lance_cli.proofs.Failing.{commit_stored, reply_unfailing, reply_unclashed}
use Rattle.lance_cli.proofs.Serving.{uncommitted, put_replied}
use Rattle.lance_cli.proofs.change.apply.Goals as goal

pub returns-in_err-put_change-clause-applies : goal.returns-in_err-put_change-clause-applies
returns-in_err-put_change-clause-applies g c =
    let p = err_from_is_err_and c.from_residual-in_err-put_change.result c.from_residual-in_err-put_change.ensures.1 in
    rw (p.1, p.2)
    (uncommitted (record { before = (g.S.Store.tells c.args.store.now).objects; now = (g.S.Store.tells c.put_change.new.store).objects; held = g.O.Sink.held c.args.out.now; holds = g.O.Sink.held c.args.out.now }) c.args.planned.objects.items c.args.planned.version c.in_err-put_change.field-0.0
    c.in_err-put_change.ensures.commits refl)

pub returns-in_err-put_change-clause-stored : goal.returns-in_err-put_change-clause-stored
returns-in_err-put_change-clause-stored g c =
    let p = err_from_is_err_and c.from_residual-in_err-put_change.result c.from_residual-in_err-put_change.ensures.1 in
    rw (p.1, p.2) (commit_stored c.in_err-put_change.field-0.0 nothing _ _ c.in_err-put_change.ensures.stored)

pub returns-clause-stored : goal.returns-clause-stored
returns-clause-stored g c =
    subst (λ o. Stored o nothing (clashed c.print_reply.result) (g.S.Store.tells c.args.store.now) (g.S.Store.tells c.put_change.new.store)) (reply_unfailing c.as_bytes.result.now (g.O.Sink.held c.args.out.now) (g.O.Sink.held c.print_reply.new.out) c.print_reply.result c.print_reply.ensures.prints)
    (subst (λ b. Stored None nothing b (g.S.Store.tells c.args.store.now) (g.S.Store.tells c.put_change.new.store)) (reply_unclashed c.as_bytes.result.now (g.O.Sink.held c.args.out.now) (g.O.Sink.held c.print_reply.new.out) c.print_reply.result c.print_reply.ensures.prints) c.in_ok-put_change.ensures.stored)

pub returns-clause-applies : goal.returns-clause-applies
returns-clause-applies g c =
    put_replied (record { before = (g.S.Store.tells c.args.store.now).objects; now = (g.S.Store.tells c.put_change.new.store).objects; held = g.O.Sink.held c.args.out.now; holds = g.O.Sink.held c.print_reply.new.out }) c.args.planned.objects.items c.args.planned.version c.print_reply.result
    c.in_ok-put_change.ensures.commits
    (subst (λ text. PrintsReply text (g.O.Sink.held c.args.out.now) (g.O.Sink.held c.print_reply.new.out) c.print_reply.result) (c.as_bytes.ensures.value ∙ c.in_ok-reply.ensures) c.print_reply.ensures.prints)
