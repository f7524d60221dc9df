use Rattle.std.proofs.Common.{◌∙◌, ap, refl, subst}
use Rattle.std.specs.Prelude.{Err}
use Rattle.std.proofs.lemmas.Result.{err_from_is_err_and}
use Rattle.lan_store.specs.Budget.{nothing}
use Rattle.lan_store.specs.Looked.{Looked}
use Rattle.lance_cli.specs.Reports.{versions_text, PrintsReply}
use Rattle.lance_cli.proofs.Failing.{read_looked, reply_unfailing}
use Rattle.lance_cli.proofs.Reading.{unlisted, versions_replied}
use Rattle.lance_cli.proofs.versions.serve_versions.Goals as goal

pub returns-in_err-listed-clause-served : goal.returns-in_err-listed-clause-served
returns-in_err-listed-clause-served g c = λ line lines.
    let p = err_from_is_err_and c.from_residual.result c.from_residual.ensures.1 in
    rw (p.1, p.2)
    (unlisted (record { before = (g.S.Store.tells c.args.store.now).objects; now = (g.S.Store.tells c.listed_versions.new.store).objects; held = g.O.Sink.held c.args.out.now; holds = g.O.Sink.held c.args.out.now }) line lines c.in_err-listed.field-0.0
    (λ n newest is. c.in_err-listed.ensures.named n newest (ap (λ f. Err f) is)) c.in_err-listed.ensures.none c.listed_versions.ensures.looked.kept refl)

pub returns-in_err-listed-clause-looked : goal.returns-in_err-listed-clause-looked
returns-in_err-listed-clause-looked g c =
    let p = err_from_is_err_and c.from_residual.result c.from_residual.ensures.1 in
    rw (p.1, p.2) (read_looked c.in_err-listed.field-0.0 nothing _ _ c.in_err-listed.ensures.looked)

pub returns-clause-served : goal.returns-clause-served
returns-clause-served g c = λ line lines.
    versions_replied (record { before = (g.S.Store.tells c.args.store.now).objects; now = (g.S.Store.tells c.listed_versions.new.store).objects; held = g.O.Sink.held c.args.out.now; holds = g.O.Sink.held c.print_reply.new.out }) line lines c.in_ok-listed.listed c.print_reply.result
    c.listed_versions.ensures.looked.kept c.in_ok-listed.ensures.listed c.in_ok-listed.ensures.some
    (subst (λ text. PrintsReply text (g.O.Sink.held c.args.out.now) (g.O.Sink.held c.print_reply.new.out) c.print_reply.result)
    (c.as_bytes.ensures.value ∙ c.in_ok-text.ensures ∙ ap versions_text c.as_slice.ensures) c.print_reply.ensures.prints)

pub returns-clause-looked : goal.returns-clause-looked
returns-clause-looked g c =
    subst (λ o. Looked o nothing (g.S.Store.tells c.args.store.now) (g.S.Store.tells c.listed_versions.new.store)) (reply_unfailing c.as_bytes.result.now (g.O.Sink.held c.args.out.now) (g.O.Sink.held c.print_reply.new.out) c.print_reply.result c.print_reply.ensures.prints) c.in_ok-listed.ensures.looked
