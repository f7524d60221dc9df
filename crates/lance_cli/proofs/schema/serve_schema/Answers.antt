use Rattle.std.proofs.Common.{◌∙◌, ap, refl, subst, map}
use Rattle.std.specs.Prelude.{Err}
use Rattle.std.proofs.lemmas.Result.{err_from_is_err_and}
use Rattle.lan_model.specs.PlainTable.{column_of}
use Rattle.lan_store.specs.Budget.{ranges}
use Rattle.lan_store.specs.Looked.{Looked}
use Rattle.lance_cli.specs.Reports.{schema_text, PrintsReply}
use Rattle.lance_cli.proofs.Failing.{read_looked, reply_unfailing}
use Rattle.lance_cli.proofs.Reading.{unopened_schema, schema_replied}
use Rattle.lance_cli.proofs.schema.serve_schema.Goals as goal

pub returns-in_err-snapshot-clause-served : goal.returns-in_err-snapshot-clause-served
returns-in_err-snapshot-clause-served g c = λ line lines.
    let p = err_from_is_err_and c.from_residual.result c.from_residual.ensures.1 in
    rw (p.1, p.2)
    (unopened_schema (record { before = (g.S.Store.tells c.args.store.now).objects; now = (g.S.Store.tells c.open_version.new.store).objects; held = g.O.Sink.held c.args.out.now; holds = g.O.Sink.held c.args.out.now }) c.args.version line lines c.in_err-snapshot.field-0.0
    (λ n newest is. c.in_err-snapshot.ensures.named n newest (ap (λ f. Err f) is)) c.in_err-snapshot.ensures.opens c.open_version.ensures.looked.kept refl)

pub returns-in_err-snapshot-clause-looked : goal.returns-in_err-snapshot-clause-looked
returns-in_err-snapshot-clause-looked g c =
    let p = err_from_is_err_and c.from_residual.result c.from_residual.ensures.1 in
    rw (p.1, p.2) (read_looked c.in_err-snapshot.field-0.0 (ranges 1) _ _ c.in_err-snapshot.ensures.looked)

pub returns-clause-served : goal.returns-clause-served
returns-clause-served g c = λ line lines.
    schema_replied (record { before = (g.S.Store.tells c.args.store.now).objects; now = (g.S.Store.tells c.open_version.new.store).objects; held = g.O.Sink.held c.args.out.now; holds = g.O.Sink.held c.print_reply.new.out }) c.args.version line lines c.in_ok-snapshot.snapshot c.print_reply.result
    c.open_version.ensures.looked.kept c.in_ok-snapshot.ensures.opens
    (subst (λ text. PrintsReply text (g.O.Sink.held c.args.out.now) (g.O.Sink.held c.print_reply.new.out) c.print_reply.result)
    (c.as_bytes.ensures.value ∙ c.as_str.ensures.value ∙ c.in_ok-line.ensures ∙ ap (λ fields. schema_text (map column_of fields)) c.fields.ensures) c.print_reply.ensures.prints)

pub returns-clause-looked : goal.returns-clause-looked
returns-clause-looked g c =
    subst (λ o. Looked o (ranges 1) (g.S.Store.tells c.args.store.now) (g.S.Store.tells c.open_version.new.store)) (reply_unfailing c.as_bytes.result.now (g.O.Sink.held c.args.out.now) (g.O.Sink.held c.print_reply.new.out) c.print_reply.result c.print_reply.ensures.prints) c.in_ok-snapshot.ensures.looked
