use Rattle.std.proofs.Common.{subst, map}
use Rattle.std.proofs.lemmas.Result.{err_from_is_err_and}
use Rattle.lan_model.specs.Plain.{plain_field}
use Rattle.lan_store.specs.Budget.{nothing}
use Rattle.lan_store.specs.Looked.{Looked}
use Rattle.lance_cli.proofs.ByWords.{words_read, words_taken}
use Rattle.lance_cli.proofs.Failing.{commit_looked, fields_unfailing}
use Rattle.lance_cli.proofs.Planned.{unread_fields, planned_create, unplanned_create}
use Rattle.lance_cli.proofs.create.plan_create.Goals as goal

pub returns-in_err-fields-clause-plans : goal.returns-in_err-fields-clause-plans
returns-in_err-fields-clause-plans g c = λ lines.
    let p = err_from_is_err_and c.from_residual.result c.from_residual.ensures.1 in
    rw (p.1, p.2) (unread_fields (g.S.Store.tells c.args.store.now).objects c.args.json.now c.args.line lines c.in_err-fields.field-0.0 c.in_err-fields.ensures)

pub returns-in_err-fields-clause-words : goal.returns-in_err-fields-clause-words
returns-in_err-fields-clause-words g c = λ f by_words.
    let p = err_from_is_err_and c.from_residual.result c.from_residual.ensures.1 in
    rw (p.1, p.2) (words_read _ c.args.json.now c.args.line f c.in_err-fields.field-0.0 by_words c.in_err-fields.ensures)

pub returns-in_err-fields-clause-looked : goal.returns-in_err-fields-clause-looked
returns-in_err-fields-clause-looked g c =
    let p = err_from_is_err_and c.from_residual.result c.from_residual.ensures.1 in
    rw (p.1, p.2) (subst (λ o. Looked o nothing (g.S.Store.tells c.args.store.now) (g.S.Store.tells c.args.store.now)) (fields_unfailing c.args.json.now c.args.line c.in_err-fields.field-0.0 c.in_err-fields.ensures) (c.looks_add_up.ensures.none nothing (g.S.Store.tells c.args.store.now)))

pub returns-in_err-objects-clause-looked : goal.returns-in_err-objects-clause-looked
returns-in_err-objects-clause-looked g c =
    let p = err_from_is_err_and c.from_residual-in_err-objects.result c.from_residual-in_err-objects.ensures.1 in
    rw (p.1, p.2) (commit_looked c.in_err-objects.field-0.0 nothing _ _ c.in_err-objects.ensures.looked)

pub returns-in_err-objects-clause-plans : goal.returns-in_err-objects-clause-plans
returns-in_err-objects-clause-plans g c = λ lines.
    let p = err_from_is_err_and c.from_residual-in_err-objects.result c.from_residual-in_err-objects.ensures.1 in
    rw (p.1, p.2)
    (unplanned_create (g.S.Store.tells c.args.store.now).objects c.args.json.now c.args.line lines (map plain_field c.in_ok-fields.fields) c.in_err-objects.field-0.0 c.in_ok-fields.ensures c.in_err-objects.ensures.prepares)

pub returns-in_err-objects-clause-words : goal.returns-in_err-objects-clause-words
returns-in_err-objects-clause-words g c = λ f by_words. absurd (words_taken c.args.json.now c.args.line f (map plain_field c.in_ok-fields.fields) by_words c.in_ok-fields.ensures)

pub returns-clause-plans : goal.returns-clause-plans
returns-clause-plans g c = λ lines. planned_create (g.S.Store.tells c.args.store.now).objects c.args.json.now c.args.line lines (map plain_field c.in_ok-fields.fields) c.in_ok-objects.objects c.in_ok-fields.ensures c.in_ok-objects.ensures.prepares

pub returns-clause-words : goal.returns-clause-words
returns-clause-words g c = λ f by_words. absurd (words_taken c.args.json.now c.args.line f (map plain_field c.in_ok-fields.fields) by_words c.in_ok-fields.ensures)
