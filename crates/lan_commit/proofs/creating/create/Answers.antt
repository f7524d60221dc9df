use Rattle.std.proofs.Common.{map}
use Rattle.std.proofs.lemmas.Result.{err_from_is_err_and}
use Rattle.lan_model.specs.Plain.{plain_field}
use Rattle.lan_commit.proofs.Calls.{unclashed}
use Rattle.lan_commit.proofs.Created.{created, not_created, not_prepared}
use Rattle.lan_commit.proofs.creating.create.Goals as goal

pub returns-in_err-objects-clause-creates : goal.returns-in_err-objects-clause-creates
returns-in_err-objects-clause-creates g c =
    let p = err_from_is_err_and c.from_residual.result c.from_residual.ensures.1 in
    rw (p.1, p.2)
    (not_prepared (map plain_field c.args.fields) (g.S.Store.tells c.args.store.now).objects (g.S.Store.tells c.prepare_create.new.store).objects c.in_err-objects.field-0.0 c.prepare_create.ensures.looked.kept c.in_err-objects.ensures.prepares)

pub returns-in_err-objects-clause-stored : goal.returns-in_err-objects-clause-stored
returns-in_err-objects-clause-stored g c =
    let p = err_from_is_err_and c.from_residual.result c.from_residual.ensures.1 in
    let none = unclashed (map plain_field c.args.fields) (g.S.Store.tells c.args.store.now).objects c.in_err-objects.field-0.0 c.in_err-objects.ensures.prepares in
    rw (p.1, p.2) (c.puts_follow_looks.ensures.looked _ _ _ _ _ none c.in_err-objects.ensures.looked)

pub returns-in-Ok-clause-creates : goal.returns-in-Ok-clause-creates
returns-in-Ok-clause-creates g c =
    created (map plain_field c.args.fields) (g.S.Store.tells c.args.store.now).objects (g.S.Store.tells c.prepare_create.new.store).objects (g.S.Store.tells c.put_change.new.store).objects c.in_ok-objects.objects.items
    c.prepare_create.ensures.looked.kept c.in_ok-objects.ensures.prepares.2 c.in_ok-objects.ensures.prepares.1 c.in_ok-objects.ensures.prepares.0 c.in-Ok.ensures.commits

pub returns-in-Ok-clause-stored : goal.returns-in-Ok-clause-stored
returns-in-Ok-clause-stored g c = c.puts_follow_looks.ensures.then _ _ _ _ _ _ _ c.in_ok-objects.ensures.looked c.in-Ok.ensures.stored

pub returns-in-Err-clause-creates : goal.returns-in-Err-clause-creates
returns-in-Err-clause-creates g c =
    not_created (map plain_field c.args.fields) (g.S.Store.tells c.args.store.now).objects (g.S.Store.tells c.prepare_create.new.store).objects (g.S.Store.tells c.put_change.new.store).objects c.in_ok-objects.objects.items c.in-Err.fault
    c.prepare_create.ensures.looked.kept c.in_ok-objects.ensures.prepares.2 c.in_ok-objects.ensures.prepares.1 c.in_ok-objects.ensures.prepares.0 c.in-Err.ensures.commits

pub returns-in-Err-clause-stored : goal.returns-in-Err-clause-stored
returns-in-Err-clause-stored g c = c.puts_follow_looks.ensures.then _ _ _ _ _ _ _ c.in_ok-objects.ensures.looked c.in-Err.ensures.stored
