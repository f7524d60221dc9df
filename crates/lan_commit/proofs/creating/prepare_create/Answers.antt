use Rattle.std.proofs.Common.{sym, subst, map}
use Rattle.std.specs.Prelude.{Some}
use Rattle.lan_store.specs.Budget.{nothing}
use Rattle.lan_store.specs.Looked.{Looked}
use Rattle.lan_model.specs.Plain.{plain_field}
use Rattle.lan_commit.proofs.Calls.{unfailed}
use Rattle.lan_commit.proofs.Created.{first_judged}
use Rattle.lan_commit.proofs.creating.prepare_create.Goals as goal

pub returns-in-Ok-None-clause-looked : goal.returns-in-Ok-None-clause-looked
returns-in-Ok-None-clause-looked g c = unfailed c.first_objects.result nothing _ _ c.first_objects.ensures.unfailing c.in-Ok-None.ensures.looked

pub returns-in-Err-Failed-clause-looked : goal.returns-in-Err-Failed-clause-looked
returns-in-Err-Failed-clause-looked g c =
    let looked = rw c.in-Err-Failed.field-0-is at c.in-Err-Failed.ensures.looked in
    subst (λ name. Looked (Some name) nothing (g.S.Store.tells c.args.store.now) (g.S.Store.tells c.newest_version.new.store)) (sym c.folder_of.ensures) looked

pub returns-in-Ok-None-clause-prepares : goal.returns-in-Ok-None-clause-prepares
returns-in-Ok-None-clause-prepares g c =
    first_judged (map plain_field c.args.fields) (g.S.Store.tells c.args.store.now).objects c.first_objects.result (λ all told. rw c.in-Ok-None.field-0-is at (c.in-Ok-None.ensures.newest all told)) c.first_objects.ensures.judges

pub returns-in-Ok-Some-clause-prepares : goal.returns-in-Ok-Some-clause-prepares
returns-in-Ok-Some-clause-prepares g c = λ all told. rw c.in-Ok-Some.field-0-is at (c.in-Ok-Some.ensures.newest all told)
