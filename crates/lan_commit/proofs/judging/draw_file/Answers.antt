use Rattle.std.proofs.Common.{sym, subst}
use Rattle.std.specs.Prelude.{Some}
use Rattle.lan_store.specs.Budget.{nothing}
use Rattle.lan_store.specs.Looked.{Looked}
use Rattle.lan_commit.proofs.judging.draw_file.Goals as goal

pub returns-in-Err-Failed-clause-looked : goal.returns-in-Err-Failed-clause-looked
returns-in-Err-Failed-clause-looked g c =
    let looked = rw c.in-Err-Failed.field-0-is at c.in-Err-Failed.ensures.looked in
    subst (λ name. Looked (Some name) nothing (g.S.Store.tells c.args.store.now) (g.S.Store.tells c.fresh_file.new.store)) (sym c.folder_of.ensures) looked
