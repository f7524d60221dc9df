use Rattle.std.proofs.Common.{sym}
use Rattle.lan_model.specs.Plain.{plain_type}
use Rattle.lan_form.proofs.Counting.{leaf_counted}
use Rattle.lan_form.proofs.Told.{leaf_texts}
use Rattle.lan_form.proofs.reading.known.Goals as goal

pub returns-in-Some-clause-ids : goal.returns-in-Some-clause-ids
returns-in-Some-clause-ids c = λ n. leaf_counted c.args.kind.now (plain_type c.in-Some.ty) n (sym c.in-Some.ensures)

pub returns-in-Some-clause-texts : goal.returns-in-Some-clause-texts
returns-in-Some-clause-texts c = leaf_texts c.args.kind.now (plain_type c.in-Some.ty) (sym c.in-Some.ensures)
