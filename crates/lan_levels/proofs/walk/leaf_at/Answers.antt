use Rattle.std.proofs.lemmas.Result.{err_from_is_err_and}
use Rattle.lan_model.specs.Plain.{plain_type}
use Rattle.lan_levels.specs.PlainSlots.{plain_slot}
use Rattle.lan_levels.specs.BadSlots.{slots_at}
use Rattle.lan_levels.specs.Taken.{left_at}
use Rattle.lan_levels.proofs.Places.{left_stands}
use Rattle.lan_levels.proofs.TakenLeaf.{leaf_refused}
use Rattle.lan_levels.proofs.walk.leaf_at.Goals as goal

pub returns-in_err-val-in-Some-clause-err : goal.returns-in_err-val-in-Some-clause-err
returns-in_err-val-in-Some-clause-err c =
    let a = c.args in
    let p = err_from_is_err_and c.from_residual.result c.from_residual.ensures.1 in
    rw (p.1, p.2)
    (λ name. leaf_refused a.id name a.nullable (plain_type a.ty.now) a.lists a.leaf (slots_at a.runs.now) (left_at a.runs.now a.places.now) (left_at a.runs.now c.take_slot.new.places)
    (plain_slot c.in-Some.slot) c.in_err-val-in-Some.field-0.0 c.requires.alone (left_stands a.runs.now a.places.now a.leaf) c.in-Some.ensures.step c.if-slot-lists.true
    c.in_err-val-in-Some.ensures.err)
