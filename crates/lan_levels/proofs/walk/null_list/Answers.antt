use Rattle.std.proofs.Common.{◌+◌, arith, sym, subst}
use Rattle.lan_model.specs.Plain.{PlainValue, list, plain_field}
use Rattle.lan_levels.specs.BadSlots.{slots_at}
use Rattle.lan_levels.specs.Taken.{left_at, TookAs}
use Rattle.lan_levels.proofs.Shallow.{shallow-outer}
use Rattle.lan_levels.proofs.FieldViews.{plain_value-Null}
use Rattle.lan_levels.proofs.TakenNull.{took_null_list, bad_null_list, no_null_list}
use Rattle.lan_levels.proofs.walk.null_list.Goals as goal

pub bare_at-requires-clause-shallow : goal.bare_at-requires-clause-shallow
bare_at-requires-clause-shallow c = shallow-outer (plain_field c.args.item.now) (c.args.lists + 1) 1 (omega arith) c.requires.shallow

pub returns-in-Err-clause-err : goal.returns-in-Err-clause-err
returns-in-Err-clause-err c =
    let a = c.args in
    λ name. no_null_list a.id name a.nullable (plain_field a.item.now) a.lists a.leaf c.in-Err.other (slots_at a.runs.now) (left_at a.runs.now a.places.now) c.requires.field c.requires.null
    c.in-Err.ensures.err

pub returns-then-nullable-clause-ok : goal.returns-then-nullable-clause-ok
returns-then-nullable-clause-ok c =
    let a = c.args in
    let old = left_at a.runs.now a.places.now in
    let new = left_at a.runs.now c.bare_at.new.places in
    subst (λ (v : PlainValue). TookAs a.id a.nullable (list (plain_field a.item.now)) a.lists a.leaf old new v) (sym plain_value-Null)
    (λ name. took_null_list a.id name a.nullable (plain_field a.item.now) a.lists a.leaf old new c.if-nullable.true c.in-Ok.ensures.ok)

pub returns-else-nullable-clause-err : goal.returns-else-nullable-clause-err
returns-else-nullable-clause-err c =
    let a = c.args in
    λ name. bad_null_list a.id name a.nullable (plain_field a.item.now) a.lists a.leaf (slots_at a.runs.now) (left_at a.runs.now a.places.now) (left_at a.runs.now c.bare_at.new.places)
    c.if-nullable.false c.in-Ok.ensures.ok
