use Rattle.std.proofs.Common.{◌+◌, arith, sym, subst}
use Rattle.lan_model.specs.Plain.{PlainValue, struct, plain_fields}
use Rattle.lan_levels.specs.BadSlots.{slots_at}
use Rattle.lan_levels.specs.Taken.{left_at, TookAs}
use Rattle.lan_levels.proofs.Shallow.{all_shallow-outer}
use Rattle.lan_levels.proofs.FieldViews.{plain_value-Null}
use Rattle.lan_levels.proofs.TakenNull.{took_null_struct, bad_null_struct, no_null_struct}
use Rattle.lan_levels.proofs.walk.null_struct.Goals as goal

pub bare_members-requires-clause-shallow : goal.bare_members-requires-clause-shallow
bare_members-requires-clause-shallow c = all_shallow-outer (plain_fields c.args.members.now) (c.args.lists + 1) 1 (omega arith) c.requires.shallow

pub returns-in-Err-clause-err : goal.returns-in-Err-clause-err
returns-in-Err-clause-err c =
    let a = c.args in
    λ name. no_null_struct a.id name a.nullable (plain_fields a.members.now) a.lists a.leaf c.in-Err.other (slots_at a.runs.now) (left_at a.runs.now a.places.now)
    (c.requires.named, c.requires.fields) c.requires.null c.in-Err.ensures.err

pub returns-then-nullable-clause-ok : goal.returns-then-nullable-clause-ok
returns-then-nullable-clause-ok c =
    let a = c.args in
    let old = left_at a.runs.now a.places.now in
    let new = left_at a.runs.now c.bare_members.new.places in
    subst (λ (v : PlainValue). TookAs a.id a.nullable (struct (plain_fields a.members.now)) a.lists a.leaf old new v) (sym plain_value-Null)
    (λ name. took_null_struct a.id name a.nullable (plain_fields a.members.now) a.lists a.leaf old new c.if-nullable.true c.in-Ok.ensures.ok)

pub returns-else-nullable-clause-err : goal.returns-else-nullable-clause-err
returns-else-nullable-clause-err c =
    let a = c.args in
    λ name. bad_null_struct a.id name a.nullable (plain_fields a.members.now) a.lists a.leaf (slots_at a.runs.now) (left_at a.runs.now a.places.now) (left_at a.runs.now c.bare_members.new.places)
    c.if-nullable.false c.in-Ok.ensures.ok
