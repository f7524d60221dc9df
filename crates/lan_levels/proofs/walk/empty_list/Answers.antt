use Rattle.std.proofs.Common.{◌+◌, ◌∙◌, List, ap, arith, sym, subst}
use Rattle.lan_model.specs.declared.tree.Val.{Val}
use Rattle.lan_model.specs.Plain.{PlainValue, list, items, plain_field, plain_values}
use Rattle.lan_levels.specs.BadSlots.{slots_at}
use Rattle.lan_levels.specs.Taken.{left_at, TookAs}
use Rattle.lan_levels.proofs.Shallow.{shallow-outer}
use Rattle.lan_levels.proofs.TakenNull.{took_empty_list, no_empty_list}
use Rattle.lan_levels.proofs.walk.empty_list.Goals as goal

pub bare_at-requires-clause-shallow : goal.bare_at-requires-clause-shallow
bare_at-requires-clause-shallow c = shallow-outer (plain_field c.args.item.now) (c.args.lists + 1) 1 (omega arith) c.requires.shallow

pub returns-in-Err-clause-err : goal.returns-in-Err-clause-err
returns-in-Err-clause-err c =
    let a = c.args in
    λ name. no_empty_list a._id name a._nullable (plain_field a.item.now) a.lists a.leaf c.in-Err.other (slots_at a.runs.now) (left_at a.runs.now a.places.now) c.requires.field c.requires.empty
    c.in-Err.ensures.err

pub returns-in-Ok-clause-ok : goal.returns-in-Ok-clause-ok
returns-in-Ok-clause-ok c =
    let a = c.args in
    let old = left_at a.runs.now a.places.now in
    let new = left_at a.runs.now c.bare_at.new.places in
    subst (λ (v : PlainValue). TookAs a._id a._nullable (list (plain_field a.item.now)) a.lists a.leaf old new v) (sym (c.items_value.ensures ∙ ap (λ (vals : List Val). items (plain_values vals)) c.new.ensures))
    (λ name. took_empty_list a._id name a._nullable (plain_field a.item.now) a.lists a.leaf old new c.in-Ok.ensures.ok)
