use Rattle.std.proofs.Common.{◌≡◌, ◌∙◌, ap, sym}
use Rattle.std.proofs.lemmas.Result.{IfOk-weaker, IfErr-weaker}
use Rattle.lan_model.specs.declared.tree.Ty.TheVariants as ty
use Rattle.lan_levels.specs.Taken.{left_at}
use Rattle.lan_levels.proofs.BareStruct.{took_bare_struct, not_bare_struct}
use Rattle.lan_levels.proofs.bare.+bare.Goals as goal

pub bare_at-returns-in-Struct-clause-ok : goal.bare_at-returns-in-Struct-clause-ok
bare_at-returns-in-Struct-clause-ok t c =
    let a = c.args in
    let is : a.field.now.ty ≡ ty.Struct c.as_slice.result.now = c.in-Struct.is ∙ ap ty.Struct (sym c.as_slice.ensures) in
    IfOk-weaker c.bare_members.result _ _
    (λ past. took_bare_struct a.field.now c.as_slice.result.now a.empty a.below a.lists a.leaf (left_at a.runs.now a.places.now) (left_at a.runs.now c.bare_members.new.places) is)
    c.bare_members.ensures.ok

pub bare_at-returns-in-Struct-clause-err : goal.bare_at-returns-in-Struct-clause-err
bare_at-returns-in-Struct-clause-err t c =
    let a = c.args in
    let is : a.field.now.ty ≡ ty.Struct c.as_slice.result.now = c.in-Struct.is ∙ ap ty.Struct (sym c.as_slice.ensures) in
    IfErr-weaker c.bare_members.result _ _
    (λ id. not_bare_struct a.field.now c.as_slice.result.now a.empty a.below a.lists a.leaf (left_at a.runs.now a.places.now) id is)
    c.bare_members.ensures.err
