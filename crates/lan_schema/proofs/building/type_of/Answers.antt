use Rattle.std.proofs.Common.{◌≡◌, ◌∙◌, ap, sym, ℕ}
use Rattle.std.specs.Prelude.{Some}
use Rattle.std.proofs.lemmas.Result.{IfOk-weaker}
use Rattle.lan_model.specs.Plain.{PlainType, list, plain_field, plain_fields, plain_type}
use Rattle.lan_model.specs.declared.tree.Ty.{Ty}
use Rattle.lan_schema.specs.FieldsOf.{type_of}
use Rattle.lan_schema.proofs.Typing.{item_type}
use Rattle.lan_schema.proofs.building.type_of.Goals as goal

pub returns-in-Some : goal.returns-in-Some
returns-in-Some c =
    let item = item_type c.args.logical.now c.args.members c.pop.new.self.items c.in-Some.item (sym c.in-List.ensures) c.requires (sym c.into_vec-items.ensures ∙ c.in-Some.ensures.items) in
    IfOk-weaker c.list_of.result (λ (ty : Ty). plain_type ty ≡ list (plain_field c.in-Some.item)) (λ (ty : Ty). type_of c.args.logical.now (plain_fields c.args.members) ≡ Some (plain_type ty)) (λ ty same. item ∙ ap (λ (t : PlainType ℕ). Some t) (sym same)) c.list_of.ensures
