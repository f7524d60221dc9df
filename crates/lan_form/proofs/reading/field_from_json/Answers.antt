use Rattle.std.proofs.Common.{◌≡◌, sym, subst, map, arith, ◌∷◌, []}
use Rattle.std.specs.Prelude.{Ok}
use Rattle.serde_json.specs.View.{view}
use Rattle.lan_model.specs.Plain.{plain_field, plain_fields, all_unnumbered}
use Rattle.lan_model.specs.PlainTable.{column_of}
use Rattle.lan_model.specs.Table.{AreFields}
use Rattle.lan_form.specs.Limits.{within}
use Rattle.lan_form.proofs.Formed.{field_ok, alone_good, columns_formed}
use Rattle.lan_form.proofs.Limited.{fields_are_few}
use Rattle.lan_form.proofs.Told.{told}
use Rattle.lan_form.proofs.reading.field_from_json.Goals as goal

pub within-requires : goal.within-requires
within-requires c =
    let f = c.in_ok-field.field in
    subst (λ l. AreFields (all_unnumbered (plain_fields l))) (sym c.from_ref.ensures.value) ((field_ok (view c.in_ok-value.value) (column_of f) c.in_ok-field.ensures.ok).0, tt)

pub returns-clause-ids : goal.returns-clause-ids
returns-clause-ids c =
    let f = c.in_ok-field.field in
    let limits = subst (λ l. within (map column_of l) ≡ Ok (map column_of l)) c.from_ref.ensures.value c.in_ok-within.ensures.ok in
    let few = fields_are_few (f ∷ []) (alone_good (column_of f) (field_ok (view c.in_ok-value.value) (column_of f) c.in_ok-field.ensures.ok)) limits in
    (c.in_ok-field.ensures.ids (omega (arith, few))).0

pub returns-clause-told : goal.returns-clause-told
returns-clause-told c =
    let f = c.in_ok-field.field in
    let limits = subst (λ l. within (map column_of l) ≡ Ok (map column_of l)) c.from_ref.ensures.value c.in_ok-within.ensures.ok in
    let few = fields_are_few (f ∷ []) (alone_good (column_of f) (field_ok (view c.in_ok-value.value) (column_of f) c.in_ok-field.ensures.ok)) limits in
    told (plain_field f) 0 (c.in_ok-field.ensures.ids (omega (arith, few))).0 c.in_ok-field.ensures.texts (omega (arith, few))

pub returns-clause-columns : goal.returns-clause-columns
returns-clause-columns c =
    let f = c.in_ok-field.field in
    columns_formed (column_of f ∷ []) (alone_good (column_of f) (field_ok (view c.in_ok-value.value) (column_of f) c.in_ok-field.ensures.ok))
    (subst (λ l. within (map column_of l) ≡ Ok (map column_of l)) c.from_ref.ensures.value c.in_ok-within.ensures.ok)
