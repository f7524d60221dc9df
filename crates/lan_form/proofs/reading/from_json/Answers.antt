use Rattle.std.proofs.Common.{◌≡◌, sym, subst, map, arith}
use Rattle.std.specs.Prelude.{Ok}
use Rattle.serde_json.specs.View.{view}
use Rattle.lan_model.specs.Plain.{plain_fields, all_unnumbered}
use Rattle.lan_model.specs.PlainTable.{column_of}
use Rattle.lan_model.specs.Table.{AreFields}
use Rattle.lan_form.specs.Limits.{within}
use Rattle.lan_form.proofs.Depths.{columns_are}
use Rattle.lan_form.proofs.Formed.{list_ok, columns_formed}
use Rattle.lan_form.proofs.Limited.{fields_are_few}
use Rattle.lan_form.proofs.Told.{all_told}
use Rattle.lan_form.proofs.reading.from_json.Goals as goal

pub within-requires : goal.within-requires
within-requires c =
    let fs = c.in_ok-fields.fields in
    subst (λ l. AreFields (all_unnumbered (plain_fields l))) (sym c.as_slice.ensures) (subst AreFields (columns_are fs) (list_ok (view c.in_ok-value.value) (map column_of fs) c.in_ok-fields.ensures.ok).1)

pub returns-clause-ids : goal.returns-clause-ids
returns-clause-ids c =
    let fs = c.in_ok-fields.fields in
    let limits = subst (λ l. within (map column_of l) ≡ Ok (map column_of l)) c.as_slice.ensures c.in_ok-within.ensures.ok in
    let few = fields_are_few fs (list_ok (view c.in_ok-value.value) (map column_of fs) c.in_ok-fields.ensures.ok) limits in
    (c.in_ok-fields.ensures.ids (omega (arith, few))).0

pub returns-clause-told : goal.returns-clause-told
returns-clause-told c =
    let fs = c.in_ok-fields.fields in
    let limits = subst (λ l. within (map column_of l) ≡ Ok (map column_of l)) c.as_slice.ensures c.in_ok-within.ensures.ok in
    let few = fields_are_few fs (list_ok (view c.in_ok-value.value) (map column_of fs) c.in_ok-fields.ensures.ok) limits in
    all_told (plain_fields fs) 0 (c.in_ok-fields.ensures.ids (omega (arith, few))).0 c.in_ok-fields.ensures.texts (omega (arith, few))

pub returns-clause-columns : goal.returns-clause-columns
returns-clause-columns c =
    let fs = c.in_ok-fields.fields in
    columns_formed (map column_of fs) (list_ok (view c.in_ok-value.value) (map column_of fs) c.in_ok-fields.ensures.ok)
    (subst (λ l. within (map column_of l) ≡ Ok (map column_of l)) c.as_slice.ensures c.in_ok-within.ensures.ok)
