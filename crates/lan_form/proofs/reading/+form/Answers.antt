use Rattle.std.proofs.Common.{◌≡◌, ◌+◌, ◌%◌, ◌^◌, subst, Some, arith, rules, sym}
use Rattle.serde_json.specs.Find.{as_array}
use Rattle.serde_json.specs.View.{view, items_view}
use Rattle.lan_model.specs.Plain.{plain_type}
use Rattle.lan_form.proofs.Below.{item_shallow}
use Rattle.lan_form.proofs.Counting.{field_counted, counted_more, forms_more}
use Rattle.lan_form.proofs.Columns.{plain_rolled, plain_struct, struct_column}
use Rattle.lan_form.proofs.Told.{texts_more}
use Rattle.lan_form.specs.Names.{HasTextNames}
use Rattle.lan_form.specs.Numbers.{FieldCounted}
use Rattle.lan_form.proofs.reading.+form.Goals as goal

pub read_list-read_field-requires : goal.read_list-read_field-requires
read_list-read_field-requires t c =
    let xs = c.deref-item-items.result.now in
    let held : Some (items_view xs) ≡ as_array (view c.args.value.now) = rw c.deref-item-items.ensures.value c.in-Some.ensures in
    let falls = item_shallow (view c.args.value.now) xs c.loop-item.item-index c.item-item.result held c.loop-item-test.true c.item-item.is in
    (omega (arith, falls, c.decreases), tt)

pub read_field-returns-clause-ids : goal.read_field-returns-clause-ids
read_field-returns-clause-ids t c =
    let n = c.args.next.now in
    let name = c.in_ok-name.name in
    let nullable = c.in_ok-label.label.nullable in
    let ty = c.in_ok-ty.ty in
    subst (λ f. FieldCounted n f c.read_type.new.next) (sym (plain_rolled n name nullable ty))
    (field_counted n ((n + 1) % 2 ^ 32) c.read_type.new.next name nullable (plain_type ty) (λ small. omega (arith, small)) c.in_ok-ty.ensures.ids)

pub read_field-returns-clause-texts : goal.read_field-returns-clause-texts
read_field-returns-clause-texts t c =
    subst HasTextNames (sym (plain_rolled c.args.next.now c.in_ok-name.name c.in_ok-label.label.nullable c.in_ok-ty.ty)) (c.as_str.ensures.utf8, c.in_ok-ty.ensures.texts)

pub read_list-loop-item-preserved : goal.read_list-loop-item-preserved
read_list-loop-item-preserved t c =
    let items = c.deref-item-items.result.now in
    let done = c.loop-item.fields in
    let pushed = c.in_ok-push.ensures.ok in
    record {
      form = forms_more (items_view items) items c.loop-item.item-index c.item-item.result done c.push.new.self c.in_ok-field.field c.loop-item.invariant.form c.loop-item-test.true c.item-item.is c.in_ok-field.ensures.ok pushed;
      ids = counted_more _ c.loop-item.next c.read_field.new.next done c.push.new.self c.in_ok-field.field c.loop-item.invariant.ids c.in_ok-field.ensures.ids pushed;
      texts = texts_more done c.push.new.self c.in_ok-field.field c.loop-item.invariant.texts c.in_ok-field.ensures.texts pushed;
    }

pub read_type-returns-in_ok-read_list-in-struct-clause-ok : goal.read_type-returns-in_ok-read_list-in-struct-clause-ok
read_type-returns-in_ok-read_list-in-struct-clause-ok t c = rw (struct_column c.in_ok-read_list-in-struct.field-0) (search rules)

pub read_type-returns-in_ok-read_list-in-struct-clause-texts : goal.read_type-returns-in_ok-read_list-in-struct-clause-texts
read_type-returns-in_ok-read_list-in-struct-clause-texts t c = rw (plain_struct c.in_ok-read_list-in-struct.field-0) c.in_ok-read_list-in-struct.ensures.texts
