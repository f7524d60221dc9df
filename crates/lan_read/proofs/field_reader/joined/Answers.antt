use Rattle.std.proofs.Common.{◌∙◌, List, [], arith, subst, sym}
use Rattle.std.proofs.lemmas.Result.{err_from_is_err_and}
use Rattle.lan_model.specs.Leaves.{leaves_of}
use Rattle.lan_model.specs.Plain.{plain_field, plain_value}
use Rattle.lan_store.specs.Budget.{nothing}
use Rattle.lan_read.specs.FieldReaders.{GiveLeaves, ReadColumn}
use Rattle.lan_read.proofs.ReadValues.{none_read, refused_one, same_ids, value_read}
use Rattle.lan_read.proofs.ValuesDue.{spends_less}
use Rattle.lan_read.proofs.field_reader.joined.Goals as goal

pub join_at_hand-requires-clause-leaves : goal.join_at_hand-requires-clause-leaves
join_at_hand-requires-clause-leaves g c = same_ids c.args.cursors.now c.seek_each.new.cursors c.in_ok-seek_each.ensures.same ∙ c.requires.can.0

pub returns-in_err-seek_each-clause-answer : goal.returns-in_err-seek_each-clause-answer
returns-in_err-seek_each-clause-answer g c = λ all told files count below reads.
    let p = err_from_is_err_and c.from_residual.result c.from_residual.ensures.1 in
    rw (p.1, p.2) (refused_one all files count c.args.row (plain_field c.args.field.now) c.args.cursors.now c.in_err-seek_each.field-0.0 reads (c.in_err-seek_each.ensures.reason all told))

pub returns-in-Ok-clause-answer : goal.returns-in-Ok-clause-answer
returns-in-Ok-clause-answer g c = λ all told files count below reads.
    let f = plain_field c.args.field.now in
    let now = c.in_ok-seek_each.ensures in
    let reads_now = subst (λ (columns : List ReadColumn). GiveLeaves all files count (leaves_of f 0 []) columns) (sym now.same) reads in
    value_read all files count c.args.row f c.seek_each.new.cursors (plain_value c.in-Ok.value) c.requires.field below reads_now now.at (now.knows all (now.looked.kept ∙ told)) c.in-Ok.ensures.joined

pub returns-in-Err-Slots-clause-answer : goal.returns-in-Err-Slots-clause-answer
returns-in-Err-Slots-clause-answer g c = λ all told files count below reads.
    let f = plain_field c.args.field.now in
    let now = c.in_ok-seek_each.ensures in
    let reads_now = subst (λ (columns : List ReadColumn). GiveLeaves all files count (leaves_of f 0 []) columns) (sym now.same) reads in
    let ids = same_ids c.args.cursors.now c.seek_each.new.cursors now.same ∙ c.requires.can.0 in
    let none = rw c.in-Err-Slots.field-0-is at c.in-Err-Slots.ensures.unjoined in
    none_read all files count c.args.row f c.seek_each.new.cursors c.in-Err-Slots.error c.in-Err-Slots.place c.at_mut.result.now c.take_name.result below reads_now ids now.at (now.knows all (now.looked.kept ∙ told)) none
    c.at_mut.ensures.value c.take_name.ensures

pub returns-in_err-seek_each-clause-spends : goal.returns-in_err-seek_each-clause-spends
returns-in_err-seek_each-clause-spends g c = λ all told later holds.
    let p = err_from_is_err_and c.from_residual.result c.from_residual.ensures.1 in
    rw p.1 (c.in_err-seek_each.ensures.spends all told later holds)

pub returns-in-Ok-clause-spends : goal.returns-in-Ok-clause-spends
returns-in-Ok-clause-spends g c = λ all told later holds. c.in_ok-seek_each.ensures.spends all told later holds

pub returns-in-Err-Slots-clause-spends : goal.returns-in-Err-Slots-clause-spends
returns-in-Err-Slots-clause-spends g c = λ all told later holds. spends_less _ _ nothing _ _ (record { ranges = omega arith; bytes = omega arith }) (c.in_ok-seek_each.ensures.spends all told later holds)

pub returns-in-Err-Memory-clause-spends : goal.returns-in-Err-Memory-clause-spends
returns-in-Err-Memory-clause-spends g c = λ all told later holds. spends_less _ _ nothing _ _ (record { ranges = omega arith; bytes = omega arith }) (c.in_ok-seek_each.ensures.spends all told later holds)
