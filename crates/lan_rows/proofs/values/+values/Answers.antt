use Rattle.std.proofs.Common.{◌≡◌, ◌+◌, ◌∷◌, false, rules, arith, sym, ap, ◌∙◌, drop, is_some, length, ◌≤◌}
use Rattle.std.proofs.lemmas.Grind.{common_steps}
use Rattle.std.proofs.lemmas.Result.{IfOk-weaker}
use Rattle.serde_json.specs.Find.{as_null}
use Rattle.serde_json.specs.View.{view, items_view, members_view}
use Rattle.lan_model.specs.Plain.{plain_field}
use Rattle.lan_rows.specs.Values.{field_value, list_in}
use Rattle.lan_rows.proofs.ReadingLemmas.{all_fit_push, items_push, members_push, each_fits_push, list_done, group_done, group_fits, at_list}
use Rattle.lan_rows.proofs.values.+values.Goals as goal

pub read_items-loop-item-preserved : goal.read_items-loop-item-preserved
read_items-loop-item-preserved t c =
    let i = c.loop-item.item-index in
    let vs = c.deref-item-items.result.now in
    let cut : drop i vs ≡ c.item-item.result ∷ drop (i + 1) vs = first_of (search rules, grind (arith, common_steps)) in
    let pushed = c.in_ok-push.ensures.ok in
    let judge = field_value c.args.top.now (plain_field c.args.field.now) in
    record {
      value = items_push judge (items_view vs) vs i c.item-item.result c.loop-item.vals c.push.new.self c.in_ok-read_value.field-0 c.loop-item.invariant.value cut c.in_ok-read_value.ensures.ok pushed;
      fit = all_fit_push (plain_field c.args.field.now) c.loop-item.vals c.push.new.self c.in_ok-read_value.field-0 c.loop-item.invariant.fit c.in_ok-read_value.ensures.fit pushed;
    }

pub read_items-returns-clause-ok : goal.read_items-returns-clause-ok
read_items-returns-clause-ok t c =
    let vs = c.deref-item-items.result.now in
    let found = c.in-Some.ensures in
    let past : length vs ≤ c.loop-item.item-index = omega (arith, c.loop-item-test.false) in
    let same = c.deref-item-items.ensures.value in
    list_done c.args.top.now (field_value c.args.top.now (plain_field c.args.field.now)) (view c.args.value.now) vs c.loop-item.item-index c.loop-item.vals (rw same found) past c.loop-item.invariant.value

pub read_group-loop-field-preserved : goal.read_group-loop-field-preserved
read_group-loop-field-preserved t c =
    let i = c.loop-field.field-index in
    let fields = c.args.fields.now in
    let ms = members_view c.in-Some.members.now.entries in
    let cut : drop i fields ≡ c.field-item.result ∷ drop (i + 1) fields = first_of (search rules, grind (arith, common_steps)) in
    let pushed = c.in_ok-push.ensures.ok in
    record {
      value = members_push c.args.top.now ms fields i c.field-item.result c.loop-field.vals c.push.new.self c.in_ok-read_member.field-0 c.loop-field.invariant.value cut c.in_ok-read_member.ensures.ok pushed;
      fit = each_fits_push fields i c.field-item.result c.loop-field.vals c.push.new.self c.in_ok-read_member.field-0 c.loop-field.invariant.fit cut c.in_ok-read_member.ensures.fit pushed;
    }

pub read_group-returns-in-None-clause-ok : goal.read_group-returns-in-None-clause-ok
read_group-returns-in-None-clause-ok t c =
    let fields = c.args.fields.now in
    let ms = members_view c.in-Some.members.now.entries in
    let past : length fields ≤ c.loop-field.field-index = omega (arith, c.loop-field-test.false) in
    let none = rw c.in-None.is at c.in_ok-key.ensures in
    group_done c.args.top.now fields (view c.args.value.now) ms c.loop-field.field-index c.loop-field.vals c.in-Some.ensures none past c.loop-field.invariant.value

pub read_group-returns-in-None-clause-fit : goal.read_group-returns-in-None-clause-fit
read_group-returns-in-None-clause-fit t c =
    let fields = c.args.fields.now in
    let past : length fields ≤ c.loop-field.field-index = omega (arith, c.loop-field-test.false) in
    group_fits fields c.loop-field.field-index c.loop-field.vals past c.loop-field.invariant.fit

pub read_value-returns-in-List-clause-ok : goal.read_value-returns-in-List-clause-ok
read_value-returns-in-List-clause-ok t c =
    let f = c.args.field.now in
    let some : is_some (as_null (view c.args.value.now)) ≡ false = sym c.is_null.ensures ∙ c.if-is_null.false in
    let here = at_list c.args.top.now f c.in-List.item (view c.args.value.now) c.in-List.is some in
    let same = ap (λ x. list_in c.args.top.now (field_value c.args.top.now (plain_field x)) (view c.args.value.now)) (sym c.get.ensures) in
    IfOk-weaker c.read_items.result _ _ (λ v h. here ∙ same ∙ h) c.read_items.ensures.ok
