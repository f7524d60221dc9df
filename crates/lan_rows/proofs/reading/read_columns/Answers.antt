use Rattle.std.proofs.Common.{◌≡◌, ◌+◌, ◌∷◌, rules, arith, drop, length, ◌≤◌}
use Rattle.std.proofs.lemmas.Grind.{common_steps}
use Rattle.serde_json.specs.View.{members_view}
use Rattle.lan_rows.proofs.ReadingLemmas.{columns_push, each_fits_push, each_fits_all}
use Rattle.lan_rows.proofs.reading.read_columns.Goals as goal

pub loop-field-preserved : goal.loop-field-preserved
loop-field-preserved c =
    let i = c.loop-field.field-index in
    let fields = c.args.fields.now in
    let ms = members_view c.args.members.now.entries in
    let cut : drop i fields ≡ c.field-item.result ∷ drop (i + 1) fields = first_of (search rules, grind (arith, common_steps)) in
    let pushed = c.in_ok-push.ensures.ok in
    let here = rw c.as_str.ensures.value at c.in_ok-read_member.ensures.ok in
    record {
      value = columns_push ms fields i c.field-item.result c.loop-field.row c.push.new.self c.in_ok-read_member.field-0 c.loop-field.invariant.value cut here pushed;
      fit = each_fits_push fields i c.field-item.result c.loop-field.row c.push.new.self c.in_ok-read_member.field-0 c.loop-field.invariant.fit cut c.in_ok-read_member.ensures.fit pushed;
    }

pub returns-clause-fit : goal.returns-clause-fit
returns-clause-fit c =
    let fields = c.args.fields.now in
    let past : length fields ≤ c.loop-field.field-index = omega (arith, c.loop-field-test.false) in
    each_fits_all fields c.loop-field.field-index c.loop-field.row past c.loop-field.invariant.fit
