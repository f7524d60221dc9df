use Rattle.std.proofs.Common.{rules, Some, List, ℕ, ◌≡◌, ◌∙◌, ◌+◌, ◌++◌, ◌∷◌, [], ap, ap₂, sym, refl, arith, length, true≢false}
use Rattle.std.proofs.lemmas.List.{nil_from_length}
use Rattle.lan_levels.specs.PlainSlots.{plain_slot}
use Rattle.lan_zip.specs.Form.{plain_form}
use Rattle.lan_levels.specs.ZipSlots.{Part, spelled}
use Rattle.lan_levels.proofs.ZipFirst.{shorter}
use Rattle.lan_levels.proofs.ZipWalks.{spelled_none, put_last}
use Rattle.lan_zip.proofs.Rows.{starts_last, listed_rows, first_begins, other}
use Rattle.lan_zip.proofs.view.list_count.Goals as goal
use Rattle.lan_zip.proofs.view.list_count.Goals.{then-starts-rows-via-then-starts-rows, then-starts-rows-via-else-starts-rows+then-not-begins_row}

pub loop-rest-init : goal.loop-rest-init
loop-rest-init c = record {
  walked = record { slots = []; is = spelled_none (plain_form c.args.form.now) c.args.bytes.now };
  starts_are = refl;
  few = omega arith;
  room = omega arith;
}

pub loop-rest-smaller : goal.loop-rest-smaller
loop-rest-smaller c =
    let f = plain_form c.args.form.now in
    let less = shorter f c.loop-rest.rest.now (plain_slot c.in-Slot.slot) c.in-Slot.next.now (sym c.in-Slot.ensures) in
    let some = c.requires.form.some c.requires.listed in
    omega arith

pub loop-rest-preserved : goal.loop-rest-preserved
loop-rest-preserved c =
    let f = plain_form c.args.form.now in
    let w = c.loop-rest.invariant.walked in
    let s = plain_slot c.in-Slot.slot in
    let less = shorter f c.loop-rest.rest.now s c.in-Slot.next.now (sym c.in-Slot.ensures) in
    let some = c.requires.form.some c.requires.listed in
    let before = c.loop-rest.invariant.starts_are in
    let few = c.loop-rest.invariant.few in
    let room = c.loop-rest.invariant.room in
    let one = c.row_start-starts.ensures.few in
    record {
      walked = record { slots = w.slots ++ s ∷ []; is = put_last f c.loop-rest.count c.args.bytes.now (record { slots = w.slots; rest = c.loop-rest.rest.now }) s c.in-Slot.next.now w.is (sym c.in-Slot.ensures) };
      starts_are = starts_last f.lists w.slots s ∙ ap₂ (λ (a b : ℕ). a + b) before (sym c.row_start-starts.ensures.value);
      few = omega arith;
      room = omega arith;
    }

pub returns-then-starts-rows-clause-cause : goal.returns-then-starts-rows-clause-cause
returns-then-starts-rows-clause-cause c =
    let f = plain_form c.args.form.now in
    let w = c.loop-rest.invariant.walked in
    let before = c.loop-rest.invariant.starts_are in
    let none : length c.loop-rest.rest.now ≡ 0 = search rules in
    let e = nil_from_length c.loop-rest.rest.now none in
    let is : spelled f c.loop-rest.count c.args.bytes.now ≡ Some (record { slots = w.slots; rest = [] }) = w.is ∙ ap (λ (r : List ℕ). Some (record { slots = w.slots; rest = r })) e in
    other f c.args.rows c.loop-rest.count c.args.bytes.now w.slots c.requires.listed (c.requires.form.some c.requires.listed) is
    (λ same begins.
    elim c.then-starts-rows.branch [
      | then-starts-rows-via-then-starts-rows v ↦ v.if-starts-rows.true (sym before ∙ same)
      | then-starts-rows-via-else-starts-rows+then-not-begins_row v ↦ true≢false (sym (v.begins_row.ensures.1 begins) ∙ v.if-not-begins_row.true)
    ])

pub returns-clause-ok : goal.returns-clause-ok
returns-clause-ok c =
    let f = plain_form c.args.form.now in
    let w = c.loop-rest.invariant.walked in
    let before = c.loop-rest.invariant.starts_are in
    let none : length c.loop-rest.rest.now ≡ 0 = search rules in
    let e = nil_from_length c.loop-rest.rest.now none in
    let is : spelled f c.loop-rest.count c.args.bytes.now ≡ Some (record { slots = w.slots; rest = [] }) = w.is ∙ ap (λ (r : List ℕ). Some (record { slots = w.slots; rest = r })) e in
    let p : Part = record { slots = w.slots; rest = [] } in
    record {
      slots = w.slots;
      is = is;
      rows_are = listed_rows f.lists c.args.rows w.slots c.requires.listed (before ∙ search rules) (first_begins f f.lists c.loop-rest.count c.args.bytes.now p is (c.begins_row.ensures.0 (search rules)));
    }
