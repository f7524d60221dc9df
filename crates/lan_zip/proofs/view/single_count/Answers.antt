use Rattle.std.proofs.Common.{rules, Some, List, ℕ, ◌≡◌, ◌∙◌, ◌++◌, ◌∷◌, [], ap, sym, arith, length}
use Rattle.std.proofs.lemmas.List.{nil_from_length}
use Rattle.lan_levels.specs.PlainSlots.{plain_slot}
use Rattle.lan_zip.specs.Form.{plain_form}
use Rattle.lan_levels.specs.ZipSlots.{cut, level, spelled}
use Rattle.lan_levels.proofs.ZipWalks.{spelled_none, put_last, count_slots}
use Rattle.lan_zip.proofs.Rows.{stops_single, single_rows}
use Rattle.lan_zip.proofs.view.single_count.Goals as goal

pub loop-n-init : goal.loop-n-init
loop-n-init c = record { slots = []; is = spelled_none (plain_form c.args.form.now) c.args.bytes.now }

pub loop-n-preserved : goal.loop-n-preserved
loop-n-preserved c =
    let f = plain_form c.args.form.now in
    let w = c.loop-n.invariant in
    let s = plain_slot c.in-Slot.field-0 in
    record { slots = w.slots ++ s ∷ []; is = put_last f c.loop-n.n c.args.bytes.now (record { slots = w.slots; rest = c.loop-n.rest.now }) s c.in-Slot.next.now w.is (sym c.in-Slot.ensures) }

pub returns-in-Cut-clause-cause : goal.returns-in-Cut-clause-cause
returns-in-Cut-clause-cause c =
    stops_single (plain_form c.args.form.now) c.args.rows c.loop-n.n c.args.bytes.now c.loop-n.rest.now cut c.requires.single (omega arith) c.loop-n.invariant c.in-Cut.ensures

pub returns-in-Level-clause-cause : goal.returns-in-Level-clause-cause
returns-in-Level-clause-cause c =
    stops_single (plain_form c.args.form.now) c.args.rows c.loop-n.n c.args.bytes.now c.loop-n.rest.now level c.requires.single (omega arith) c.loop-n.invariant c.in-Level.ensures

pub returns-then-not-is_empty-clause-cause : goal.returns-then-not-is_empty-clause-cause
returns-then-not-is_empty-clause-cause c =
    let f = plain_form c.args.form.now in
    let w = c.loop-n.invariant in
    let n : c.loop-n.n ≡ c.args.rows = omega arith in
    let some : length c.loop-n.rest.now ≡ 0 → ⊥ = search rules in
    record {
      front = record { slots = w.slots; rest = c.loop-n.rest.now };
      single = c.requires.single;
      is = ap (λ (k : ℕ). spelled f k c.args.bytes.now) (sym n) ∙ w.is;
      extra = λ e. some (ap (length {A = ℕ}) e);
    }

pub returns-clause-ok : goal.returns-clause-ok
returns-clause-ok c =
    let f = plain_form c.args.form.now in
    let w = c.loop-n.invariant in
    let n : c.loop-n.n ≡ c.args.rows = omega arith in
    let none : length c.loop-n.rest.now ≡ 0 = search rules in
    let e = nil_from_length c.loop-n.rest.now none in
    let is : spelled f c.args.rows c.args.bytes.now ≡ Some (record { slots = w.slots; rest = [] }) = ap (λ (k : ℕ). spelled f k c.args.bytes.now) (sym n) ∙ w.is ∙ ap (λ (r : List ℕ). Some (record { slots = w.slots; rest = r })) e in
    record { slots = w.slots; is = is; rows_are = single_rows f.lists c.args.rows w.slots c.requires.single (count_slots f c.args.rows c.args.bytes.now (record { slots = w.slots; rest = [] }) is) }
