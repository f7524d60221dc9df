use Rattle.std.proofs.Common.{◌≡◌, ◌∙◌, ◌-◌, suc, inl, inr, refl, ap, sym, arith}
use Rattle.lan_levels.specs.PlainSlots.{plain_slot}
use Rattle.lan_zip.specs.Form.{plain_form}
use Rattle.lan_levels.specs.ZipSlots.{cut, level}
use Rattle.lan_zip.specs.Walk.{plain_step}
use Rattle.lan_zip.proofs.Rows.{walk_on, walk_gives, walk_stops, walk_ends}
use Rattle.lan_zip.proofs.view.ZipSlots.next.Goals as goal

pub returns-then-self-eq0-clause-none : goal.returns-then-self-eq0-clause-none
returns-then-self-eq0-clause-none c =
    let v = c.self.inside in
    let none = sym c.self.view_is ∙ walk_ends (plain_form v.form) v.left v.rest.now (omega arith) in
    (none, none)

pub invariant_of-self : goal.invariant_of-self
invariant_of-self c =
    let v = c.self.inside in
    let e : v.left ≡ suc (v.left - 1) = omega arith in
    (c.self.invariant.0, walk_on (plain_form v.form) v.left (v.left - 1) v.rest.now (plain_slot c.in-Slot.slot) c.in-Slot.rest.now c.self.invariant.1 e (sym c.in-Slot.ensures))

pub returns-in-Cut : goal.returns-in-Cut
returns-in-Cut c =
    let v = c.self.inside in
    let f = plain_form v.form in
    let e : v.left ≡ suc (v.left - 1) = omega arith in
    absurd
    (elim c.in-Cut.is [
      | inl h ↦ walk_stops f v.left (v.left - 1) v.rest.now cut (inl refl) c.self.invariant.1 e (sym (ap plain_step h) ∙ c.first_slot.ensures)
      | inr h ↦ walk_stops f v.left (v.left - 1) v.rest.now level (inr refl) c.self.invariant.1 e (sym (ap plain_step h) ∙ c.first_slot.ensures)
    ])

pub returns-in-Slot-clause-some : goal.returns-in-Slot-clause-some
returns-in-Slot-clause-some c =
    let v = c.self.inside in
    let e : v.left ≡ suc (v.left - 1) = omega arith in
    sym c.self.view_is ∙ walk_gives (plain_form v.form) v.left (v.left - 1) v.rest.now (plain_slot c.in-Slot.slot) c.in-Slot.rest.now c.self.invariant.1 e (sym c.in-Slot.ensures)
