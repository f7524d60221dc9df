use Rattle.std.proofs.Common.{◌≡◌, ◌∙◌, ◌+◌, ◌-◌, ◌<◌, List, length, ap, sym, arith}
use Rattle.std.specs.Prelude.{slice_get}
use Rattle.lan_levels.specs.PlainSlots.{PlainSlot, plain_slot}
use Rattle.lan_levels.proofs.Ranges.{range_length, slot_in_range}
use Rattle.lan_levels.proofs.buffer.SlotPart.slot.Goals as goal

pub overflow_add-self-inside : goal.overflow_add-self-inside
overflow_add-self-inside c =
    let p = c.self.inside in
    let size : length c.args.self.now ≡ p.to - p.from = sym (ap (length {A = PlainSlot}) c.self.view_is) ∙ range_length p.all.now p.from p.to c.self.invariant.0 c.self.invariant.1 in
    omega (arith, c.requires, c.self.invariant.2)

pub returns : goal.returns
returns c =
    let p = c.self.inside in
    let size : length c.args.self.now ≡ p.to - p.from = sym (ap (length {A = PlainSlot}) c.self.view_is) ∙ range_length p.all.now p.from p.to c.self.invariant.0 c.self.invariant.1 in
    let within : p.from + c.args.i < p.to = omega (arith, c.requires) in
    ap (λ (xs : List PlainSlot). slice_get xs c.args.i) (sym c.self.view_is) ∙ slot_in_range p.all.now p.from p.to c.args.i (plain_slot c.slot.result) within c.self.invariant.1 c.slot.ensures
