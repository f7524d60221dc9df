use Rattle.std.proofs.Common.{◌≡◌, ◌∙◌, ◌∷◌, ◌^◌, min, List, ℕ, sym, ap, subst, arith, drop}
use Rattle.std.specs.Prelude.{sum_by}
use Rattle.lan_model.specs.Leaves.{plain_leaf}
use Rattle.lan_levels.specs.PagesWritten.{slot_size, cut_pages}
use Rattle.lan_levels.specs.PlainSlots.{PlainSlot, plain_slot}
use Rattle.lan_levels.specs.SlotsOf.{lists_in}
use Rattle.lan_levels.specs.ZipForm.{leaf_form}
use Rattle.lan_page.proofs.PageCuts.{range, none_ranged, ranged_length, cut_starts, cut_goes_on, cut_ends, cut_last, page_test, size_more}
use Rattle.lan_page.proofs.cutting.page_end.Goals as goal

pub loop-i-init : goal.loop-i-init
loop-i-init c =
    let f = leaf_form (plain_leaf c.args.leaf.now) in
    record { size = sym (ap (λ (xs : List PlainSlot). min (2 ^ 20) (sum_by (slot_size f) xs)) (none_ranged c.args.slots.now c.args.from)); cut = cut_starts f c.args.slots.now c.args.from c.requires.from }

pub loop-i-preserved : goal.loop-i-preserved
loop-i-preserved c =
    let f = leaf_form (plain_leaf c.args.leaf.now) in
    let xs = c.args.slots.now in
    let s = plain_slot c.slot-slot.result in
    let i = c.loop-i.i in
    let many = sym (ranged_length xs c.args.from i (omega arith) (omega arith)) in
    let test = page_test f (range xs c.args.from i) s c.lists_in-lists.result _ c.loop-i.size c.ends_before.result (c.lists_in-lists.ensures.value ∙ ap lists_in c.as_slice.ensures) many c.loop-i.invariant.size c.ends_before.ensures ∙ c.if-ends_before.false in
    let value = c.slot_size.ensures in
    record {
      size = size_more f xs c.args.from i s c.loop-i.size c.min-size.result (omega arith) c.slot-slot.ensures c.loop-i.invariant.size (omega arith);
      cut = cut_goes_on f xs c.args.from i s (omega arith) c.slot-slot.ensures test c.loop-i.invariant.cut;
    }

pub returns-then-ends_before-clause-cut : goal.returns-then-ends_before-clause-cut
returns-then-ends_before-clause-cut c =
    let f = leaf_form (plain_leaf c.args.leaf.now) in
    let xs = c.args.slots.now in
    let s = plain_slot c.slot-slot.result in
    let i = c.loop-i.i in
    let many = sym (ranged_length xs c.args.from i (omega arith) (omega arith)) in
    let test = page_test f (range xs c.args.from i) s c.lists_in-lists.result _ c.loop-i.size c.ends_before.result (c.lists_in-lists.ensures.value ∙ ap lists_in c.as_slice.ensures) many c.loop-i.invariant.size c.ends_before.ensures ∙ c.if-ends_before.true in
    cut_ends f xs c.args.from i s c.slot-slot.ensures test c.loop-i.invariant.cut

pub returns-clause-cut : goal.returns-clause-cut
returns-clause-cut c =
    let f = leaf_form (plain_leaf c.args.leaf.now) in
    let xs = c.args.slots.now in
    let last : c.loop-i.i ≡ c.len-end.result = omega arith in
    subst (λ (n : ℕ). cut_pages f (drop c.args.from xs) ≡ range xs c.args.from n ∷ cut_pages f (drop n xs)) last (cut_last f xs c.args.from c.loop-i.i (omega arith) c.loop-i.invariant.cut)
