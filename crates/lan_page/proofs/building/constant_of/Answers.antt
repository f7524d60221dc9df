use Rattle.std.proofs.Common.{◌∙◌, ap, Option, Some, List, ℕ, true, false}
use Rattle.lan_model.specs.Leaves.{plain_leaf}
use Rattle.lan_levels.specs.PlainSlots.{plain_slot}
use Rattle.lan_levels.specs.SlotsOf.{lists_in}
use Rattle.lan_levels.specs.ZipForm.{leaf_form}
use Rattle.lan_page.proofs.ZipPages.{constant_by}
use Rattle.lan_page.proofs.building.constant_of.Goals as goal

pub returns-then-not-is_constant : goal.returns-then-not-is_constant
returns-then-not-is_constant c =
    constant_by (leaf_form (plain_leaf c.args.leaf.now)) c.args.slots.now c.args.from c.args.to (plain_slot c.slot-first.result) c.lists_in-lists.result c.is_constant.result false c.requires.front c.slot-first.ensures (c.lists_in-lists.ensures.value ∙ ap lists_in c.as_slice.ensures) c.is_constant.ensures
    c.if-not-is_constant.true

pub returns : goal.returns
returns c =
    ap (λ (v : Option (List ℕ)). let o : Option (Option (List ℕ)) = Some v in o) c.in_ok-value.ensures
    ∙ constant_by (leaf_form (plain_leaf c.args.leaf.now)) c.args.slots.now c.args.from c.args.to (plain_slot c.slot-first.result) c.lists_in-lists.result c.is_constant.result true c.requires.front c.slot-first.ensures (c.lists_in-lists.ensures.value ∙ ap lists_in c.as_slice.ensures) c.is_constant.ensures
    c.if-not-is_constant.false
