-- The slots that a walk over some rows of a page gives.
use Rattle.std.specs.Prelude.{◌≡◌, ℕ, List, replicate}
use Rattle.lan_model.specs.Leaves.{PlainLeaf}
use Rattle.lan_levels.specs.ConstantSlots.{constant_slots}
use Rattle.lan_levels.specs.PlainSlots.{PlainSlot, plain_slot}
use Rattle.lan_levels.specs.ZipSlots.{IsZip}
use Rattle.lan_meta.specs.declared.page.Layout.{Layout}
use Rattle.lan_meta.specs.declared.page.Layout.TheVariants.{Constant, Mini, Zip}
use Rattle.lan_meta.specs.PageOf.{page_form}
use Rattle.lan_page.specs.declared.walk.PageWalk.{PageWalk}
use Rattle.lan_page.specs.declared.walk.Same.{Same}
use Rattle.lan_page.specs.declared.walk.PageWalk.TheVariants as walk

abbrev pub same_slots : Same → List PlainSlot
same_slots same = replicate same.left (plain_slot same.slot)

-- the slots still to be given
abbrev pub walk_slots : PageWalk → List PlainSlot
walk_slots (walk.Constant same) = same_slots same
walk_slots (walk.Zip slots) = slots

-- the slots of so many rows, by their bytes
abbrev pub RowsAre : PlainLeaf → Layout → ℕ → List ℕ → List PlainSlot → Type 0
RowsAre leaf (Constant codes count value) rows bytes slots = slots ≡ constant_slots leaf.ty rows value
RowsAre leaf (Mini codes count values) rows bytes slots = ⊥
RowsAre leaf (Zip codes count values) rows bytes slots = IsZip (page_form leaf codes values) rows bytes slots
