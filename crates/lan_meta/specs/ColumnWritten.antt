-- The pages that the writer makes of a column's slots.
use Rattle.std.specs.Prelude.{List, ℕ, [], length, map, Option, Some, None}
use Rattle.lan_model.specs.Leaves.{PlainLeaf}
use Rattle.lan_levels.specs.Codes.{layer_code}
use Rattle.lan_levels.specs.PlainSlots.{PlainSlot}
use Rattle.lan_levels.specs.SlotsOf.{lists_in}
use Rattle.lan_levels.specs.ZipForm.{kind_of, leaf_form}
use Rattle.lan_levels.specs.ZipSlots.{starts}
use Rattle.lan_levels.specs.ZipBuffers.{zip_buffers}
use Rattle.lan_levels.specs.PagesWritten.{cut_pages, constant_of}
use Rattle.lan_meta.specs.declared.page.BuiltPage.{BuiltPage}
use Rattle.lan_meta.specs.declared.page.Layout.TheVariants.{Constant, Zip}

-- a page of these slots, with what it has for all of them, if there is such a value
abbrev pub page_by : PlainLeaf → List PlainSlot → Option (Option (List ℕ)) → BuiltPage
page_by leaf slots (Some value) = record { rows = starts (lists_in leaf.layers) slots; layout = Constant (map layer_code leaf.layers) (length slots) value; buffers = [] }
page_by leaf slots None =
    record { rows = starts (lists_in leaf.layers) slots; layout = Zip (map layer_code leaf.layers) (length slots) (kind_of leaf.ty); buffers = zip_buffers (leaf_form leaf) slots }

abbrev pub page_written : PlainLeaf → List PlainSlot → BuiltPage
page_written leaf slots = page_by leaf slots (constant_of (leaf_form leaf) slots)

-- the slots are cut into pages at rows; a page is constant where it can be, else full-zip
abbrev pub written : PlainLeaf → List PlainSlot → List BuiltPage
written leaf slots = map (page_written leaf) (cut_pages (leaf_form leaf) slots)
