-- The slots of rows in a leaf, by the values that the rows have in its field.
use Rattle.std.proofs.Common.{◌≡◌, ap, ap₂, refl, ℕ, zero, suc, List, [], ◌∷◌, ◌++◌, get_or, map}
use Rattle.lan_model.specs.Leaves.{PlainLeaf}
use Rattle.lan_model.specs.Plain.{null, values_from}
use Rattle.lan_levels.specs.PlainSlots.{PlainSlot}
use Rattle.lan_levels.specs.SlotsOf.{at_place, leaf_slots, rows_slots}
use Rattle.lan_read.specs.Rows.{column_slots, values_at}
use Rattle.lan_read.proofs.RowLists.{Row}

value_at : (row : Row) (top : ℕ) → at_place top (values_from row) ≡ get_or row top null
value_at [] zero = refl
value_at [] (suc top) = refl
value_at (v ∷ row) zero = refl
value_at (v ∷ row) (suc top) = value_at row top

-- the slots of rows in a leaf are those of its column
pub rows_slots-is : (leaf : PlainLeaf) (rows : List Row) → rows_slots leaf (map values_from rows) ≡ column_slots leaf (values_at leaf.top rows)
rows_slots-is leaf [] = refl
rows_slots-is leaf (row ∷ rows) = ap₂ (λ (a b : List PlainSlot). a ++ b) (ap (leaf_slots leaf) (value_at row leaf.top)) (rows_slots-is leaf rows)
