-- What is written is read.
use Rattle.std.specs.Prelude.{ℕ, ◌^◌, ◌<◌, ◌≤◌, cond, List, [], ◌∷◌, length, All}
use Rattle.lan_model.specs.Leaves.{PlainLeaf}
use Rattle.lan_levels.specs.ZipBuffers.{zip_content, zip_places}
use Rattle.lan_levels.specs.ZipRows.{HasPlaces}
use Rattle.lan_model.specs.declared.tree.Leaf.{Leaf}
use Rattle.lan_levels.specs.PlainSlots.{PlainSlot}
use Rattle.lan_levels.specs.ZipSlots.{AreRows, IsZip}
use Rattle.lan_levels.specs.ZipForm.{leaf_form, written_form}
use Rattle.lan_levels.specs.ZipWritten.{CanStand, is_indexed, ArePage}

-- the first buffer of a page of slots is these slots, and as many rows as they begin
abbrev pub PagesAreRead : Type 0
PagesAreRead =
    (leaf : Leaf) (slots : List PlainSlot) (content : List ℕ) (more : List (List ℕ)) (rows : ℕ) → length leaf.layers ≤ 16 → All (CanStand (written_form leaf)) slots → AreRows (written_form leaf).lists rows slots
    → ArePage (written_form leaf) slots (content ∷ more) → IsZip (written_form leaf) rows content slots

-- the buffers that are written of slots are a page of them: the slots, as many rows as they begin, and where these aren't known otherwise their places
abbrev pub WrittenPagesStand : Type 0
WrittenPagesStand =
    (leaf : PlainLeaf) (rows : ℕ) (slots : List PlainSlot) → length leaf.layers ≤ 16 → All (CanStand (leaf_form leaf)) slots → AreRows (leaf_form leaf).lists rows slots → length (zip_content (leaf_form leaf) slots) < 2 ^ 64
    → IsZip (leaf_form leaf) rows (zip_content (leaf_form leaf) slots) slots
    × HasPlaces (leaf_form leaf) rows (zip_content (leaf_form leaf) slots) slots (cond (is_indexed (leaf_form leaf)) (zip_places (leaf_form leaf) slots ∷ []) [])
