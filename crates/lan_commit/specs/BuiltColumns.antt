-- The writer's pages of columns of slots.
use Rattle.std.specs.Prelude.{⊤, List, [], ◌∷◌, All}
use Rattle.lan_levels.specs.PlainSlots.{PlainSlot}
use Rattle.lan_levels.specs.ZipForm.{leaf_form}
use Rattle.lan_levels.specs.ZipWritten.{CanStand}
use Rattle.lan_model.specs.Leaves.{PlainLeaf}
use Rattle.lan_meta.specs.declared.page.BuiltPage.{BuiltPage}
use Rattle.lan_meta.specs.ColumnWritten.{written}

-- the pages of each leaf's slots
abbrev pub built : List PlainLeaf → List (List PlainSlot) → List (List BuiltPage)
built [] columns = []
built (leaf ∷ leaves) [] = []
built (leaf ∷ leaves) (slots ∷ columns) = written leaf slots ∷ built leaves columns

-- the slots of each leaf can stand in a page of it
abbrev pub CanBeBuilt : List PlainLeaf → List (List PlainSlot) → Type 0
CanBeBuilt [] columns = ⊤
CanBeBuilt (leaf ∷ leaves) [] = ⊤
CanBeBuilt (leaf ∷ leaves) (slots ∷ columns) = All (CanStand (leaf_form leaf)) slots × CanBeBuilt leaves columns
