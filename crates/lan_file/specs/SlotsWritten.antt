-- Files that are written of slots by the writer's rule for pages.
use Rattle.std.specs.Prelude.{◌≡◌, ◌≢◌, ℕ, ◌^◌, ◌<◌, ◌≤◌, ⊤, List, [], ◌∷◌, length, map, All, Some, slice_get}
use Rattle.lan_levels.specs.PlainSlots.{PlainSlot}
use Rattle.lan_levels.specs.SlotsOf.{lists_in, rows_slots}
use Rattle.lan_levels.specs.ZipForm.{leaf_form}
use Rattle.lan_levels.specs.ZipSlots.{AreRows}
use Rattle.lan_levels.specs.ZipWritten.{CanStand}
use Rattle.lan_model.specs.declared.tree.Primitive.TheVariants.{Bool}
use Rattle.lan_model.specs.Leaves.{PlainLeaf, leaves_from}
use Rattle.lan_model.specs.Plain.{PlainType, vector, PlainFields, PlainValues}
use Rattle.lan_meta.specs.declared.page.BuiltPage.{BuiltPage}
use Rattle.lan_meta.specs.ColumnWritten.{written}
use Rattle.lan_file.specs.Heads.{Pick}

-- a vector that a table may have
abbrev pub TakesBytes : PlainType ℕ → Type 0
TakesBytes (vector q n) = (q ≢ Bool) × (n ≤ 65536)
TakesBytes ty = ⊤

-- a leaf, and the slots of its column
pub record Given : Type 0 where
  pub leaf : PlainLeaf
  pub slots : List PlainSlot

-- the writer's pages of each column
abbrev pub columns_of : List Given → List (List BuiltPage)
columns_of given = map (λ (g : Given). written g.leaf g.slots) given

-- a leaf of a table, and the slots of so many rows in it
pub record IsGiven (rows : ℕ) (g : Given) : Type 0 where
  pub layers : length g.leaf.layers ≤ 16
  pub bytes : TakesBytes g.leaf.ty
  pub can : All (CanStand (leaf_form g.leaf)) g.slots
  pub rows_are : AreRows (lists_in g.leaf.layers) rows g.slots
  pub few : length g.slots < 2 ^ 64

-- these slots are those of the columns that are asked, each as one of its leaf
abbrev pub AreGiven : List Given → List Pick → List (List PlainSlot) → Type 0
AreGiven given [] slots = slots ≡ []
AreGiven given (pick ∷ picks) slots = (g : Given) × (later : List (List PlainSlot)) × (slots ≡ g.slots ∷ later) × (slice_get given pick.column ≡ Some g) × (g.leaf ≡ pick.leaf) × AreGiven given picks later

-- ---- of rows

abbrev pub given_of : List PlainValues → PlainLeaf → Given
given_of rows leaf = record { leaf = leaf; slots = rows_slots leaf rows }

-- the writer's pages of the rows, for each leaf of the fields
abbrev pub rows_columns : PlainFields ℕ → List PlainValues → List (List BuiltPage)
rows_columns fields rows = columns_of (map (given_of rows) (leaves_from fields 0))

-- a leaf of a table, whose slots of the rows can be counted
pub record TakesRows (rows : List PlainValues) (leaf : PlainLeaf) : Type 0 where
  pub layers : length leaf.layers ≤ 16
  pub bytes : TakesBytes leaf.ty
  pub few : length (rows_slots leaf rows) < 2 ^ 64

-- each column that is asked is asked as one of the leaf of its place
abbrev pub AreLeaves : List PlainLeaf → List Pick → Type 0
AreLeaves leaves [] = ⊤
AreLeaves leaves (pick ∷ picks) = (slice_get leaves pick.column ≡ Some pick.leaf) × AreLeaves leaves picks

-- what the rows have in the leaves of the columns that are asked
abbrev pub slots_asked : List PlainValues → List Pick → List (List PlainSlot)
slots_asked rows picks = map (λ (pick : Pick). rows_slots pick.leaf rows) picks
