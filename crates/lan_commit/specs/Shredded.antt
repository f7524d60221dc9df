-- Rows to be appended, kept as the slots that they have in each leaf of their fields.
use Rattle.std.specs.Prelude.{◌≡◌, ℕ, ◌^◌, ◌<◌, List, [], ◌∷◌, ◌++◌, length, map, All}
use Rattle.lan_levels.specs.PlainSlots.{PlainSlot}
use Rattle.lan_levels.specs.SlotsOf.{row_slots, rows_slots}
use Rattle.lan_model.specs.Leaves.{PlainLeaf, leaves_from}
use Rattle.lan_model.specs.Plain.{PlainField, PlainValue, PlainValues, fields_from, values_from}
use Rattle.lan_model.specs.Room.{AllHaveRoom}
use Rattle.lan_model.specs.Table.{FitsRow}

-- leaves, the slots of each, and a count of rows
pub record Shredded : Type 0 where
  pub leaves : List PlainLeaf
  pub columns : List (List PlainSlot)
  pub count : ℕ

-- in each leaf its slots, and behind them those of one row more
abbrev pub with_row : List PlainLeaf → PlainValues → List (List PlainSlot) → List (List PlainSlot)
with_row [] row columns = []
with_row (leaf ∷ leaves) row [] = []
with_row (leaf ∷ leaves) row (slots ∷ columns) = (slots ++ row_slots leaf row) ∷ with_row leaves row columns

-- the slots of rows in each leaf of their fields
abbrev pub columns_of : List (PlainField ℕ) → List (List PlainValue) → List (List PlainSlot)
columns_of fields rows = map (λ leaf. rows_slots leaf (map values_from rows)) (leaves_from (fields_from fields) 0)

-- rows that can be written: they are of the fields, no text and no bytes in them are as long as 2^32, and the slots of a leaf can be counted
pub record CanBeWritten (fields : List (PlainField ℕ)) (rows : List (List PlainValue)) : Type 0 where
  pub fit : All (FitsRow fields) rows
  pub room : All (λ row. AllHaveRoom (values_from row)) rows
  pub counted : All (λ slots. length slots < 2 ^ 64) (columns_of fields rows)

-- what is kept of rows of these fields
pub record AreRows (fields : List (PlainField ℕ)) (rows : List (List PlainValue)) (kept : Shredded) : Type 0 where
  pub leaves : kept.leaves ≡ leaves_from (fields_from fields) 0
  pub columns : kept.columns ≡ columns_of fields rows
  pub count : kept.count ≡ length rows
  pub can : CanBeWritten fields rows
