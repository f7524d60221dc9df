-- The slots of some successive rows of a page.
use Rattle.std.specs.Prelude.{◌≡◌, ℕ, ◌+◌, ◌-◌, ◌<◌, ◌≤◌, List, ◌++◌, length}
use Rattle.lan_levels.specs.PlainSlots.{PlainSlot}
use Rattle.lan_levels.specs.ZipRows.{slots_before, slots_of_rows}
use Rattle.lan_levels.specs.ZipSlots.{starts, FirstBegins}

-- the slots of the rows of a page from `from` to before `past`, of which `row` is at hand, in a leaf with so many list layers
pub record PlainRows : Type 0 where
  pub lists : ℕ
  pub from : ℕ
  pub past : ℕ
  pub slots : List PlainSlot
  pub row : ℕ

-- the slots are those of so many whole rows; without list layers each slot is a row
pub record HasRows (lists rows : ℕ) (slots : List PlainSlot) : Type 0 where
  pub starts_are : starts lists slots ≡ rows
  pub first : FirstBegins lists slots
  pub alone : lists ≡ 0 → length slots ≡ rows

-- behind the old slots stand those of so many rows
pub record GrewByRows (lists rows : ℕ) (old new : List PlainSlot) : Type 0 where
  pub slots : List PlainSlot
  pub grew : new ≡ old ++ slots
  pub are : HasRows lists rows slots

-- the slots of the row at hand
abbrev pub slots_at_hand : PlainRows → List PlainSlot
slots_at_hand r = slots_of_rows r.lists (r.row - r.from) (r.row - r.from + 1) r.slots

-- the row at hand is one of the rows, and its slots are those from `begin` to before `end`
pub record ArePlacesOf (lists from past : ℕ) (slots : List PlainSlot) (row begin end : ℕ) : Type 0 where
  pub are : HasRows lists (past - from) slots
  pub behind : from ≤ row
  pub before : row < past
  pub begin_is : begin ≡ length (slots_before lists (row - from) slots)
  pub end_is : end ≡ length (slots_before lists (row - from + 1) slots)
