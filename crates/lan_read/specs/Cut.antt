-- Slots of a leaf cut into those of rows.
use Rattle.std.specs.Prelude.{◌≡◌, ℕ, List, [], ◌∷◌, cond, get_or, nat_eq, length, reverse}
use Rattle.lan_levels.specs.PlainSlots.{PlainSlot}
use Rattle.lan_levels.specs.SlotsOf.{lists_in}
use Rattle.lan_model.specs.Leaves.{PlainLeaf}

-- the slots before the first row, and the slots of each row
pub record Cut : Type 0 where
  pub front : List PlainSlot
  pub rows : List (List PlainSlot)

-- with one slot before them, which may begin a row
abbrev pub put_before : ℕ → PlainSlot → Cut → Cut
put_before lists s c = cond (nat_eq s.rep lists) (record { front = []; rows = (s ∷ c.front) ∷ c.rows }) (record { front = s ∷ c.front; rows = c.rows })

-- a row begins at each slot whose repetition number is that of all list layers
abbrev pub cut_of : ℕ → List PlainSlot → Cut
cut_of lists [] = record { front = []; rows = [] }
cut_of lists (s ∷ ss) = put_before lists s (cut_of lists ss)

abbrev pub cut_at : PlainLeaf → List PlainSlot → Cut
cut_at leaf slots = cut_of (lists_in (reverse leaf.layers)) slots

-- the slots of the row at a place
abbrev pub slots_of_row : PlainLeaf → ℕ → List PlainSlot → List PlainSlot
slots_of_row leaf j slots = get_or (cut_at leaf slots).rows j []

-- the slots are those of so many rows: the first, where there is one, begins a row
pub record AreCut (leaf : PlainLeaf) (count : ℕ) (slots : List PlainSlot) : Type 0 where
  pub begins : (cut_at leaf slots).front ≡ []
  pub count_is : length (cut_at leaf slots).rows ≡ count
