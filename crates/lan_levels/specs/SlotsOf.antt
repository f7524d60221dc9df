-- The slots of a value in one leaf.
use Rattle.std.specs.Prelude.{◌≡◌, ℕ, ◌+◌, ◌/◌, Bool, true, false, List, [], ◌∷◌, ◌++◌, length, reverse, zero, suc}
use Rattle.std.specs.Int.{bytes_low_first}
use Rattle.lan_model.specs.declared.tree.Primitive.{Primitive}
use Rattle.lan_model.specs.declared.tree.Primitive.TheVariants as kind
use Rattle.lan_model.specs.declared.tree.Layer.{Layer}
use Rattle.lan_model.specs.declared.tree.Layer.TheVariants as layer
use Rattle.lan_model.specs.Plain.{PlainType, primitive, PlainValue, null, bits, raw, items, group, PlainValues, no_values, one_value}
use Rattle.lan_model.specs.Fits.{width}
use Rattle.lan_model.specs.Leaves.{PlainLeaf}
use Rattle.lan_levels.specs.declared.slot.State.{State}
use Rattle.lan_levels.specs.declared.slot.State.TheVariants as state
use Rattle.lan_levels.specs.PlainSlots.{PlainPiece, nothing, bit, bytes, PlainSlot}

-- whether the bit of a bool is set
abbrev pub is_set : ℕ → Bool
is_set zero = false
is_set (suc n) = true

-- the piece of a primitive's bits
abbrev pub bits_piece : Primitive → ℕ → PlainPiece
bits_piece kind.Bool b = bit (is_set b)
bits_piece p b = bytes (bytes_low_first 0 (width p / 8) b)

-- the piece of a leaf's value
abbrev pub piece_of : PlainType ℕ → PlainValue → PlainPiece
piece_of (primitive p) (bits b) = bits_piece p b
piece_of ty (raw s) = bytes s
piece_of ty v = nothing

-- how many of the layers are lists
abbrev pub lists_in : List Layer → ℕ
lists_in [] = 0
lists_in (layer.List nullable ∷ ls) = lists_in ls + 1
lists_in (_ ∷ ls) = lists_in ls

-- the member at a place, null past the end
abbrev pub at_place : ℕ → PlainValues → PlainValue
at_place m no_values = null
at_place zero (one_value v vs) = v
at_place (suc m) (one_value v vs) = at_place m vs

-- what each value gives, one after another
abbrev pub flat : (PlainValue → List PlainSlot) → PlainValues → List PlainSlot
flat f no_values = []
flat f (one_value v vs) = f v ++ flat f vs

-- what a list gives: the empty list's slot, or what the first item and the later ones give
abbrev pub items_of : PlainSlot → (PlainValue → List PlainSlot) → (PlainValue → List PlainSlot) → PlainValues → List PlainSlot
items_of none first later no_values = none ∷ []
items_of none first later (one_value v vs) = first v ++ flat later vs

abbrev pub slot : ℕ → State → PlainPiece → PlainSlot
slot r s x = record { rep = r; state = s; value = x }

-- the slots of a value, of which the first has the repetition number `r`; the layers go from the outermost inward
abbrev pub slots_of : PlainType ℕ → List Layer → ℕ → PlainValue → List PlainSlot
slots_of ty [] r v = []
slots_of ty (l ∷ inner) r null = slot r (state.Null (length inner)) nothing ∷ []
slots_of ty (layer.Item nullable ∷ inner) r v = slot r state.Here (piece_of ty v) ∷ []
slots_of ty (layer.Struct nullable m ∷ inner) r (group vs) = slots_of ty inner r (at_place m vs)
slots_of ty (layer.List nullable ∷ inner) r (items vs) =
    items_of (slot r (state.Empty (length inner)) nothing) (slots_of ty inner r) (slots_of ty inner (lists_in inner)) vs
slots_of ty (l ∷ inner) r v = []

-- the slots of the items of a list after the first; the items' layers are `inner`
abbrev pub later_slots : PlainType ℕ → List Layer → PlainValues → List PlainSlot
later_slots ty inner vs = flat (slots_of ty inner (lists_in inner)) vs

-- the slots of a list with these items
abbrev pub items_slots : PlainType ℕ → List Layer → ℕ → PlainValues → List PlainSlot
items_slots ty inner r vs = items_of (slot r (state.Empty (length inner)) nothing) (slots_of ty inner r) (slots_of ty inner (lists_in inner)) vs

-- the list has grown by the slots but for those that are left
pub record Grown (old new left slots : List PlainSlot) : Type 0 where
  pub part : List PlainSlot
  pub grown : new ≡ old ++ part
  pub front : part ++ left ≡ slots

-- the list has grown by a front of the slots
abbrev pub EndsWithPart : List PlainSlot → List PlainSlot → List PlainSlot → Type 0
EndsWithPart old new slots = (left : List PlainSlot) × Grown old new left slots

-- the slots of a top field's value in a leaf of that field
abbrev pub leaf_slots : PlainLeaf → PlainValue → List PlainSlot
leaf_slots l v = slots_of l.ty (reverse l.layers) (lists_in (reverse l.layers)) v

-- the slots of a row in a leaf
abbrev pub row_slots : PlainLeaf → PlainValues → List PlainSlot
row_slots l row = leaf_slots l (at_place l.top row)

-- the slots of rows in a leaf, one row after another
abbrev pub rows_slots : PlainLeaf → List PlainValues → List PlainSlot
rows_slots l [] = []
rows_slots l (row ∷ rows) = row_slots l row ++ rows_slots l rows
