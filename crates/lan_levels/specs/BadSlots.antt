-- Slots that no value of a field has: nulls of what is not nullable, and texts that are not UTF-8.
use Rattle.std.specs.Prelude.{◌≡◌, ℕ, zero, suc, ◌+◌, ◌-◌, Bool, false, List, [], ◌∷◌, ◌++◌, length, map, filter, Contains, IsUtf8, ◌⊎◌}
use lib.Dec.{leb}
use Rattle.lan_model.specs.declared.tree.Layer.{Layer}
use Rattle.lan_model.specs.Plain.{PlainType, text, list, struct, PlainField, field, PlainFields, no_fields, one_field}
use Rattle.lan_levels.specs.declared.slot.State.TheVariants as state
use Rattle.lan_levels.specs.declared.slot.SlotRun.{SlotRun}
use Rattle.lan_levels.specs.PlainSlots.{nothing, bytes, PlainSlot, plain_slots}
use Rattle.lan_levels.specs.SlotsOf.{slot, lists_in}
use Rattle.lan_levels.specs.EachLeaf.{leaf_count, EachLeaf, SomeLeaf}

-- the slots of the run at a place, none past the end
abbrev pub slots_at : List SlotRun → ℕ → List PlainSlot
slots_at [] j = []
slots_at (run ∷ runs) zero = plain_slots run.slots
slots_at (run ∷ runs) (suc j) = slots_at runs j

-- the slots that begin a value of a field with these layers, and not an item inside it, each by how many list layers further out began there
abbrev pub begun : List Layer → List PlainSlot → List ℕ
begun path slots = map (λ s. s.rep - lists_in path) (filter (λ s. leb (lists_in path) s.rep) slots)

-- a slot of the leaf says that the outermost layer of the path is null; `outer` list layers further out began there, and before it the values `earlier` began
pub record SaysNull (slots : ℕ → List PlainSlot) (earlier : List ℕ) (outer d j : ℕ) (ty : PlainType ℕ) (path : List Layer) : Type 0 where
  pub depth : ℕ
  pub outermost : depth + 1 ≡ length path
  pub before : List PlainSlot
  pub rest : List PlainSlot
  pub stands : slots j ≡ before ++ slot (lists_in path + outer) (state.Null depth) nothing ∷ rest
  pub place : begun path before ≡ earlier

-- the field is not nullable, and at one and the same value of it the slots of all its leaves say that it is null
pub record IsBadNull (n : Bool) (f : PlainField ℕ) (i : ℕ) (slots : ℕ → List PlainSlot) : Type 0 where
  pub not_nullable : n ≡ false
  pub earlier : List ℕ
  pub outer : ℕ
  pub nulls : EachLeaf f i (SaysNull slots earlier outer)

abbrev mutual
  -- the field of the number `id`, or inside it, has such nulls
  pub HasBadNull : PlainField ℕ → ℕ → (ℕ → List PlainSlot) → ℕ → Type 0
  HasBadNull (field d name n (list item)) i slots id = ((d ≡ id) × IsBadNull n (field d name n (list item)) i slots) ⊎ HasBadNull item i slots id
  HasBadNull (field d name n (struct members)) i slots id = ((d ≡ id) × IsBadNull n (field d name n (struct members)) i slots) ⊎ SomeHasBadNull members i slots id
  HasBadNull (field d name n ty) i slots id = (d ≡ id) × IsBadNull n (field d name n ty) i slots

  pub SomeHasBadNull : PlainFields ℕ → ℕ → (ℕ → List PlainSlot) → ℕ → Type 0
  SomeHasBadNull no_fields i slots id = ⊥
  SomeHasBadNull (one_field f fs) i slots id = HasBadNull f i slots id ⊎ SomeHasBadNull fs (i + leaf_count f) slots id

-- one of the slots has a text that is not UTF-8
pub record IsBadText (slots : List PlainSlot) : Type 0 where
  pub rep : ℕ
  pub text : List ℕ
  pub stands : Contains slots (slot rep state.Here (bytes text))
  pub bad : IsUtf8 text → ⊥

-- a text leaf of the number `id` has such a slot
abbrev pub HasBadText : PlainField ℕ → ℕ → (ℕ → List PlainSlot) → ℕ → Type 0
HasBadText f i slots id = SomeLeaf f i (λ d j ty path. (d ≡ id) × (ty ≡ text) × IsBadText (slots j))
