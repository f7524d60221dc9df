-- Which values the slots of all leaves of a field stand for, and why there is none.
use Rattle.std.specs.Prelude.{◌≡◌, ℕ, Bool, true, List, [], ◌∷◌, map, ⊤}
use Rattle.lan_model.specs.Plain.{PlainField, PlainValue}
use Rattle.lan_model.specs.Fits.{Fits}
use Rattle.lan_model.specs.Leaves.{PlainLeaf, leaves_of}
use Rattle.lan_levels.specs.declared.slot.SlotRun.{SlotRun}
use Rattle.lan_levels.specs.declared.join.Join.{Join}
use Rattle.lan_levels.specs.declared.join.Join.TheVariants as join
use Rattle.lan_levels.specs.PlainSlots.{plain_slots}
use Rattle.lan_levels.specs.SlotsOf.{slots_of, lists_in, leaf_slots}
use Rattle.lan_levels.specs.EachLeaf.{EachLeaf, SomeLeaf, IsClosed}
use Rattle.lan_levels.specs.Loosened.{loosened}
use Rattle.lan_levels.specs.BadSlots.{slots_at, HasBadNull, HasBadText}

-- one run for each leaf of the field, in order
abbrev pub AreRunsOf : PlainField ℕ → List SlotRun → Type 0
AreRunsOf f runs = map (λ run. run.leaf) runs ≡ map (λ l. l.id) (leaves_of f 0 [])

-- each run has the value's slots in its leaf
abbrev pub HaveSlots : List PlainLeaf → List SlotRun → PlainValue → Type 0
HaveSlots [] [] v = ⊤
HaveSlots (l ∷ ls) (run ∷ runs) v = (plain_slots run.slots ≡ leaf_slots l v) × HaveSlots ls runs v
HaveSlots _ _ v = ⊥

-- the value fits the field, and has these slots in every leaf
abbrev pub IsJoin : PlainField ℕ → List SlotRun → PlainValue → Type 0
IsJoin f runs v = Fits f v × HaveSlots (leaves_of f 0 []) runs v

-- the value has these slots in the chosen leaves
abbrev pub HasSlotsIn : PlainField ℕ → List SlotRun → (ℕ → Bool) → PlainValue → Type 0
HasSlotsIn f runs chosen v = EachLeaf f 0 (λ d j ty path. chosen j ≡ true → slots_at runs j ≡ slots_of ty path (lists_in path) v)

-- no value of the field's shape has the slots of a leaf of the number `id` and those of the first leaves of the structs around it,
-- whatever other leaves are chosen
abbrev pub IsMisshapen : PlainField ℕ → List SlotRun → ℕ → Type 0
IsMisshapen f runs id = SomeLeaf f 0 (λ d k ty path. (d ≡ id)
    × ((chosen : ℕ → Bool) → IsClosed f 0 chosen → chosen k ≡ true → (v : PlainValue) → Fits (loosened f) v → HasSlotsIn f runs chosen v → ⊥))

-- why there is no value
abbrev pub JoinCause : PlainField ℕ → List SlotRun → Join → Type 0
JoinCause f runs (join.Shape id) = IsMisshapen f runs id
JoinCause f runs (join.NotNull id) = HasBadNull f 0 (slots_at runs) id
JoinCause f runs (join.NotText id) = HasBadText f 0 (slots_at runs) id
JoinCause f runs join.Memory = ⊤
