-- A value is put together slot by slot: what is left in each leaf of a field, and what a step takes.
use Rattle.std.specs.Prelude.{◌≡◌, ◌≢◌, ℕ, ◌+◌, ◌<◌, ◌≤◌, Bool, true, false, List, [], ◌∷◌, ◌++◌, drop, slice_index, slice_get, Some, IsTrue, IsUtf8, ⊤, ◌⊎◌}
use Rattle.lan_model.specs.declared.tree.Layer.{Layer}
use Rattle.lan_model.specs.declared.tree.Layer.TheVariants as layer
use Rattle.lan_model.specs.Plain.{PlainType, text, list, struct, PlainField, field, PlainFields, no_fields, one_field, PlainValue, null, bits, raw, PlainValues, no_values, one_value}
use Rattle.lan_model.specs.Fits.{Fits, FitsBits, FitsRaw}
use Rattle.lan_levels.specs.declared.slot.State.{State}
use Rattle.lan_levels.specs.declared.slot.State.TheVariants as state
use Rattle.lan_levels.specs.declared.slot.SlotRun.{SlotRun}
use Rattle.lan_levels.specs.declared.join.Join.{Join}
use Rattle.lan_levels.specs.declared.join.Join.TheVariants as join
use Rattle.lan_levels.specs.declared.bare.Mark.{Mark}
use Rattle.lan_levels.specs.declared.bare.Mark.TheVariants as mark
use Rattle.lan_levels.specs.PlainSlots.{PlainPiece, nothing, bytes, PlainSlot}
use Rattle.lan_levels.specs.SlotsOf.{slot, slots_of, lists_in, piece_of}
use Rattle.lan_levels.specs.EachLeaf.{leaf_count, EachLeaf, SomeLeaf, IsClosed, first_lists}
use Rattle.lan_levels.specs.Loosened.{type_loosened, loosened}
use Rattle.lan_levels.specs.BadSlots.{slots_at, HasBadNull, HasBadText}

-- the slots at a place that are not yet taken
abbrev pub left_at : List SlotRun → List ℕ → ℕ → List PlainSlot
left_at runs places j = drop (slice_index places j) (slots_at runs j)

-- nothing is taken yet
abbrev pub AtStart : List SlotRun → (ℕ → List PlainSlot) → Type 0
AtStart runs left = (j : ℕ) → left j ≡ slots_at runs j

-- the first, if there is one, begins an item of a list of so many list layers, or of one further out
abbrev pub IsLater : ℕ → List PlainSlot → Type 0
IsLater j [] = ⊤
IsLater j (x ∷ xs) = j ≤ x.rep

-- all but the places from `i` to before `past` stay
pub record Keeps (i past : ℕ) (old new : ℕ → List PlainSlot) : Type 0 where
  pub before : (j : ℕ) → j < i → new j ≡ old j
  pub after : (j : ℕ) → past ≤ j → new j ≡ old j

-- one slot is taken at the place `i`
pub record Step (i : ℕ) (old new : ℕ → List PlainSlot) (s : PlainSlot) : Type 0 where
  pub here : old i ≡ s ∷ new i
  pub keeps : Keeps i (i + 1) old new

-- the repetition number of a value's first slot, where `lists` list layers were entered since the last slot that began the value
abbrev pub first_rep : ℕ → List Layer → ℕ
first_rep lists [] = lists
first_rep lists (layer.Item n ∷ path) = first_rep lists path
first_rep lists (layer.Struct n m ∷ path) = first_rep lists path
first_rep lists (layer.List n ∷ path) = first_rep (lists + 1) path

-- how many layers a leaf has inside a layer that is `below` layers further out than the path
abbrev pub layers_below : ℕ → List Layer → ℕ
layers_below below [] = below
layers_below below (layer.Item n ∷ path) = below
layers_below below (layer.Struct n m ∷ path) = layers_below (below + 1) path
layers_below below (layer.List n ∷ path) = layers_below (below + 1) path

-- the value begins what is left at a chosen place, and what follows it begins no item inside it
abbrev pub BeginsIn : (ℕ → Bool) → ℕ → PlainValue → (ℕ → List PlainSlot) → (PlainType ℕ → List Layer → List PlainSlot) → ℕ → ℕ → PlainType ℕ → List Layer → Type 0
BeginsIn chosen lists v old rest d j ty path = chosen j ≡ true → (old j ≡ slots_of ty path (first_rep lists path) v ++ rest ty path) × IsLater (lists_in path) (rest ty path)

-- the value is taken: it fits, its slots are those between old and new, and whatever value of the shape begins what was left, it leaves the same
pub record Took (f : PlainField ℕ) (lists i : ℕ) (old new : ℕ → List PlainSlot) (v : PlainValue) : Type 0 where
  pub fits : Fits f v
  pub taken : EachLeaf f i (λ d j ty path. old j ≡ slots_of ty path (first_rep lists path) v ++ new j)
  pub keeps : Keeps i (i + leaf_count f) old new
  pub only : (chosen : ℕ → Bool) (w : PlainValue) (rest : PlainType ℕ → List Layer → List PlainSlot) → IsClosed f i chosen → Fits (loosened f) w → EachLeaf f i (BeginsIn chosen lists w old rest)
      → EachLeaf f i (λ d j ty path. chosen j ≡ true → new j ≡ rest ty path)

-- no value of the shape begins what is left at the chosen places
abbrev pub NoneBegins : PlainField ℕ → ℕ → ℕ → (ℕ → List PlainSlot) → (ℕ → Bool) → Type 0
NoneBegins f lists i old chosen = (w : PlainValue) (rest : PlainType ℕ → List Layer → List PlainSlot) → Fits (loosened f) w → EachLeaf f i (BeginsIn chosen lists w old rest) → ⊥

-- no value does at the place `j` and the first places of the structs around it, whatever else is chosen
abbrev pub NoneBeginsWith : PlainField ℕ → ℕ → ℕ → (ℕ → List PlainSlot) → ℕ → Type 0
NoneBeginsWith f lists i old j = (chosen : ℕ → Bool) → IsClosed f i chosen → chosen j ≡ true → NoneBegins f lists i old chosen

-- no value of the shape begins what is left in a leaf of the number `id` and the first leaves of the structs around it
abbrev pub HasNoShape : PlainField ℕ → ℕ → ℕ → (ℕ → List PlainSlot) → ℕ → Type 0
HasNoShape f lists i old id = SomeLeaf f i (λ d j ty path. (d ≡ id) × NoneBeginsWith f lists i old j)

-- why no value is taken
abbrev pub Refused : PlainField ℕ → ℕ → ℕ → (ℕ → List PlainSlot) → (ℕ → List PlainSlot) → Join → Type 0
Refused f lists i whole old (join.Shape id) = HasNoShape f lists i old id
Refused f lists i whole old (join.NotNull id) = HasBadNull f i old id
Refused f lists i whole old (join.NotText id) = HasBadText f i whole id
Refused f lists i whole old join.Memory = ⊤

-- the same, whatever the field's name
abbrev pub TookAs : ℕ → Bool → PlainType ℕ → ℕ → ℕ → (ℕ → List PlainSlot) → (ℕ → List PlainSlot) → PlainValue → Type 0
TookAs id n ty lists i old new v = (name : List ℕ) → Took (field id name n ty) lists i old new v

abbrev pub RefusedAs : ℕ → Bool → PlainType ℕ → ℕ → ℕ → (ℕ → List PlainSlot) → (ℕ → List PlainSlot) → Join → Type 0
RefusedAs id n ty lists i whole old e = (name : List ℕ) → Refused (field id name n ty) lists i whole old e

-- what the next slot in the first leaf of a list or struct says of it
abbrev pub MarkIs : ℕ → List PlainSlot → Mark → Type 0
MarkIs depth left mark.Null = (s : PlainSlot) × (rest : List PlainSlot) × (left ≡ s ∷ rest) × (s.state ≡ state.Null depth)
MarkIs depth left mark.Empty = (s : PlainSlot) × (rest : List PlainSlot) × (left ≡ s ∷ rest) × (s.state ≡ state.Empty depth)
MarkIs depth left mark.Inside = (s : PlainSlot) (rest : List PlainSlot) → left ≡ s ∷ rest → (s.state ≢ state.Null depth) × (s.state ≢ state.Empty depth)

-- what a state says of a layer with so many layers inside
abbrev pub StateMark : ℕ → State → Mark → Type 0
StateMark depth s mark.Null = s ≡ state.Null depth
StateMark depth s mark.Empty = s ≡ state.Empty depth
StateMark depth s mark.Inside = (s ≢ state.Null depth) × (s ≢ state.Empty depth)

-- the state of a null or of an empty list with so many layers inside
abbrev pub bare_state : Bool → ℕ → State
bare_state true depth = state.Empty depth
bare_state false depth = state.Null depth

-- the one slot of a null or empty layer, which is `below` layers further out than the path
abbrev pub bare_slot : Bool → ℕ → ℕ → List Layer → PlainSlot
bare_slot empty below lists path = slot (first_rep lists path) (bare_state empty (layers_below below path)) nothing

-- in each leaf the one slot of a null or empty layer is taken
pub record TookBare (f : PlainField ℕ) (empty : Bool) (below lists i : ℕ) (old new : ℕ → List PlainSlot) : Type 0 where
  pub taken : EachLeaf f i (λ d j ty path. old j ≡ bare_slot empty below lists path ∷ new j)
  pub keeps : Keeps i (i + leaf_count f) old new

-- in a leaf of the number `id` something else stands
abbrev pub IsNotBare : PlainField ℕ → Bool → ℕ → ℕ → ℕ → (ℕ → List PlainSlot) → ℕ → Type 0
IsNotBare f empty below lists i old id =
    SomeLeaf f i (λ d j ty path. (d ≡ id) × ((rest : List PlainSlot) → old j ≡ bare_slot empty below lists path ∷ rest → ⊥))

-- the same of members, one after another
abbrev pub TookEachBare : PlainFields ℕ → Bool → ℕ → ℕ → ℕ → (ℕ → List PlainSlot) → (ℕ → List PlainSlot) → Type 0
TookEachBare no_fields empty below lists i old new = old ≡ new
TookEachBare (one_field f fs) empty below lists i old new =
    (now : ℕ → List PlainSlot) × TookBare f empty below lists i old now × TookEachBare fs empty below lists (i + leaf_count f) now new

abbrev pub SomeIsNotBare : PlainFields ℕ → Bool → ℕ → ℕ → ℕ → (ℕ → List PlainSlot) → ℕ → Type 0
SomeIsNotBare no_fields empty below lists i old id = ⊥
SomeIsNotBare (one_field f fs) empty below lists i old id =
    IsNotBare f empty below lists i old id ⊎ ((now : ℕ → List PlainSlot) × TookBare f empty below lists i old now × SomeIsNotBare fs empty below lists (i + leaf_count f) now id)

-- members are taken one after another
abbrev pub TookEach : PlainFields ℕ → ℕ → ℕ → (ℕ → List PlainSlot) → (ℕ → List PlainSlot) → PlainValues → Type 0
TookEach no_fields lists i old new no_values = old ≡ new
TookEach (one_field f fs) lists i old new (one_value v vs) =
    (now : ℕ → List PlainSlot) × Took f lists i old now v × TookEach fs lists (i + leaf_count f) now new vs
TookEach _ lists i old new _ = ⊥

-- a member is refused, after those before it are taken
abbrev pub EachRefused : PlainFields ℕ → ℕ → ℕ → (ℕ → List PlainSlot) → (ℕ → List PlainSlot) → Join → Type 0
EachRefused no_fields lists i whole old e = ⊥
EachRefused (one_field f fs) lists i whole old e =
    Refused f lists i whole old e
    ⊎ ((now : ℕ → List PlainSlot) × (v : PlainValue) × Took f lists i old now v × EachRefused fs lists (i + leaf_count f) whole now e)

-- the next slot in the item's first leaf begins a further item
abbrev pub Continues : PlainField ℕ → ℕ → (ℕ → List PlainSlot) → Type 0
Continues item i old = (s : PlainSlot) × (rest : List PlainSlot) × (old i ≡ s ∷ rest) × (s.rep ≡ first_lists item)

-- items after the first are taken one after another
abbrev pub TookLater : PlainField ℕ → ℕ → (ℕ → List PlainSlot) → (ℕ → List PlainSlot) → PlainValues → Type 0
TookLater item i old new no_values = old ≡ new
TookLater item i old new (one_value v vs) =
    Continues item i old × ((now : ℕ → List PlainSlot) × Took item 0 i old now v × TookLater item i now new vs)

-- the first item and those after it
pub record TookItems (item : PlainField ℕ) (lists i : ℕ) (old new : ℕ → List PlainSlot) (vs : PlainValues) : Type 0 where
  pub first : PlainValue
  pub more : PlainValues
  pub now : ℕ → List PlainSlot
  pub is : vs ≡ one_value first more
  pub head : Took item (lists + 1) i old now first
  pub rest : TookLater item i now new more

-- the type has no fields inside
abbrev pub IsAlone : PlainType ℕ → Type 0
IsAlone (list item) = ⊥
IsAlone (struct members) = ⊥
IsAlone ty = ⊤

-- the one slot of a value in its own leaf
abbrev pub leaf_slot : PlainType ℕ → ℕ → PlainValue → PlainSlot
leaf_slot ty r null = slot r (state.Null 0) nothing
leaf_slot ty r v = slot r state.Here (piece_of ty v)

-- a leaf of the type takes the value, which is not null
abbrev pub FitsItem : PlainType ℕ → PlainValue → Type 0
FitsItem ty (bits b) = FitsBits ty b
FitsItem ty (raw s) = FitsRaw ty s
FitsItem ty _ = ⊥

-- the value fits, and its piece is this
abbrev pub IsItem : PlainType ℕ → PlainPiece → PlainValue → Type 0
IsItem ty piece v = FitsItem ty v × (piece_of ty v ≡ piece)

-- no value of the shape has the piece
abbrev pub NoItem : PlainType ℕ → PlainPiece → Type 0
NoItem ty piece = (w : PlainValue) → FitsItem (type_loosened ty) w → piece_of ty w ≡ piece → ⊥

-- why a piece of the leaf `id` is no value's
abbrev pub ItemRefused : ℕ → PlainType ℕ → PlainPiece → Join → Type 0
ItemRefused id ty piece (join.Shape d) = (id ≡ d) × NoItem ty piece
ItemRefused id ty piece (join.NotNull d) = ⊥
ItemRefused id ty piece (join.NotText d) = (id ≡ d) × (ty ≡ text) × ((s : List ℕ) × (piece ≡ bytes s) × (IsUtf8 s → ⊥))
ItemRefused id ty piece join.Memory = ⊤

-- the value's one slot is this
abbrev pub IsLeafValue : Bool → PlainType ℕ → PlainSlot → PlainValue → Type 0
IsLeafValue n ty s null = IsTrue n × (leaf_slot ty s.rep null ≡ s)
IsLeafValue n ty s v = FitsItem ty v × (leaf_slot ty s.rep v ≡ s)

-- the value is null, or a leaf of the loosened type takes it
abbrev pub HasShape : PlainType ℕ → PlainValue → Type 0
HasShape ty null = ⊤
HasShape ty v = FitsItem (type_loosened ty) v

-- why a slot of the leaf `id` is no value's
abbrev pub LeafRefused : ℕ → Bool → PlainType ℕ → PlainSlot → Join → Type 0
LeafRefused id n ty s (join.Shape d) = (id ≡ d) × ((w : PlainValue) → HasShape ty w → leaf_slot ty s.rep w ≡ s → ⊥)
LeafRefused id n ty s (join.NotNull d) = (id ≡ d) × (n ≡ false) × (s.state ≡ state.Null 0) × (s.value ≡ nothing)
LeafRefused id n ty s (join.NotText d) = (id ≡ d) × (ty ≡ text) × (s.state ≡ state.Here) × ((t : List ℕ) × (s.value ≡ bytes t) × (IsUtf8 t → ⊥))
LeafRefused id n ty s join.Memory = ⊤

abbrev mutual
  -- inside so many layers the field has room for its own, up to sixteen
  pub IsShallow : PlainField ℕ → ℕ → Type 0
  IsShallow (field id name n (list item)) outer = (outer < 16) × IsShallow item (outer + 1)
  IsShallow (field id name n (struct members)) outer = (outer < 16) × AreShallow members (outer + 1)
  IsShallow (field id name n ty) outer = outer < 16

  pub AreShallow : PlainFields ℕ → ℕ → Type 0
  AreShallow no_fields outer = ⊤
  AreShallow (one_field f fs) outer = IsShallow f outer × AreShallow fs outer

-- the first item is refused, or one that continues the items
abbrev pub ItemsRefused : PlainField ℕ → ℕ → ℕ → (ℕ → List PlainSlot) → (ℕ → List PlainSlot) → Join → Type 0
ItemsRefused item lists i whole old e =
    Refused item (lists + 1) i whole old e
    ⊎ ((now : ℕ → List PlainSlot) × (vs : PlainValues) × TookItems item lists i old now vs × Continues item i now × Refused item 0 i whole now e)

-- a slot of the place `j` is left
abbrev pub IsUnread : List SlotRun → (ℕ → List PlainSlot) → ℕ → Type 0
IsUnread runs left id =
    (j : ℕ) × (run : SlotRun) × (s : PlainSlot) × (rest : List PlainSlot) × (slice_get runs j ≡ Some run) × (run.leaf ≡ id) × (left j ≡ s ∷ rest)
