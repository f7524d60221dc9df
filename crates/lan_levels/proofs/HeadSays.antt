-- What the first slot of a value says of it in each leaf.
use Rattle.std.proofs.Common.{◌≡◌, ℕ, ◌<◌, Bool, List, [], ◌∷◌, ◌++◌, length, refl, ap, arith}
use Rattle.lan_model.specs.declared.tree.Layer.{Layer}
use Rattle.lan_model.specs.declared.tree.Layer.TheVariants as layer
use Rattle.lan_model.specs.Plain.{PlainType, primitive, vector, text, bytes as byte_type, list, struct, PlainField, field, PlainValue, null, bits, raw, items, group, PlainValues, no_values, one_value}
use Rattle.lan_model.specs.Fits.{Fits}
use Rattle.lan_levels.specs.declared.slot.State.{State}
use Rattle.lan_levels.specs.declared.slot.State.TheVariants as state
use Rattle.lan_levels.specs.PlainSlots.{nothing, PlainSlot}
use Rattle.lan_levels.specs.SlotsOf.{slots_of, slot, flat, lists_in, piece_of}
use Rattle.lan_levels.specs.EachLeaf.{EachLeaf}
use Rattle.lan_levels.specs.Loosened.{loosened}
use Rattle.lan_levels.proofs.Heads.{IsInside, Headed, inner_depth, HeadedAt, InnerAt, headed, members_headed}
use Rattle.lan_levels.proofs.EachLeaf.{EachLeaf-all, EachLeaf-map, EachLeafOf-map, EachLeaf-path, EachLeafOf-path}

-- of a null, of an empty list, and of anything else
abbrev pub Says : PlainValue → ℕ → State → List PlainSlot → Type 0
Says null depth s rest = (s ≡ state.Null depth) × (rest ≡ [])
Says (items no_values) depth s rest = (s ≡ state.Empty depth) × (rest ≡ [])
Says (bits b) depth s rest = IsInside depth s
Says (raw b) depth s rest = IsInside depth s
Says (items (one_value v vs)) depth s rest = IsInside depth s
Says (group vs) depth s rest = IsInside depth s

pub record HeadSays (v : PlainValue) (r : ℕ) (ty : PlainType ℕ) (path : List Layer) : Type 0 where
  pub head : PlainSlot
  pub rest : List PlainSlot
  pub is : slots_of ty path r v ≡ head ∷ rest
  pub rep : head.rep ≡ r
  pub says : Says v (inner_depth path) head.state rest

null_says : (r : ℕ) (ty : PlainType ℕ) (path : List Layer) → 0 < length path → HeadSays null r ty path
null_says r ty [] h = absurd (omega arith)
null_says r ty (l ∷ path) h = record { head = slot r (state.Null (length path)) nothing; rest = []; is = refl; rep = refl; says = (refl, refl) }

items_says : (n : Bool) (v : PlainValue) (vs : PlainValues) (r : ℕ) (ty : PlainType ℕ) (path : List Layer) → Headed (length path) (lists_in path) r (slots_of ty path r v)
    → HeadSays (items (one_value v vs)) r ty (layer.List n ∷ path)
items_says n v vs r ty path h =
    let later = flat (slots_of ty path (lists_in path)) vs in
    record { head = h.head; rest = h.rest ++ later; is = ap (λ (s : List PlainSlot). s ++ later) h.is; rep = h.rep; says = h.inside }

group_says : (vs : PlainValues) (r : ℕ) (ty : PlainType ℕ) (path : List Layer) → Headed (inner_depth path) (lists_in path) r (slots_of ty path r (group vs)) → HeadSays (group vs) r ty path
group_says vs r ty path h = record { head = h.head; rest = h.rest; is = h.is; rep = h.rep; says = h.inside }

abbrev HeadAt : PlainValue → (PlainType ℕ → List Layer → ℕ) → ℕ → ℕ → PlainType ℕ → List Layer → Type 0
HeadAt v r d j ty path = HeadSays v (r ty path) ty path

pub head_says : (v : PlainValue) (f : PlainField ℕ) (i : ℕ) (r : PlainType ℕ → List Layer → ℕ) → Fits (loosened f) v → EachLeaf f i (λ d j ty path. HeadSays v (r ty path) ty path)
head_says null f i r h = EachLeaf-all f i (HeadAt null r) (λ d j ty path a b e. null_says (r ty path) ty path e)
head_says (bits b) (field id name n (primitive p)) i r h = record { head = slot (r (primitive p) (layer.Item n ∷ [])) state.Here (piece_of (primitive p) (bits b)); rest = []; is = refl; rep = refl; says = tt }
head_says (bits b) (field id name n (vector p k)) i r h = absurd h
head_says (bits b) (field id name n text) i r h = absurd h
head_says (bits b) (field id name n byte_type) i r h = absurd h
head_says (bits b) (field id name n (list item)) i r h = absurd h
head_says (bits b) (field id name n (struct members)) i r h = absurd h
head_says (raw s) (field id name n (primitive p)) i r h = absurd h
head_says (raw s) (field id name n (vector p k)) i r h = record { head = slot (r (vector p k) (layer.Item n ∷ [])) state.Here (piece_of (vector p k) (raw s)); rest = []; is = refl; rep = refl; says = tt }
head_says (raw s) (field id name n text) i r h = record { head = slot (r text (layer.Item n ∷ [])) state.Here (piece_of text (raw s)); rest = []; is = refl; rep = refl; says = tt }
head_says (raw s) (field id name n byte_type) i r h = record { head = slot (r byte_type (layer.Item n ∷ [])) state.Here (piece_of byte_type (raw s)); rest = []; is = refl; rep = refl; says = tt }
head_says (raw s) (field id name n (list item)) i r h = absurd h
head_says (raw s) (field id name n (struct members)) i r h = absurd h
head_says (items vs) (field id name n (primitive p)) i r h = absurd h
head_says (items vs) (field id name n (vector p k)) i r h = absurd h
head_says (items vs) (field id name n text) i r h = absurd h
head_says (items vs) (field id name n byte_type) i r h = absurd h
head_says (items no_values) (field id name n (list item)) i r h =
    EachLeaf-all item i (λ d j ty path. HeadSays (items no_values) (r ty (layer.List n ∷ path)) ty (layer.List n ∷ path))
    (λ d j ty path a b e. record { head = slot (r ty (layer.List n ∷ path)) (state.Empty (length path)) nothing; rest = []; is = refl; rep = refl; says = (refl, refl) })
head_says (items (one_value v vs)) (field id name n (list item)) i r h =
    EachLeaf-map item i (λ d j ty path. HeadedAt (λ ty path. r ty (layer.List n ∷ path)) v ty path)
    (λ d j ty path. HeadSays (items (one_value v vs)) (r ty (layer.List n ∷ path)) ty (layer.List n ∷ path))
    (λ d j ty path a b e p. items_says n v vs (r ty (layer.List n ∷ path)) ty path p)
    (EachLeaf-path item i (HeadedAt (λ ty path. r ty (layer.List n ∷ path)) v) (headed v item (λ ty path. r ty (layer.List n ∷ path)) h.0))
head_says (items vs) (field id name n (struct members)) i r h = absurd h
head_says (group vs) (field id name n (primitive p)) i r h = absurd h
head_says (group vs) (field id name n (vector p k)) i r h = absurd h
head_says (group vs) (field id name n text) i r h = absurd h
head_says (group vs) (field id name n byte_type) i r h = absurd h
head_says (group vs) (field id name n (list item)) i r h = absurd h
head_says (group vs) (field id name n (struct members)) i r h =
    EachLeafOf-map members n 0 i (λ d j ty path. InnerAt r (group vs) ty path) (HeadAt (group vs) r)
    (λ d j ty path a b e p. group_says vs (r ty path) ty path p)
    (EachLeafOf-path members n 0 i (InnerAt r (group vs)) (members_headed vs members n 0 vs r refl h))
