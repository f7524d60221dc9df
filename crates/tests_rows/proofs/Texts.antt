-- The slots of three texts.
use Rattle.std.proofs.Common.{◌≡◌, ℕ, true, List, [], ◌∷◌, take, All, refl, sym, subst, arith}
use Rattle.std.proofs.lemmas.List.Elements.{All-nil, All-cons}
use Rattle.lan_model.specs.declared.tree.Layer.{Layer}
use Rattle.lan_model.specs.declared.tree.Layer.TheVariants as layer
use Rattle.lan_model.specs.declared.tree.Leaf.{Leaf}
use Rattle.lan_model.specs.Plain.{PlainType, text, plain_type}
use Rattle.lan_levels.specs.declared.slot.State.TheVariants as state
use Rattle.lan_levels.specs.PlainSlots.{PlainSlot, bytes, nothing}
use Rattle.lan_levels.specs.SlotsOf.{slot}
use Rattle.lan_levels.specs.ZipForm.{leaf_form, written_form}
use Rattle.lan_levels.specs.ZipWritten.{CanStand}
use Rattle.lan_levels.specs.ChunkForm.{leaf_chunk_form, written_chunk_form}
use Rattle.lan_levels.specs.MiniWritten.{IsShort}

abbrev three : List PlainSlot
three = slot 0 state.Here (bytes (97 ∷ 98 ∷ [])) ∷ slot 0 (state.Null 0) nothing ∷ slot 0 state.Here (bytes []) ∷ []

abbrev Stand : ℕ → ℕ → List Layer → PlainType ℕ → List PlainSlot → Type 0
Stand id top layers ty slots = All (CanStand (leaf_form (record { id = id; top = top; ty = ty; layers = layers }))) (take 3 slots)

three_stand : (id top : ℕ) → Stand id top (layer.Item true ∷ []) text three
three_stand id top =
    let f = leaf_form (record { id = id; top = top; ty = text; layers = layer.Item true ∷ [] }) in
    let first : CanStand f (slot 0 state.Here (bytes (97 ∷ 98 ∷ []))) = record { rep = omega arith; number = 0; numbered = refl; value = omega arith } in
    let null : CanStand f (slot 0 (state.Null 0) nothing) = record { rep = omega arith; number = 1; numbered = refl; value = tt } in
    let last : CanStand f (slot 0 state.Here (bytes [])) = record { rep = omega arith; number = 0; numbered = refl; value = omega arith } in
    let two = All-cons (CanStand f) (slot 0 (state.Null 0) nothing) (slot 0 state.Here (bytes []) ∷ []) null (All-cons (CanStand f) (slot 0 state.Here (bytes [])) [] last (All-nil (CanStand f))) in
    All-cons (CanStand f) (slot 0 state.Here (bytes (97 ∷ 98 ∷ []))) (slot 0 (state.Null 0) nothing ∷ slot 0 state.Here (bytes []) ∷ []) first two

pub texts_stand : (leaf : Leaf) (slots : List PlainSlot) → leaf.layers ≡ layer.Item true ∷ [] → plain_type leaf.ty ≡ text → slots ≡ three → All (CanStand (written_form leaf)) (take 3 slots)
texts_stand leaf slots e t h =
    subst (λ (ls : List Layer). Stand leaf.id leaf.top ls (plain_type leaf.ty) slots) (sym e)
    (subst (λ (ty : PlainType ℕ). Stand leaf.id leaf.top (layer.Item true ∷ []) ty slots) (sym t)
    (subst (Stand leaf.id leaf.top (layer.Item true ∷ []) text) (sym h) (three_stand leaf.id leaf.top)))

-- none has more bytes than a chunk's value may have
abbrev Short : ℕ → ℕ → List Layer → PlainType ℕ → List PlainSlot → Type 0
Short id top layers ty slots = All (IsShort (leaf_chunk_form (record { id = id; top = top; ty = ty; layers = layers })) 4096) (take 3 slots)

three_are_short : (id top : ℕ) → Short id top (layer.Item true ∷ []) text three
three_are_short id top =
    let f = leaf_chunk_form (record { id = id; top = top; ty = text; layers = layer.Item true ∷ [] }) in
    let first : IsShort f 4096 (slot 0 state.Here (bytes (97 ∷ 98 ∷ []))) = λ _. omega arith in
    let null : IsShort f 4096 (slot 0 (state.Null 0) nothing) = λ _. omega arith in
    let last : IsShort f 4096 (slot 0 state.Here (bytes [])) = λ _. omega arith in
    let two = All-cons (IsShort f 4096) (slot 0 (state.Null 0) nothing) (slot 0 state.Here (bytes []) ∷ []) null (All-cons (IsShort f 4096) (slot 0 state.Here (bytes [])) [] last (All-nil (IsShort f 4096))) in
    All-cons (IsShort f 4096) (slot 0 state.Here (bytes (97 ∷ 98 ∷ []))) (slot 0 (state.Null 0) nothing ∷ slot 0 state.Here (bytes []) ∷ []) first two

pub texts_are_short : (leaf : Leaf) (slots : List PlainSlot) → leaf.layers ≡ layer.Item true ∷ [] → plain_type leaf.ty ≡ text → slots ≡ three → All (IsShort (written_chunk_form leaf) 4096) (take 3 slots)
texts_are_short leaf slots e t h =
    subst (λ (ls : List Layer). Short leaf.id leaf.top ls (plain_type leaf.ty) slots) (sym e)
    (subst (λ (ty : PlainType ℕ). Short leaf.id leaf.top (layer.Item true ∷ []) ty slots) (sym t)
    (subst (Short leaf.id leaf.top (layer.Item true ∷ []) text) (sym h) (three_are_short leaf.id leaf.top)))
