-- Where the slots of a value end: at the next slot with a repetition number that is no smaller than the list layers inside.
use Rattle.std.proofs.Common.{◌≡◌, ℕ, zero, suc, ◌+◌, ◌<◌, ◌≤◌, Bool, List, [], ◌∷◌, ◌++◌, length, refl, ap, sym, subst, ◌∙◌, arith}
use Rattle.std.specs.Bool.{⊤}
use Rattle.lan_model.specs.declared.tree.Layer.{Layer}
use Rattle.lan_model.specs.declared.tree.Layer.TheVariants as layer
use Rattle.lan_model.specs.Plain.{PlainType, primitive, vector, text, bytes as byte_type, list, struct, PlainField, field, PlainFields, no_fields, one_field, PlainValue, null, bits, raw, items, group, PlainValues, no_values, one_value}
use Rattle.lan_model.specs.Fits.{Fits, AllFit, EachFits}
use Rattle.lan_levels.specs.declared.slot.State.{State}
use Rattle.lan_levels.specs.declared.slot.State.TheVariants as state
use Rattle.lan_levels.specs.PlainSlots.{PlainPiece, nothing, PlainSlot}
use Rattle.lan_levels.specs.SlotsOf.{slots_of, slot, flat, lists_in, at_place, piece_of}
use Rattle.lan_levels.specs.Loosened.{loosened, all_loosened}
use Rattle.lan_levels.specs.Taken.{IsLater}
use Rattle.lan_levels.proofs.EachPath.{EachPath, EachMember, EachPath-all, EachPath-map, EachPath-map2, EachMember-map}

-- each begins an item of a list further in
abbrev pub AllLow : ℕ → List PlainSlot → Type 0
AllLow j [] = ⊤
AllLow j (x ∷ xs) = (x.rep < j) × AllLow j xs

-- the state is of a layer below `n`
abbrev pub IsInside : ℕ → State → Type 0
IsInside n state.Here = ⊤
IsInside n (state.Null k) = k < n
IsInside n (state.Empty k) = k < n

pub AllLow-append : (j : ℕ) (xs ys : List PlainSlot) → AllLow j xs → AllLow j ys → AllLow j (xs ++ ys)
AllLow-append j [] ys p q = q
AllLow-append j (x ∷ xs) ys p q = (p.0, AllLow-append j xs ys p.1 q)

pub AllLow-more : (j k : ℕ) (xs : List PlainSlot) → j ≤ k → AllLow j xs → AllLow k xs
AllLow-more j k [] le p = tt
AllLow-more j k (x ∷ xs) le p =
    let low : x.rep < j = p.0 in
    (omega arith, AllLow-more j k xs le p.1)

pub IsInside-more : (n k : ℕ) (s : State) → n ≤ k → IsInside n s → IsInside k s
IsInside-more n k state.Here le h = tt
IsInside-more n k (state.Null i) le h = omega arith
IsInside-more n k (state.Empty i) le h = omega arith

-- two lists that are cut at the first later slot are cut at one place
pub cut : (j : ℕ) (xs ys b d : List PlainSlot) → AllLow j xs → AllLow j ys → IsLater j b → IsLater j d → xs ++ b ≡ ys ++ d → (xs ≡ ys) × (b ≡ d)
cut j [] [] b d p q k l h = (refl, h)
cut j (x ∷ xs) [] b [] p q k l h = absurd (cc)
cut j (x ∷ xs) [] b (e ∷ es) p q k l h =
    let same : x ≡ e = cc in
    let low : x.rep < j = p.0 in
    absurd (omega (arith, ap (λ (s : PlainSlot). s.rep) same))
cut j [] (y ∷ ys) [] d p q k l h = absurd (cc)
cut j [] (y ∷ ys) (e ∷ es) d p q k l h =
    let same : e ≡ y = cc in
    let low : y.rep < j = q.0 in
    absurd (omega (arith, ap (λ (s : PlainSlot). s.rep) same))
cut j (x ∷ xs) (y ∷ ys) b d p q k l h =
    let same : x ≡ y = cc in
    let rest : xs ++ b ≡ ys ++ d = cc in
    let (front, back) = cut j xs ys b d p.1 q.1 k l rest in
    (cc, back)

-- a first slot with the repetition number `r`, of a layer below `depth`, and further ones that begin items of lists further in
pub record Headed (depth lists r : ℕ) (xs : List PlainSlot) : Type 0 where
  pub head : PlainSlot
  pub rest : List PlainSlot
  pub is : xs ≡ head ∷ rest
  pub rep : head.rep ≡ r
  pub inside : IsInside depth head.state
  pub low : AllLow lists rest

pub single : (depth lists r : ℕ) (s : State) (x : PlainPiece) → IsInside depth s → Headed depth lists r (slot r s x ∷ [])
single depth lists r s x h = record { head = slot r s x; rest = []; is = refl; rep = refl; inside = h; low = tt }

pub Headed-more : (depth lists r more deeper : ℕ) (xs : List PlainSlot) → depth ≤ deeper → lists ≤ more → Headed depth lists r xs → Headed deeper more r xs
Headed-more depth lists r more deeper xs d l h =
    record { head = h.head; rest = h.rest; is = h.is; rep = h.rep; inside = IsInside-more depth deeper h.head.state d h.inside; low = AllLow-more lists more h.rest l h.low }

pub Headed-append : (depth lists r : ℕ) (xs ys : List PlainSlot) → AllLow lists ys → Headed depth lists r xs → Headed depth lists r (xs ++ ys)
Headed-append depth lists r xs ys l h =
    record { head = h.head; rest = h.rest ++ ys; is = ap (λ (s : List PlainSlot). s ++ ys) h.is; rep = h.rep; inside = h.inside; low = AllLow-append lists h.rest ys h.low l }

pub Headed-cut : (depth lists r : ℕ) (xs ys b d : List PlainSlot) → Headed depth lists r xs → Headed depth lists r ys → IsLater lists b → IsLater lists d
    → xs ++ b ≡ ys ++ d → (xs ≡ ys) × (b ≡ d)
Headed-cut depth lists r xs ys b d p q k l h =
    let left : xs ++ b ≡ p.head ∷ (p.rest ++ b) = ap (λ (s : List PlainSlot). s ++ b) p.is in
    let right : ys ++ d ≡ q.head ∷ (q.rest ++ d) = ap (λ (s : List PlainSlot). s ++ d) q.is in
    let all : p.head ∷ (p.rest ++ b) ≡ q.head ∷ (q.rest ++ d) = sym left ∙ h ∙ right in
    let first : p.head ≡ q.head = cc in
    let tail : p.rest ++ b ≡ q.rest ++ d = cc in
    let (front, back) = cut lists p.rest q.rest b d p.low q.low k l tail in
    let ps = p.is in
    let qs = q.is in
    (cc, back)

-- all slots of items after the first begin items of this list, or of lists further in
pub Headed-low : (depth lists : ℕ) (xs : List PlainSlot) → Headed depth lists lists xs → AllLow (lists + 1) xs
Headed-low depth lists xs h =
    let r : h.head.rep ≡ lists = h.rep in
    subst (AllLow (lists + 1)) (sym h.is) (omega arith, AllLow-more lists (lists + 1) h.rest (omega arith) h.low)

pub Headed-later : (depth lists : ℕ) (xs ys : List PlainSlot) → Headed depth lists lists xs → IsLater lists (xs ++ ys)
Headed-later depth lists xs ys h =
    let r : h.head.rep ≡ lists = h.rep in
    subst (IsLater lists) (sym (ap (λ (s : List PlainSlot). s ++ ys) h.is)) (omega arith)

-- the members from a place on
abbrev pub after : ℕ → PlainValues → PlainValues
after zero vs = vs
after (suc m) no_values = no_values
after (suc m) (one_value v vs) = after m vs

pub at_after : (m : ℕ) (whole : PlainValues) (v : PlainValue) (vs : PlainValues) → after m whole ≡ one_value v vs → (at_place m whole ≡ v) × (after (suc m) whole ≡ vs)
at_after zero no_values v vs h = absurd (cc)
at_after zero (one_value x xs) v vs h = (cc, cc)
at_after (suc m) no_values v vs h = absurd (cc)
at_after (suc m) (one_value x xs) v vs h = at_after m xs v vs h

-- the layers inside the outermost
abbrev pub inner_depth : List Layer → ℕ
inner_depth [] = 0
inner_depth (l ∷ ls) = length ls

inner_depth-less : (path : List Layer) → inner_depth path ≤ length path
inner_depth-less [] = omega arith
inner_depth-less (l ∷ ls) = omega arith

abbrev pub HeadedAt : (PlainType ℕ → List Layer → ℕ) → PlainValue → PlainType ℕ → List Layer → Type 0
HeadedAt r v ty path = Headed (length path) (lists_in path) (r ty path) (slots_of ty path (r ty path) v)

-- of a struct that is not null, each first slot is of a layer inside the struct
abbrev pub InnerAt : (PlainType ℕ → List Layer → ℕ) → PlainValue → PlainType ℕ → List Layer → Type 0
InnerAt r v ty path = Headed (inner_depth path) (lists_in path) (r ty path) (slots_of ty path (r ty path) v)

-- of the items after the first
abbrev pub LaterAt : PlainValues → PlainType ℕ → List Layer → Type 0
LaterAt vs ty path =
    AllLow (lists_in path + 1) (flat (slots_of ty path (lists_in path)) vs) × IsLater (lists_in path) (flat (slots_of ty path (lists_in path)) vs)

abbrev pub lists_at : PlainType ℕ → List Layer → ℕ
lists_at ty path = lists_in path

EachMember-null : (fs : PlainFields ℕ) (n : Bool) (m : ℕ) (r : PlainType ℕ → List Layer → ℕ) → EachMember fs n m (HeadedAt r null)
EachMember-null no_fields n m r = tt
EachMember-null (one_field f fs) n m r = (
  EachPath-all f (λ ty path. HeadedAt r null ty (layer.Struct n m ∷ path))
      (λ ty path. single (length (layer.Struct n m ∷ path)) (lists_in path) (r ty (layer.Struct n m ∷ path)) (state.Null (length path)) nothing (omega arith)),
  EachMember-null fs n (suc m) r,
)

mutual
  pub headed : (v : PlainValue) (f : PlainField ℕ) (r : PlainType ℕ → List Layer → ℕ) → Fits (loosened f) v → EachPath f (HeadedAt r v)
  headed null (field id name n (primitive p)) r h = single 1 0 (r (primitive p) (layer.Item n ∷ [])) (state.Null 0) nothing (omega arith)
  headed null (field id name n (vector p k)) r h = single 1 0 (r (vector p k) (layer.Item n ∷ [])) (state.Null 0) nothing (omega arith)
  headed null (field id name n text) r h = single 1 0 (r text (layer.Item n ∷ [])) (state.Null 0) nothing (omega arith)
  headed null (field id name n byte_type) r h = single 1 0 (r byte_type (layer.Item n ∷ [])) (state.Null 0) nothing (omega arith)
  headed null (field id name n (list item)) r h =
      EachPath-all item (λ ty path. HeadedAt r null ty (layer.List n ∷ path))
      (λ ty path. single (length (layer.List n ∷ path)) (lists_in path + 1) (r ty (layer.List n ∷ path)) (state.Null (length path)) nothing (omega arith))
  headed null (field id name n (struct members)) r h = EachMember-null members n 0 r
  headed (bits b) (field id name n (primitive p)) r h = single 1 0 (r (primitive p) (layer.Item n ∷ [])) state.Here (piece_of (primitive p) (bits b)) tt
  headed (bits b) (field id name n (vector p k)) r h = absurd h
  headed (bits b) (field id name n text) r h = absurd h
  headed (bits b) (field id name n byte_type) r h = absurd h
  headed (bits b) (field id name n (list item)) r h = absurd h
  headed (bits b) (field id name n (struct members)) r h = absurd h
  headed (raw s) (field id name n (primitive p)) r h = absurd h
  headed (raw s) (field id name n (vector p k)) r h = single 1 0 (r (vector p k) (layer.Item n ∷ [])) state.Here (piece_of (vector p k) (raw s)) tt
  headed (raw s) (field id name n text) r h = single 1 0 (r text (layer.Item n ∷ [])) state.Here (piece_of text (raw s)) tt
  headed (raw s) (field id name n byte_type) r h = single 1 0 (r byte_type (layer.Item n ∷ [])) state.Here (piece_of byte_type (raw s)) tt
  headed (raw s) (field id name n (list item)) r h = absurd h
  headed (raw s) (field id name n (struct members)) r h = absurd h
  headed (items vs) (field id name n (primitive p)) r h = absurd h
  headed (items vs) (field id name n (vector p k)) r h = absurd h
  headed (items vs) (field id name n text) r h = absurd h
  headed (items vs) (field id name n byte_type) r h = absurd h
  headed (items vs) (field id name n (struct members)) r h = absurd h
  headed (items no_values) (field id name n (list item)) r h =
      EachPath-all item (λ ty path. HeadedAt r (items no_values) ty (layer.List n ∷ path))
      (λ ty path. single (length (layer.List n ∷ path)) (lists_in path + 1) (r ty (layer.List n ∷ path)) (state.Empty (length path)) nothing (omega arith))
  headed (items (one_value v vs)) (field id name n (list item)) r h =
      EachPath-map2 item (HeadedAt (λ ty path. r ty (layer.List n ∷ path)) v) (LaterAt vs) (λ ty path. HeadedAt r (items (one_value v vs)) ty (layer.List n ∷ path))
      (λ ty path a b.
      Headed-append (length (layer.List n ∷ path)) (lists_in path + 1) (r ty (layer.List n ∷ path)) (slots_of ty path (r ty (layer.List n ∷ path)) v)
      (flat (slots_of ty path (lists_in path)) vs) b.0
      (Headed-more (length path) (lists_in path) (r ty (layer.List n ∷ path)) (lists_in path + 1) (length (layer.List n ∷ path))
      (slots_of ty path (r ty (layer.List n ∷ path)) v) (omega arith) (omega arith) a))
      (headed v item (λ ty path. r ty (layer.List n ∷ path)) h.0)
      (later vs item h.1)
  headed (group vs) (field id name n (primitive p)) r h = absurd h
  headed (group vs) (field id name n (vector p k)) r h = absurd h
  headed (group vs) (field id name n text) r h = absurd h
  headed (group vs) (field id name n byte_type) r h = absurd h
  headed (group vs) (field id name n (list item)) r h = absurd h
  headed (group vs) (field id name n (struct members)) r h =
      EachMember-map members n 0 (InnerAt r (group vs)) (HeadedAt r (group vs))
      (λ ty path a. Headed-more (inner_depth path) (lists_in path) (r ty path) (lists_in path) (length path) (slots_of ty path (r ty path) (group vs))
      (inner_depth-less path) (omega arith) a)
      (members_headed vs members n 0 vs r refl h)

  pub later : (vs : PlainValues) (item : PlainField ℕ) → AllFit (loosened item) vs → EachPath item (LaterAt vs)
  later no_values item h = EachPath-all item (LaterAt no_values) (λ ty path. (tt, tt))
  later (one_value v vs) item h =
      EachPath-map2 item (HeadedAt lists_at v) (LaterAt vs) (LaterAt (one_value v vs))
      (λ ty path a b. (
        AllLow-append (lists_in path + 1) (slots_of ty path (lists_in path) v) (flat (slots_of ty path (lists_in path)) vs)
            (Headed-low (length path) (lists_in path) (slots_of ty path (lists_in path) v) a) b.0,
        Headed-later (length path) (lists_in path) (slots_of ty path (lists_in path) v) (flat (slots_of ty path (lists_in path)) vs) a,
      ))
      (headed v item lists_at h.0)
      (later vs item h.1)

  pub members_headed : (vs : PlainValues) (fs : PlainFields ℕ) (n : Bool) (m : ℕ) (whole : PlainValues) (r : PlainType ℕ → List Layer → ℕ)
      → after m whole ≡ vs → EachFits (all_loosened fs) vs → EachMember fs n m (InnerAt r (group whole))
  members_headed no_values no_fields n m whole r e h = tt
  members_headed no_values (one_field f fs) n m whole r e h = absurd h
  members_headed (one_value v vs) no_fields n m whole r e h = absurd h
  members_headed (one_value v vs) (one_field f fs) n m whole r e h =
      let (here, next) = at_after m whole v vs e in (
        EachPath-map f (HeadedAt (λ ty path. r ty (layer.Struct n m ∷ path)) v) (λ ty path. InnerAt r (group whole) ty (layer.Struct n m ∷ path))
            (λ ty path a. subst (λ (x : PlainValue). Headed (length path) (lists_in path) (r ty (layer.Struct n m ∷ path)) (slots_of ty path (r ty (layer.Struct n m ∷ path)) x)) (sym here) a)
            (headed v f (λ ty path. r ty (layer.Struct n m ∷ path)) h.0),
        members_headed vs fs n (suc m) whole r next h.1,
      )
