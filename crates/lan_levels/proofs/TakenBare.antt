-- A null or an empty list is taken from each leaf, or no value has these slots.
use Rattle.std.proofs.Common.{◌≡◌, ℕ, suc, ◌+◌, ◌<◌, ◌≤◌, inl, inr, Bool, true, false, List, [], ◌∷◌, ◌++◌, length, refl, ap, sym, subst, ◌∙◌, arith}
use Rattle.lan_model.specs.declared.tree.Layer.{Layer}
use Rattle.lan_model.specs.declared.tree.Layer.TheVariants as layer
use Rattle.lan_model.specs.Plain.{PlainType, primitive, vector, text, bytes as byte_type, list, struct, PlainField, field, PlainFields, no_fields, one_field, PlainValue, null, bits, raw, items, group, no_values, one_value}
use Rattle.lan_model.specs.Fits.{Fits}
use Rattle.lan_model.specs.Table.{IsField}
use Rattle.lan_levels.specs.declared.slot.State.{State}
use Rattle.lan_levels.specs.declared.slot.State.TheVariants as state
use Rattle.lan_levels.specs.declared.bare.Mark.TheVariants as mark
use Rattle.lan_levels.specs.PlainSlots.{nothing, PlainSlot}
use Rattle.lan_levels.specs.SlotsOf.{slots_of, slot}
use Rattle.lan_levels.specs.EachLeaf.{leaf_count, leaf_count_of, EachLeaf, EachLeafOf, SomeLeaf, SomeLeafOf, IsClosed, first_depth}
use Rattle.lan_levels.specs.Loosened.{loosened}
use Rattle.lan_levels.specs.Taken.{Keeps, Step, Took, NoneBeginsWith, HasNoShape, BeginsIn, first_rep, layers_below, bare_state, bare_slot, TookBare, IsNotBare, TookEachBare, SomeIsNotBare, MarkIs, IsAlone}
use Rattle.lan_levels.proofs.Heads.{IsInside, inner_depth}
use Rattle.lan_levels.proofs.HeadSays.{HeadSays, Says, head_says}
use Rattle.lan_levels.proofs.Reps.{layers_below-is}
use Rattle.lan_levels.proofs.Chosen.{closed_first}
use Rattle.lan_levels.proofs.EachLeaf.{EachLeaf-map, EachLeaf-map2, EachLeafOf-map, SomeLeaf-map, SomeLeafOf-map, SomeLeaf-self, SomeLeaf-not, EachLeaf-first}

pub Keeps-none : (i past : ℕ) (old new : ℕ → List PlainSlot) → old ≡ new → Keeps i past old new
Keeps-none i past old new e = record { before = λ j h. ap (λ (f : ℕ → List PlainSlot). f j) (sym e); after = λ j h. ap (λ (f : ℕ → List PlainSlot). f j) (sym e) }

pub Keeps-both : (i k l : ℕ) (old now new : ℕ → List PlainSlot) → Keeps i (i + k) old now → Keeps (i + k) (i + k + l) now new → Keeps i (i + (k + l)) old new
Keeps-both i k l old now new p q = record {
  before = λ j h. q.before j (omega arith) ∙ p.before j h;
  after = λ j h. let far : i + k + l ≤ j = omega arith in q.after j far ∙ p.after j (omega arith);
}

pub record TookBareOf (fs : PlainFields ℕ) (n : Bool) (m : ℕ) (empty : Bool) (below k i : ℕ) (old new : ℕ → List PlainSlot) : Type 0 where
  pub taken : EachLeafOf fs n m i (λ d j ty path. old j ≡ bare_slot empty below k path ∷ new j)
  pub keeps : Keeps i (i + leaf_count_of fs) old new

abbrev Bare : Bool → ℕ → ℕ → (ℕ → List PlainSlot) → (ℕ → List PlainSlot) → ℕ → ℕ → PlainType ℕ → List Layer → Type 0
Bare empty below k old new d j ty path = old j ≡ bare_slot empty below k path ∷ new j

pub took_each_bare : (fs : PlainFields ℕ) (n : Bool) (m : ℕ) (empty : Bool) (below k i : ℕ) (old new : ℕ → List PlainSlot)
    → TookEachBare fs empty (below + 1) k i old new → TookBareOf fs n m empty below k i old new
took_each_bare no_fields n m empty below k i old new h = record { taken = tt; keeps = Keeps-none i (i + 0) old new h }
took_each_bare (one_field f fs) n m empty below k i old new h =
    let now = h.0 in
    let first = h.1 in
    let more = took_each_bare fs n (suc m) empty below k (i + leaf_count f) now new h.2 in
    record {
      taken = (
        EachLeaf-map f i (λ d j ty path. old j ≡ bare_slot empty (below + 1) k path ∷ now j) (λ d j ty path. Bare empty below k old new d j ty (layer.Struct n m ∷ path))
            (λ d j ty path a b e x. x ∙ ap (λ (s : List PlainSlot). bare_slot empty (below + 1) k path ∷ s) (sym (more.keeps.before j b)))
            first.taken,
        EachLeafOf-map fs n (suc m) (i + leaf_count f) (Bare empty below k now new) (Bare empty below k old new)
            (λ d j ty path a b e x. sym (first.keeps.after j a) ∙ x)
            more.taken,
      );
      keeps = Keeps-both i (leaf_count f) (leaf_count_of fs) old now new first.keeps more.keeps;
    }

abbrev NotBare : Bool → ℕ → ℕ → (ℕ → List PlainSlot) → ℕ → ℕ → ℕ → PlainType ℕ → List Layer → Type 0
NotBare empty below k old id d j ty path = (d ≡ id) × ((rest : List PlainSlot) → old j ≡ bare_slot empty below k path ∷ rest → ⊥)

pub some_is_not_bare : (fs : PlainFields ℕ) (n : Bool) (m : ℕ) (empty : Bool) (below k i : ℕ) (old : ℕ → List PlainSlot) (id : ℕ)
    → SomeIsNotBare fs empty (below + 1) k i old id → SomeLeafOf fs n m i (NotBare empty below k old id)
some_is_not_bare no_fields n m empty below k i old id h = h
some_is_not_bare (one_field f fs) n m empty below k i old id (inl h) = inl h
some_is_not_bare (one_field f fs) n m empty below k i old id (inr h) =
    let now = h.0 in
    let first = h.1 in
    inr (SomeLeafOf-map fs n (suc m) (i + leaf_count f) (NotBare empty below k now id) (NotBare empty below k old id)
    (λ d j ty path a b e x. (x.0, λ rest y. x.1 rest (first.keeps.after j a ∙ y)))
    (some_is_not_bare fs n (suc m) empty below k (i + leaf_count f) now id h.2))

-- the leaf itself
pub took_bare_leaf : (id : ℕ) (name : List ℕ) (n : Bool) (ty : PlainType ℕ) (empty : Bool) (below k i : ℕ) (old new : ℕ → List PlainSlot) (s : PlainSlot)
    → IsAlone ty → Step i old new s → s ≡ slot k (bare_state empty below) nothing → TookBare (field id name n ty) empty below k i old new
took_bare_leaf id name n (primitive p) empty below k i old new s a step e = record { taken = step.here ∙ ap (λ (x : PlainSlot). x ∷ new i) e; keeps = step.keeps }
took_bare_leaf id name n (vector p c) empty below k i old new s a step e = record { taken = step.here ∙ ap (λ (x : PlainSlot). x ∷ new i) e; keeps = step.keeps }
took_bare_leaf id name n text empty below k i old new s a step e = record { taken = step.here ∙ ap (λ (x : PlainSlot). x ∷ new i) e; keeps = step.keeps }
took_bare_leaf id name n byte_type empty below k i old new s a step e = record { taken = step.here ∙ ap (λ (x : PlainSlot). x ∷ new i) e; keeps = step.keeps }
took_bare_leaf id name n (list item) empty below k i old new s a step e = absurd a
took_bare_leaf id name n (struct members) empty below k i old new s a step e = absurd a

pub not_bare_leaf : (id : ℕ) (name : List ℕ) (n : Bool) (ty : PlainType ℕ) (empty : Bool) (below k i : ℕ) (old : ℕ → List PlainSlot)
    → IsAlone ty → ((rest : List PlainSlot) → old i ≡ slot k (bare_state empty below) nothing ∷ rest → ⊥) → IsNotBare (field id name n ty) empty below k i old id
not_bare_leaf id name n (primitive p) empty below k i old a h = (refl, h)
not_bare_leaf id name n (vector p c) empty below k i old a h = (refl, h)
not_bare_leaf id name n text empty below k i old a h = (refl, h)
not_bare_leaf id name n byte_type empty below k i old a h = (refl, h)
not_bare_leaf id name n (list item) empty below k i old a h = absurd a
not_bare_leaf id name n (struct members) empty below k i old a h = absurd a

-- the value that a bare slot stands for
abbrev pub bare_value : Bool → PlainValue
bare_value true = items no_values
bare_value false = null

depth_is : (path : List Layer) (below : ℕ) → 0 < length path → below + 1 ≡ length path + 0 → below ≡ inner_depth path
depth_is [] below some h = absurd (omega arith)
depth_is (l ∷ path) below some h = omega arith

not_inside : (empty : Bool) (depth : ℕ) (s : State) → IsInside depth s → s ≡ bare_state empty depth → ⊥
not_inside true depth s h e = let in_it : IsInside depth (state.Empty depth) = subst (IsInside depth) e h in omega arith
not_inside false depth s h e = let in_it : IsInside depth (state.Null depth) = subst (IsInside depth) e h in omega arith

-- a value whose first slot says that the layer is null or empty is that
pub is_bare : (empty : Bool) (w : PlainValue) (depth : ℕ) (s : State) (rest : List PlainSlot) → Says w depth s rest → s ≡ bare_state empty depth → (w ≡ bare_value empty) × (rest ≡ [])
is_bare true null depth s rest h e = let f : state.Null depth ≡ state.Empty depth = sym h.0 ∙ e in absurd (cc)
is_bare false null depth s rest h e = (refl, h.1)
is_bare true (items no_values) depth s rest h e = (refl, h.1)
is_bare false (items no_values) depth s rest h e = let f : state.Empty depth ≡ state.Null depth = sym h.0 ∙ e in absurd (cc)
is_bare empty (bits b) depth s rest h e = absurd (not_inside empty depth s h e)
is_bare empty (raw b) depth s rest h e = absurd (not_inside empty depth s h e)
is_bare empty (items (one_value v vs)) depth s rest h e = absurd (not_inside empty depth s h e)
is_bare empty (group vs) depth s rest h e = absurd (not_inside empty depth s h e)

-- what is left after a bare slot is left after any value that begins there
bare_left : (empty : Bool) (w : PlainValue) (k : ℕ) (ty : PlainType ℕ) (path : List Layer) (old new rest : List PlainSlot)
    → layers_below 0 path ≡ inner_depth path → HeadSays w (first_rep k path) ty path
    → old ≡ bare_slot empty 0 k path ∷ new → old ≡ slots_of ty path (first_rep k path) w ++ rest → new ≡ rest
bare_left empty w k ty path old new rest d says h e =
    let one : bare_slot empty 0 k path ∷ new ≡ says.head ∷ (says.rest ++ rest) = sym h ∙ e ∙ ap (λ (x : List PlainSlot). x ++ rest) says.is in
    let head : says.head ≡ bare_slot empty 0 k path = cc in
    let tail : new ≡ says.rest ++ rest = cc in
    let state : says.head.state ≡ bare_state empty (inner_depth path) = ap (λ (x : PlainSlot). x.state) head ∙ ap (bare_state empty) d in
    let (is, none) = is_bare empty w (inner_depth path) says.head.state says.rest says.says state in
    tail ∙ ap (λ (x : List PlainSlot). x ++ rest) none

abbrev pub Depth : ℕ → ℕ → PlainType ℕ → List Layer → Type 0
Depth d j ty path = layers_below 0 path ≡ inner_depth path

depths : (f : PlainField ℕ) (i : ℕ) → EachLeaf f i Depth
depths f i = EachLeaf-map f i (λ d j ty path. layers_below 0 path + 1 ≡ length path + 0) Depth (λ d j ty path a b e h. depth_is path (layers_below 0 path) e h) (layers_below-is f i 0)

abbrev pub SaysAt : PlainValue → ℕ → ℕ → ℕ → PlainType ℕ → List Layer → Type 0
SaysAt w k d j ty path = (layers_below 0 path ≡ inner_depth path) × HeadSays w (first_rep k path) ty path

pub says_at : (w : PlainValue) (f : PlainField ℕ) (k i : ℕ) → Fits (loosened f) w → EachLeaf f i (SaysAt w k)
says_at w f k i h =
    EachLeaf-map2 f i Depth (λ d j ty path. HeadSays w (first_rep k path) ty path) (SaysAt w k) (λ d j ty path a b e x y. (x, y)) (depths f i)
    (head_says w f i (λ ty path. first_rep k path) h)

null_slots : (k : ℕ) (ty : PlainType ℕ) (path : List Layer) → 0 < length path → layers_below 0 path ≡ inner_depth path
    → slots_of ty path (first_rep k path) null ≡ bare_slot false 0 k path ∷ []
null_slots k ty [] some e = absurd (omega arith)
null_slots k ty (l ∷ path) some e = ap (λ (x : ℕ). slot (first_rep k (l ∷ path)) (state.Null x) nothing ∷ []) (sym e)

empty_slots : (k : ℕ) (n : Bool) (ty : PlainType ℕ) (path : List Layer) → layers_below 0 (layer.List n ∷ path) ≡ length path
    → slots_of ty (layer.List n ∷ path) (first_rep k (layer.List n ∷ path)) (items no_values) ≡ bare_slot true 0 k (layer.List n ∷ path) ∷ []
empty_slots k n ty path e = ap (λ (x : ℕ). slot (first_rep k (layer.List n ∷ path)) (state.Empty x) nothing ∷ []) (sym e)

-- the slots of a bare value are the bare slots
abbrev BareSlots : Bool → ℕ → ℕ → ℕ → PlainType ℕ → List Layer → Type 0
BareSlots empty k d j ty path = slots_of ty path (first_rep k path) (bare_value empty) ≡ bare_slot empty 0 k path ∷ []

null_each : (f : PlainField ℕ) (k i : ℕ) → EachLeaf f i (BareSlots false k)
null_each f k i = EachLeaf-map f i Depth (BareSlots false k) (λ d j ty path a b e x. null_slots k ty path e x) (depths f i)

empty_each : (id : ℕ) (name : List ℕ) (n : Bool) (item : PlainField ℕ) (k i : ℕ) → EachLeaf (field id name n (list item)) i (BareSlots true k)
empty_each id name n item k i =
    EachLeaf-map item i (λ d j ty path. Depth d j ty (layer.List n ∷ path)) (λ d j ty path. BareSlots true k d j ty (layer.List n ∷ path))
    (λ d j ty path a b e x. empty_slots k n ty path x) (depths (field id name n (list item)) i)

taken_bare : (f : PlainField ℕ) (empty : Bool) (k i : ℕ) (old new : ℕ → List PlainSlot) → EachLeaf f i (BareSlots empty k) → TookBare f empty 0 k i old new
    → EachLeaf f i (λ d j ty path. old j ≡ slots_of ty path (first_rep k path) (bare_value empty) ++ new j)
taken_bare f empty k i old new each took =
    EachLeaf-map2 f i (BareSlots empty k) (Bare empty 0 k old new) (λ d j ty path. old j ≡ slots_of ty path (first_rep k path) (bare_value empty) ++ new j)
    (λ d j ty path a b e x y. y ∙ sym (ap (λ (s : List PlainSlot). s ++ new j) x)) each took.taken

only_bare : (f : PlainField ℕ) (empty : Bool) (k i : ℕ) (old new : ℕ → List PlainSlot) → TookBare f empty 0 k i old new
    → (chosen : ℕ → Bool) (w : PlainValue) (rest : PlainType ℕ → List Layer → List PlainSlot) → IsClosed f i chosen → Fits (loosened f) w → EachLeaf f i (BeginsIn chosen k w old rest)
    → EachLeaf f i (λ d j ty path. chosen j ≡ true → new j ≡ rest ty path)
only_bare f empty k i old new took chosen w rest closed hw h =
    let both : EachLeaf f i (λ d j ty path. SaysAt w k d j ty path × Bare empty 0 k old new d j ty path) =
    EachLeaf-map2 f i (SaysAt w k) (Bare empty 0 k old new) (λ d j ty path. SaysAt w k d j ty path × Bare empty 0 k old new d j ty path) (λ d j ty path a b e x y. (x, y))
    (says_at w f k i hw) took.taken in
    EachLeaf-map2 f i (λ d j ty path. SaysAt w k d j ty path × Bare empty 0 k old new d j ty path) (BeginsIn chosen k w old rest) (λ d j ty path. chosen j ≡ true → new j ≡ rest ty path)
    (λ d j ty path a b e x y lt. bare_left empty w k ty path (old j) (new j) (rest ty path) x.0.0 x.0.1 x.1 (y lt).0)
    both h

-- a null
pub took_null : (f : PlainField ℕ) (k i : ℕ) (old new : ℕ → List PlainSlot) → Fits f null → TookBare f false 0 k i old new → Took f k i old new null
took_null f k i old new fit took = record {
  fits = fit;
  taken = taken_bare f false k i old new (null_each f k i) took;
  keeps = took.keeps;
  only = only_bare f false k i old new took;
}

-- an empty list
pub took_empty : (id : ℕ) (name : List ℕ) (n : Bool) (item : PlainField ℕ) (k i : ℕ) (old new : ℕ → List PlainSlot) → TookBare (field id name n (list item)) true 0 k i old new
    → Took (field id name n (list item)) k i old new (items no_values)
took_empty id name n item k i old new took = record {
  fits = tt;
  taken = taken_bare (field id name n (list item)) true k i old new (empty_each id name n item k i) took;
  keeps = took.keeps;
  only = only_bare (field id name n (list item)) true k i old new took;
}

inner_is : (path : List Layer) (depth : ℕ) → length path ≡ depth + 1 → inner_depth path ≡ depth
inner_is [] depth h = absurd (omega arith)
inner_is (l ∷ path) depth h = omega arith

-- the first leaf of a value that begins there
abbrev FirstSays : PlainField ℕ → PlainValue → ℕ → ℕ → (ℕ → List PlainSlot) → Type 0
FirstSays f w k i old = (s : PlainSlot) × (rest : List PlainSlot) × (more : List PlainSlot) × (old i ≡ s ∷ more) × Says w (first_depth f) s.state rest

pub first_says : (f : PlainField ℕ) (k i : ℕ) (chosen : ℕ → Bool) (old : ℕ → List PlainSlot) (w : PlainValue) (rest : PlainType ℕ → List Layer → List PlainSlot)
    → IsField f → chosen i ≡ true → Fits (loosened f) w → EachLeaf f i (BeginsIn chosen k w old rest) → FirstSays f w k i old
first_says f k i chosen old w rest ok lt hw h =
    let first = EachLeaf-first f i (λ d j ty path. SaysAt w k d j ty path × BeginsIn chosen k w old rest d j ty path) ok
    (EachLeaf-map2 f i (SaysAt w k) (BeginsIn chosen k w old rest) (λ d j ty path. SaysAt w k d j ty path × BeginsIn chosen k w old rest d j ty path) (λ d j ty path a b e x y. (x, y))
    (says_at w f k i hw) h) in
    let says = first.holds.0.1 in
    let depth : inner_depth first.path ≡ first_depth f = inner_is first.path (first_depth f) first.depth in (
      says.head,
      says.rest,
      says.rest ++ rest first.ty first.path,
      (first.holds.1 lt).0 ∙ ap (λ (x : List PlainSlot). x ++ rest first.ty first.path) says.is,
      subst (λ (x : ℕ). Says w x says.head.state says.rest) depth says.says,
    )

-- the first leaf says which bare value it is
bare_says : (f : PlainField ℕ) (empty : Bool) (k i : ℕ) (chosen : ℕ → Bool) (old : ℕ → List PlainSlot) (w : PlainValue) (rest : PlainType ℕ → List Layer → List PlainSlot)
    → IsField f → chosen i ≡ true → Fits (loosened f) w → EachLeaf f i (BeginsIn chosen k w old rest)
    → (s : PlainSlot) (more : List PlainSlot) → old i ≡ s ∷ more → s.state ≡ bare_state empty (first_depth f) → w ≡ bare_value empty
bare_says f empty k i chosen old w rest ok lt hw h s more e is =
    let first = first_says f k i chosen old w rest ok lt hw h in
    let one : first.0 ∷ first.2 ≡ s ∷ more = sym first.3 ∙ e in
    let same : first.0 ≡ s = cc in
    let (value, none) = is_bare empty w (first_depth f) first.0.state first.1 first.4 (ap (λ (x : PlainSlot). x.state) same ∙ is) in
    value

-- the slots of the bare value, with what the value begins
abbrev BareBegins : Bool → ℕ → (ℕ → Bool) → PlainValue → (ℕ → List PlainSlot) → (PlainType ℕ → List Layer → List PlainSlot) → ℕ → ℕ → PlainType ℕ → List Layer → Type 0
BareBegins empty k chosen w old rest d j ty path = BareSlots empty k d j ty path × BeginsIn chosen k w old rest d j ty path

-- at one leaf something else stands than the slot of the bare value
clash : (f : PlainField ℕ) (empty : Bool) (k i id at : ℕ) (chosen : ℕ → Bool) (old : ℕ → List PlainSlot) (w : PlainValue) (rest : PlainType ℕ → List Layer → List PlainSlot)
    → chosen at ≡ true → w ≡ bare_value empty → EachLeaf f i (BareSlots empty k) → EachLeaf f i (BeginsIn chosen k w old rest)
    → SomeLeaf f i (λ d j ty path. NotBare empty 0 k old id d j ty path × (j ≡ at)) → ⊥
clash f empty k i id at chosen old w rest there value each begins some =
    SomeLeaf-not f i (λ d j ty path. NotBare empty 0 k old id d j ty path × (j ≡ at)) (BareBegins empty k chosen w old rest)
    (λ d j ty path a b e p q.
    let same : j ≡ at = p.1 in
    let lt : chosen j ≡ true = ap chosen same ∙ there in
    p.0.1 (rest ty path)
    ((q.1 lt).0 ∙ ap (λ (v : PlainValue). slots_of ty path (first_rep k path) v ++ rest ty path) value ∙ ap (λ (s : List PlainSlot). s ++ rest ty path) q.0))
    some
    (EachLeaf-map2 f i (BareSlots empty k) (BeginsIn chosen k w old rest) (BareBegins empty k chosen w old rest) (λ d j ty path a b e x y. (x, y)) each begins)

-- the first leaf says that the value is bare, and in a leaf something else stands
no_bare : (f : PlainField ℕ) (empty : Bool) (k i id : ℕ) (old : ℕ → List PlainSlot) → IsField f → EachLeaf f i (BareSlots empty k)
    → (s : PlainSlot) (more : List PlainSlot) → old i ≡ s ∷ more → s.state ≡ bare_state empty (first_depth f)
    → IsNotBare f empty 0 k i old id → HasNoShape f k i old id
no_bare f empty k i id old ok each s more e is h =
    SomeLeaf-map f i (λ d j ty path. NotBare empty 0 k old id d j ty path × SomeLeaf f i (λ d' j' ty' path'. NotBare empty 0 k old id d' j' ty' path' × (j' ≡ j)))
    (λ d j ty path. (d ≡ id) × NoneBeginsWith f k i old j)
    (λ d j ty path a b some x. (
      x.0.0,
      λ chosen closed there w rest hw begins.
          clash f empty k i id j chosen old w rest there (bare_says f empty k i chosen old w rest ok (closed_first f i j chosen closed a b there) hw begins s more e is) each begins x.1,
    ))
    (SomeLeaf-self f i (NotBare empty 0 k old id) h)

pub no_null : (f : PlainField ℕ) (k i id : ℕ) (old : ℕ → List PlainSlot) → IsField f → MarkIs (first_depth f) (old i) mark.Null
    → IsNotBare f false 0 k i old id → HasNoShape f k i old id
no_null f k i id old ok m h = no_bare f false k i id old ok (null_each f k i) m.0 m.1 m.2 m.3 h

pub no_empty : (d : ℕ) (name : List ℕ) (n : Bool) (item : PlainField ℕ) (k i id : ℕ) (old : ℕ → List PlainSlot) → IsField item
    → MarkIs (first_depth item + 1) (old i) mark.Empty → IsNotBare (field d name n (list item)) true 0 k i old id → HasNoShape (field d name n (list item)) k i old id
no_empty d name n item k i id old ok m h =
    no_bare (field d name n (list item)) true k i id old ok (empty_each d name n item k i) m.0 m.1 m.2 m.3 h
