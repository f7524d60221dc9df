-- A value that fits has no null where none is allowed, and no text that is not UTF-8.
use Rattle.std.proofs.Common.{◌≡◌, ℕ, suc, ◌+◌, ◌<◌, ◌⊎◌, inl, inr, Bool, false, List, [], ◌∷◌, ◌++◌, length, All, IsTrue, IsUtf8, refl, sym, subst, ◌∙◌, true≢false, arith}
use Rattle.std.specs.List.{Contains}
use Rattle.std.proofs.lemmas.List.Elements.{All-nil, All-cons, All-head, All-tail, All-contains, Contains-append_right}
use Rattle.lan_model.specs.declared.tree.Layer.{Layer}
use Rattle.lan_model.specs.declared.tree.Layer.TheVariants as layer
use Rattle.lan_model.specs.Plain.{PlainType, primitive, vector, text, bytes as byte_type, list, struct, PlainField, field, PlainFields, no_fields, one_field, PlainValue, null, bits, raw, items, group, PlainValues, no_values, one_value}
use Rattle.lan_model.specs.Fits.{Fits, AllFit, EachFits}
use Rattle.lan_model.specs.Table.{IsField, AreFields}
use Rattle.lan_levels.specs.declared.slot.State.TheVariants as state
use Rattle.lan_levels.specs.PlainSlots.{PlainPiece, nothing, bytes, PlainSlot}
use Rattle.lan_levels.specs.SlotsOf.{slots_of, slot, flat, lists_in, at_place, piece_of}
use Rattle.lan_levels.specs.EachLeaf.{leaf_count, EachLeaf, EachLeafOf}
use Rattle.lan_levels.specs.BadSlots.{SaysNull, IsBadNull, HasBadNull, SomeHasBadNull, IsBadText, HasBadText}
use Rattle.lan_levels.proofs.EachPath.{EachPath, EachMember, EachPath-all, EachPath-map, EachPath-map2, EachMember-all}
use Rattle.lan_levels.proofs.Heads.{after, at_after}
use Rattle.lan_levels.proofs.EachLeaf.{EachLeaf-map, EachLeaf-map2, EachLeaf-first, SomeLeaf-not}

abbrev pub is_nullable : Layer → Bool
is_nullable (layer.Item n) = n
is_nullable (layer.Struct n m) = n
is_nullable (layer.List n) = n

-- the layer with so many inside may be null
abbrev pub AllowsNull : List Layer → ℕ → Type 0
AllowsNull [] k = ⊥
AllowsNull (l ∷ path) k = ((k ≡ length path) × IsTrue (is_nullable l)) ⊎ AllowsNull path k

allows_less : (path : List Layer) (k : ℕ) → AllowsNull path k → k < length path
allows_less [] k h = absurd h
allows_less (l ∷ path) k (inl h) = let e : k ≡ length path = h.0 in omega arith
allows_less (l ∷ path) k (inr h) = omega (arith, allows_less path k h)

-- a slot of a value that fits
pub record OkSlot (ty : PlainType ℕ) (path : List Layer) (s : PlainSlot) : Type 0 where
  pub null : (k : ℕ) → s.state ≡ state.Null k → AllowsNull path k
  pub text : (t : List ℕ) → ty ≡ text → s.state ≡ state.Here → s.value ≡ bytes t → IsUtf8 t

inner_ok : (ty : PlainType ℕ) (l : Layer) (path : List Layer) (xs : List PlainSlot) → All (OkSlot ty path) xs → All (OkSlot ty (l ∷ path)) xs
inner_ok ty l path [] h = All-nil (OkSlot ty (l ∷ path))
inner_ok ty l path (x ∷ xs) h =
    let head = All-head (OkSlot ty path) x xs h in
    All-cons (OkSlot ty (l ∷ path)) x xs (record { null = λ k e. inr (head.null k e); text = head.text }) (inner_ok ty l path xs (All-tail (OkSlot ty path) x xs h))

both_ok : (P : PlainSlot → Type 0) (xs ys : List PlainSlot) → All P xs → All P ys → All P (xs ++ ys)
both_ok P [] ys p q = q
both_ok P (x ∷ xs) ys p q = All-cons P x (xs ++ ys) (All-head P x xs p) (both_ok P xs ys (All-tail P x xs p) q)

one_ok : (ty : PlainType ℕ) (path : List Layer) (s : PlainSlot) → OkSlot ty path s → All (OkSlot ty path) (s ∷ [])
one_ok ty path s h = All-cons (OkSlot ty path) s [] h (All-nil (OkSlot ty path))

null_ok : (ty : PlainType ℕ) (l : Layer) (path : List Layer) (r : ℕ) → IsTrue (is_nullable l) → All (OkSlot ty (l ∷ path)) (slot r (state.Null (length path)) nothing ∷ [])
null_ok ty l path r h =
    one_ok ty (l ∷ path) (slot r (state.Null (length path)) nothing)
    (record {
      null = λ k e. let same : k ≡ length path = cc in inl (same, h);
      text = λ t a b c. let bad : state.Null (length path) ≡ state.Here = b in absurd (cc);
    })

empty_ok : (ty : PlainType ℕ) (path : List Layer) (r depth : ℕ) → All (OkSlot ty path) (slot r (state.Empty depth) nothing ∷ [])
empty_ok ty path r depth =
    one_ok ty path (slot r (state.Empty depth) nothing)
    (record {
      null = λ k e. let bad : state.Empty depth ≡ state.Null k = e in absurd (cc);
      text = λ t a b c. let bad : state.Empty depth ≡ state.Here = b in absurd (cc);
    })

here_ok : (ty : PlainType ℕ) (path : List Layer) (r : ℕ) (x : PlainPiece) → ((t : List ℕ) → ty ≡ text → x ≡ bytes t → IsUtf8 t) → All (OkSlot ty path) (slot r state.Here x ∷ [])
here_ok ty path r x h =
    one_ok ty path (slot r state.Here x)
    (record {
      null = λ k e. let bad : state.Here ≡ state.Null k = e in absurd (cc);
      text = λ t a b c. h t a c;
    })

text_ok : (s t : List ℕ) → IsUtf8 s → bytes s ≡ bytes t → IsUtf8 t
text_ok s t h e = let same : s ≡ t = cc in subst IsUtf8 same h

abbrev Proper : PlainValue → PlainType ℕ → List Layer → Type 0
Proper v ty path = (r : ℕ) → All (OkSlot ty path) (slots_of ty path r v)

abbrev LaterProper : PlainValues → PlainType ℕ → List Layer → Type 0
LaterProper vs ty path = All (OkSlot ty path) (flat (slots_of ty path (lists_in path)) vs)

mutual
  pub proper : (v : PlainValue) (f : PlainField ℕ) → Fits f v → EachPath f (Proper v)
  proper null (field id name n (primitive p)) h = λ r. null_ok (primitive p) (layer.Item n) [] r h
  proper null (field id name n (vector p k)) h = λ r. null_ok (vector p k) (layer.Item n) [] r h
  proper null (field id name n text) h = λ r. null_ok text (layer.Item n) [] r h
  proper null (field id name n byte_type) h = λ r. null_ok byte_type (layer.Item n) [] r h
  proper null (field id name n (list item)) h = EachPath-all item (λ ty path. Proper null ty (layer.List n ∷ path)) (λ ty path r. null_ok ty (layer.List n) path r h)
  proper null (field id name n (struct members)) h = EachMember-all members n 0 (Proper null) (λ m ty path r. null_ok ty (layer.Struct n m) path r h)
  proper (bits b) (field id name n (primitive p)) h =
      λ r. here_ok (primitive p) (layer.Item n ∷ []) r (piece_of (primitive p) (bits b)) (λ t e x. let bad : primitive p ≡ text = e in absurd (cc))
  proper (bits b) (field id name n (vector p k)) h = absurd h
  proper (bits b) (field id name n text) h = absurd h
  proper (bits b) (field id name n byte_type) h = absurd h
  proper (bits b) (field id name n (list item)) h = absurd h
  proper (bits b) (field id name n (struct members)) h = absurd h
  proper (raw s) (field id name n (primitive p)) h = absurd h
  proper (raw s) (field id name n (vector p k)) h = λ r. here_ok (vector p k) (layer.Item n ∷ []) r (bytes s) (λ t e x. let bad : vector p k ≡ text = e in absurd (cc))
  proper (raw s) (field id name n text) h = λ r. here_ok text (layer.Item n ∷ []) r (bytes s) (λ t e x. text_ok s t h x)
  proper (raw s) (field id name n byte_type) h = λ r. here_ok byte_type (layer.Item n ∷ []) r (bytes s) (λ t e x. let bad : byte_type ≡ text = e in absurd (cc))
  proper (raw s) (field id name n (list item)) h = absurd h
  proper (raw s) (field id name n (struct members)) h = absurd h
  proper (items vs) (field id name n (primitive p)) h = absurd h
  proper (items vs) (field id name n (vector p k)) h = absurd h
  proper (items vs) (field id name n text) h = absurd h
  proper (items vs) (field id name n byte_type) h = absurd h
  proper (items no_values) (field id name n (list item)) h =
      EachPath-all item (λ ty path. Proper (items no_values) ty (layer.List n ∷ path)) (λ ty path r. empty_ok ty (layer.List n ∷ path) r (length path))
  proper (items (one_value v vs)) (field id name n (list item)) h =
      EachPath-map2 item (Proper v) (LaterProper vs) (λ ty path. Proper (items (one_value v vs)) ty (layer.List n ∷ path))
      (λ ty path x y r. inner_ok ty (layer.List n) path (slots_of ty path r v ++ flat (slots_of ty path (lists_in path)) vs)
      (both_ok (OkSlot ty path) (slots_of ty path r v) (flat (slots_of ty path (lists_in path)) vs) (x r) y))
      (proper v item h.0) (later_proper vs item h.1)
  proper (items vs) (field id name n (struct members)) h = absurd h
  proper (group vs) (field id name n (primitive p)) h = absurd h
  proper (group vs) (field id name n (vector p k)) h = absurd h
  proper (group vs) (field id name n text) h = absurd h
  proper (group vs) (field id name n byte_type) h = absurd h
  proper (group vs) (field id name n (list item)) h = absurd h
  proper (group vs) (field id name n (struct members)) h = members_proper vs members n 0 vs refl h

  later_proper : (vs : PlainValues) (item : PlainField ℕ) → AllFit item vs → EachPath item (LaterProper vs)
  later_proper no_values item h = EachPath-all item (LaterProper no_values) (λ ty path. All-nil (OkSlot ty path))
  later_proper (one_value v vs) item h =
      EachPath-map2 item (Proper v) (LaterProper vs) (LaterProper (one_value v vs))
      (λ ty path x y. both_ok (OkSlot ty path) (slots_of ty path (lists_in path) v) (flat (slots_of ty path (lists_in path)) vs) (x (lists_in path)) y)
      (proper v item h.0) (later_proper vs item h.1)

  members_proper : (vs : PlainValues) (fs : PlainFields ℕ) (n : Bool) (m : ℕ) (whole : PlainValues) → after m whole ≡ vs → EachFits fs vs → EachMember fs n m (Proper (group whole))
  members_proper no_values no_fields n m whole e h = tt
  members_proper no_values (one_field f fs) n m whole e h = absurd h
  members_proper (one_value v vs) no_fields n m whole e h = absurd h
  members_proper (one_value v vs) (one_field f fs) n m whole e h =
      let (here, next) = at_after m whole v vs e in (
        EachPath-map f (Proper v) (λ ty path. Proper (group whole) ty (layer.Struct n m ∷ path))
            (λ ty path x r. inner_ok ty (layer.Struct n m) path (slots_of ty path r (at_place m whole))
            (subst (λ (y : PlainValue). All (OkSlot ty path) (slots_of ty path r y)) (sym here) (x r)))
            (proper v f h.0),
        members_proper vs fs n (suc m) whole next h.1,
      )

-- one of the slots says that the layer with so many inside is null
record HasNull (slots : List PlainSlot) (depth : ℕ) : Type 0 where
  slot : PlainSlot
  stands : Contains slots slot
  null : slot.state ≡ state.Null depth

-- nulls among the slots are allowed
abbrev NullsAllowed : (ℕ → List PlainSlot) → ℕ → ℕ → PlainType ℕ → List Layer → Type 0
NullsAllowed slots d j ty path = (k : ℕ) → k < length path → HasNull (slots j) k → AllowsNull path k

abbrev NullIn : (ℕ → List PlainSlot) → ℕ → ℕ → PlainType ℕ → List Layer → Type 0
NullIn slots d j ty path = (depth : ℕ) × (depth + 1 ≡ length path) × HasNull (slots j) depth

clash : (l : Layer) (path : List Layer) (depth : ℕ) → is_nullable l ≡ false → depth ≡ length path → AllowsNull (l ∷ path) depth → ⊥
clash l path depth not_nullable e (inl h) = true≢false (sym h.1 ∙ not_nullable)
clash l path depth not_nullable e (inr h) = let lt = allows_less path depth h in omega arith

-- a null of the outermost layer, which is not nullable
outer_clash : (l : Layer) (path : List Layer) (slots : List PlainSlot) → is_nullable l ≡ false → ((k : ℕ) → k < length (l ∷ path) → HasNull slots k → AllowsNull (l ∷ path) k)
    → (depth : ℕ) → depth + 1 ≡ length (l ∷ path) → HasNull slots depth → ⊥
outer_clash l path slots not_nullable h depth e found =
    clash l path depth not_nullable (omega arith) (h depth (omega arith) found)

inner_allowed : (l : Layer) (path : List Layer) (slots : List PlainSlot) → ((k : ℕ) → k < length (l ∷ path) → HasNull slots k → AllowsNull (l ∷ path) k)
    → (k : ℕ) → k < length path → HasNull slots k → AllowsNull path k
inner_allowed l path slots h k lt found = elim (h k (omega arith) found) [ inl p ↦ absurd (let e : k ≡ length path = p.0 in omega arith) | inr p ↦ p ]

members_clash : (fs : PlainFields ℕ) (n : Bool) (m i : ℕ) (slots : ℕ → List PlainSlot) → n ≡ false → EachLeafOf fs n m i (NullsAllowed slots) → EachLeafOf fs n m i (NullIn slots)
    → EachLeafOf fs n m i (λ d j ty path. ⊥)
members_clash no_fields n m i slots e p q = tt
members_clash (one_field f fs) n m i slots e p q = (
  EachLeaf-map2 f i (λ d j ty path. NullsAllowed slots d j ty (layer.Struct n m ∷ path)) (λ d j ty path. NullIn slots d j ty (layer.Struct n m ∷ path)) (λ d j ty path. ⊥)
      (λ d j ty path a b c x y. outer_clash (layer.Struct n m) path (slots j) e x y.0 y.1 y.2) p.0 q.0,
  members_clash fs n (suc m) (i + leaf_count f) slots e p.1 q.1,
)

null_in : (f : PlainField ℕ) (i : ℕ) (slots : ℕ → List PlainSlot) (n : Bool) → IsBadNull n f i slots → EachLeaf f i (NullIn slots)
null_in f i slots n bad =
    EachLeaf-map f i (SaysNull slots bad.earlier bad.outer) (NullIn slots)
    (λ d j ty path a b c x.
    let s = slot (lists_in path + bad.outer) (state.Null x.depth) nothing in
    (x.depth, x.outermost, record { slot = s; stands = subst (λ (all : List PlainSlot). Contains all s) (sym x.stands) (Contains-append_right x.before (s ∷ x.rest) s (0, omega arith, refl)); null = refl })) bad.nulls

no_leaf_left : (f : PlainField ℕ) (i : ℕ) → IsField f → EachLeaf f i (λ d j ty path. ⊥) → ⊥
no_leaf_left f i ok h = (EachLeaf-first f i (λ d j ty path. ⊥) ok h).holds

mutual
  no_bad_null : (f : PlainField ℕ) (i id : ℕ) (slots : ℕ → List PlainSlot) → IsField f → EachLeaf f i (NullsAllowed slots) → HasBadNull f i slots id → ⊥
  no_bad_null (field d name n (list item)) i id slots ok h (inl bad) =
      no_leaf_left item i ok (EachLeaf-map2 item i (λ d j ty path. NullsAllowed slots d j ty (layer.List n ∷ path)) (λ d j ty path. NullIn slots d j ty (layer.List n ∷ path)) (λ d j ty path. ⊥)
      (λ d j ty path a b c x y. outer_clash (layer.List n) path (slots j) bad.1.not_nullable x y.0 y.1 y.2) h (null_in (field d name n (list item)) i slots n bad.1))
  no_bad_null (field d name n (list item)) i id slots ok h (inr bad) =
      no_bad_null item i id slots ok
      (EachLeaf-map item i (λ d j ty path. NullsAllowed slots d j ty (layer.List n ∷ path)) (NullsAllowed slots) (λ d j ty path a b c x. inner_allowed (layer.List n) path (slots j) x) h) bad
  no_bad_null (field d name n (struct members)) i id slots ok h (inl bad) =
      no_leaf_left (field d name n (struct members)) i ok (members_clash members n 0 i slots bad.1.not_nullable h (null_in (field d name n (struct members)) i slots n bad.1))
  no_bad_null (field d name n (struct members)) i id slots ok h (inr bad) = none_has_bad_null members n 0 i id slots ok.1 h bad
  no_bad_null (field d name n (primitive p)) i id slots ok h bad = let y = null_in (field d name n (primitive p)) i slots n bad.1 in outer_clash (layer.Item n) [] (slots i) bad.1.not_nullable h y.0 y.1 y.2
  no_bad_null (field d name n (vector p k)) i id slots ok h bad = let y = null_in (field d name n (vector p k)) i slots n bad.1 in outer_clash (layer.Item n) [] (slots i) bad.1.not_nullable h y.0 y.1 y.2
  no_bad_null (field d name n text) i id slots ok h bad = let y = null_in (field d name n text) i slots n bad.1 in outer_clash (layer.Item n) [] (slots i) bad.1.not_nullable h y.0 y.1 y.2
  no_bad_null (field d name n byte_type) i id slots ok h bad = let y = null_in (field d name n byte_type) i slots n bad.1 in outer_clash (layer.Item n) [] (slots i) bad.1.not_nullable h y.0 y.1 y.2

  none_has_bad_null : (fs : PlainFields ℕ) (n : Bool) (m i id : ℕ) (slots : ℕ → List PlainSlot) → AreFields fs → EachLeafOf fs n m i (NullsAllowed slots) → SomeHasBadNull fs i slots id → ⊥
  none_has_bad_null no_fields n m i id slots ok h bad = bad
  none_has_bad_null (one_field f fs) n m i id slots ok h (inl bad) =
      no_bad_null f i id slots ok.0
      (EachLeaf-map f i (λ d j ty path. NullsAllowed slots d j ty (layer.Struct n m ∷ path)) (NullsAllowed slots) (λ d j ty path a b c x. inner_allowed (layer.Struct n m) path (slots j) x) h.0)
      bad
  none_has_bad_null (one_field f fs) n m i id slots ok h (inr bad) = none_has_bad_null fs n (suc m) (i + leaf_count f) id slots ok.1 h.1 bad

abbrev AllOk : (ℕ → List PlainSlot) → ℕ → ℕ → PlainType ℕ → List Layer → Type 0
AllOk slots d j ty path = All (OkSlot ty path) (slots j)

-- slots of a value that fits have no bad null
pub ok_no_null : (f : PlainField ℕ) (i id : ℕ) (slots : ℕ → List PlainSlot) → IsField f → EachLeaf f i (λ d j ty path. All (OkSlot ty path) (slots j)) → HasBadNull f i slots id → ⊥
ok_no_null f i id slots ok h bad =
    no_bad_null f i id slots ok
    (EachLeaf-map f i (AllOk slots) (NullsAllowed slots) (λ d j ty path a b c x k lt null. (All-contains (OkSlot ty path) (slots j) null.slot x null.stands).null k null.null) h) bad

-- and no bad text
pub ok_no_text : (f : PlainField ℕ) (i id : ℕ) (slots : ℕ → List PlainSlot) → EachLeaf f i (λ d j ty path. All (OkSlot ty path) (slots j)) → HasBadText f i slots id → ⊥
ok_no_text f i id slots h bad =
    SomeLeaf-not f i (λ d j ty path. (d ≡ id) × (ty ≡ text) × IsBadText (slots j)) (AllOk slots)
    (λ d j ty path a b c x y.
    let s = slot x.2.rep state.Here (bytes x.2.text) in
    x.2.bad ((All-contains (OkSlot ty path) (slots j) s y x.2.stands).text x.2.text x.1 refl refl))
    bad h
