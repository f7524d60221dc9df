-- The slots of a value begin the same values of a field in each leaf of that field.
use Rattle.std.proofs.Common.{◌≡◌, ℕ, suc, ◌+◌, ◌-◌, Bool, List, [], ◌∷◌, ◌++◌, length, map, leb, refl, ap, sym, subst, ◌∙◌, arith}
use Rattle.std.specs.Bool.{⊤}
use Rattle.std.specs.List.{filter}
use Rattle.std.proofs.lemmas.Bool.{le-leb, lt-leb}
use Rattle.std.proofs.lemmas.List.{map-append}
use Rattle.std.proofs.lemmas.List.Elements.{filter-append}
use Rattle.lan_model.specs.declared.tree.Layer.{Layer}
use Rattle.lan_model.specs.declared.tree.Layer.TheVariants as layer
use Rattle.lan_model.specs.Plain.{PlainType, primitive, vector, text, bytes as byte_type, list, struct, PlainField, field, PlainFields, no_fields, one_field, PlainValue, null, bits, raw, items, group, PlainValues, no_values, one_value}
use Rattle.lan_model.specs.Fits.{Fits, AllFit, EachFits}
use Rattle.lan_levels.specs.declared.slot.State.{State}
use Rattle.lan_levels.specs.declared.slot.State.TheVariants as state
use Rattle.lan_levels.specs.PlainSlots.{nothing, PlainSlot}
use Rattle.lan_levels.specs.SlotsOf.{slots_of, slot, flat, lists_in}
use Rattle.lan_levels.specs.Loosened.{loosened, all_loosened}
use Rattle.lan_levels.specs.BadSlots.{begun}
use Rattle.lan_levels.specs.Taken.{first_rep}
use Rattle.lan_levels.proofs.EachPath.{EachPath, EachPath-all, EachPath-map, EachPath-map2}
use Rattle.lan_levels.proofs.Heads.{AllLow, HeadedAt, headed, after, at_after}
use Rattle.lan_levels.proofs.Reps.{first_rep-is, same_rep}

abbrev pub Part : Type 0
Part = PlainType ℕ → List Layer → List PlainSlot

pub begun-append : (path : List Layer) (xs ys : List PlainSlot) → begun path (xs ++ ys) ≡ begun path xs ++ begun path ys
begun-append path xs ys =
    let test : PlainSlot → Bool = λ s. leb (lists_in path) s.rep in
    let outer : PlainSlot → ℕ = λ s. s.rep - lists_in path in
    ap (map outer) (filter-append test xs ys) ∙ map-append outer (filter test xs) (filter test ys)

begun-low : (path : List Layer) (xs : List PlainSlot) → AllLow (lists_in path) xs → begun path xs ≡ []
begun-low path [] h = refl
begun-low path (x ∷ xs) h = rw (lt-leb (lists_in path) x.rep h.0) (begun-low path xs h.1)

begun-one : (path : List Layer) (k : ℕ) (x : PlainSlot) (xs : List PlainSlot) → x.rep ≡ first_rep k path → AllLow (lists_in path) xs → begun path (x ∷ xs) ≡ k ∷ []
begun-one path k x xs e h =
    let rep : x.rep ≡ lists_in path + k = e ∙ first_rep-is k path in
    let here : x.rep - lists_in path ≡ k = omega arith in
    rw (le-leb (lists_in path) x.rep (omega arith)) (rw (begun-low path xs h) (ap (λ (a : ℕ). a ∷ []) here))

-- the parts of all leaves of the field begin the same values of it
pub record IsEven (f : PlainField ℕ) (part : Part) : Type 0 where
  pub values : List ℕ
  pub each : EachPath f (λ ty path. begun path (part ty path) ≡ values)

abbrev mutual
  -- and so of each field inside it
  pub IsEvenInside : PlainField ℕ → Part → Type 0
  IsEvenInside (field d name n (list item)) part = IsEven (field d name n (list item)) part × IsEvenInside item (λ ty path. part ty (layer.List n ∷ path))
  IsEvenInside (field d name n (struct members)) part = IsEven (field d name n (struct members)) part × AreEvenInside members n 0 part
  IsEvenInside (field d name n ty) part = IsEven (field d name n ty) part

  pub AreEvenInside : PlainFields ℕ → Bool → ℕ → Part → Type 0
  AreEvenInside no_fields n m part = ⊤
  AreEvenInside (one_field f fs) n m part = IsEvenInside f (λ ty path. part ty (layer.Struct n m ∷ path)) × AreEvenInside fs n (suc m) part

even_none : (f : PlainField ℕ) → IsEven f (λ ty path. [])
even_none f = record { values = []; each = EachPath-all f (λ ty path. begun path [] ≡ []) (λ ty path. refl) }

mutual
  -- nothing begins no value
  pub inside_none : (f : PlainField ℕ) → IsEvenInside f (λ ty path. [])
  inside_none (field d name n (list item)) = (even_none (field d name n (list item)), inside_none item)
  inside_none (field d name n (struct members)) = (even_none (field d name n (struct members)), members_none members n 0)
  inside_none (field d name n (primitive p)) = even_none (field d name n (primitive p))
  inside_none (field d name n (vector p k)) = even_none (field d name n (vector p k))
  inside_none (field d name n text) = even_none (field d name n text)
  inside_none (field d name n byte_type) = even_none (field d name n byte_type)

  pub members_none : (fs : PlainFields ℕ) (n : Bool) (m : ℕ) → AreEvenInside fs n m (λ ty path. [])
  members_none no_fields n m = tt
  members_none (one_field f fs) n m = (inside_none f, members_none fs n (suc m))

even_append : (f : PlainField ℕ) (p q : Part) → IsEven f p → IsEven f q → IsEven f (λ ty path. p ty path ++ q ty path)
even_append f p q a b = record {
  values = a.values ++ b.values;
  each = EachPath-map2 f (λ ty path. begun path (p ty path) ≡ a.values) (λ ty path. begun path (q ty path) ≡ b.values)
      (λ ty path. begun path (p ty path ++ q ty path) ≡ a.values ++ b.values)
      (λ ty path x y. begun-append path (p ty path) (q ty path) ∙ ap (λ (s : List ℕ). s ++ begun path (q ty path)) x ∙ ap (λ (s : List ℕ). a.values ++ s) y)
      a.each b.each;
}

mutual
  inside_append : (f : PlainField ℕ) (p q : Part) → IsEvenInside f p → IsEvenInside f q → IsEvenInside f (λ ty path. p ty path ++ q ty path)
  inside_append (field d name n (list item)) p q a b =
      (even_append (field d name n (list item)) p q a.0 b.0, inside_append item (λ ty path. p ty (layer.List n ∷ path)) (λ ty path. q ty (layer.List n ∷ path)) a.1 b.1)
  inside_append (field d name n (struct members)) p q a b = (even_append (field d name n (struct members)) p q a.0 b.0, members_append members n 0 p q a.1 b.1)
  inside_append (field d name n (primitive t)) p q a b = even_append (field d name n (primitive t)) p q a b
  inside_append (field d name n (vector t k)) p q a b = even_append (field d name n (vector t k)) p q a b
  inside_append (field d name n text) p q a b = even_append (field d name n text) p q a b
  inside_append (field d name n byte_type) p q a b = even_append (field d name n byte_type) p q a b

  members_append : (fs : PlainFields ℕ) (n : Bool) (m : ℕ) (p q : Part) → AreEvenInside fs n m p → AreEvenInside fs n m q → AreEvenInside fs n m (λ ty path. p ty path ++ q ty path)
  members_append no_fields n m p q a b = tt
  members_append (one_field f fs) n m p q a b =
      (inside_append f (λ ty path. p ty (layer.Struct n m ∷ path)) (λ ty path. q ty (layer.Struct n m ∷ path)) a.0 b.0, members_append fs n (suc m) p q a.1 b.1)

-- one slot that begins a value of the field
abbrev OneSlot : ℕ → (PlainType ℕ → List Layer → State) → Part
OneSlot k s ty path = slot (first_rep k path) (s ty path) nothing ∷ []

even_one : (f : PlainField ℕ) (k : ℕ) (s : PlainType ℕ → List Layer → State) → IsEven f (OneSlot k s)
even_one f k s = record {
  values = k ∷ [];
  each = EachPath-all f (λ ty path. begun path (OneSlot k s ty path) ≡ k ∷ []) (λ ty path. begun-one path k (slot (first_rep k path) (s ty path) nothing) [] refl tt);
}

mutual
  inside_one : (f : PlainField ℕ) (k : ℕ) (s : PlainType ℕ → List Layer → State) → IsEvenInside f (OneSlot k s)
  inside_one (field d name n (list item)) k s = (even_one (field d name n (list item)) k s, inside_one item (k + 1) (λ ty path. s ty (layer.List n ∷ path)))
  inside_one (field d name n (struct members)) k s = (even_one (field d name n (struct members)) k s, members_one members n 0 k s)
  inside_one (field d name n (primitive p)) k s = even_one (field d name n (primitive p)) k s
  inside_one (field d name n (vector p c)) k s = even_one (field d name n (vector p c)) k s
  inside_one (field d name n text) k s = even_one (field d name n text) k s
  inside_one (field d name n byte_type) k s = even_one (field d name n byte_type) k s

  members_one : (fs : PlainFields ℕ) (n : Bool) (m k : ℕ) (s : PlainType ℕ → List Layer → State) → AreEvenInside fs n m (OneSlot k s)
  members_one no_fields n m k s = tt
  members_one (one_field f fs) n m k s = (inside_one f k (λ ty path. s ty (layer.Struct n m ∷ path)), members_one fs n (suc m) k s)

-- the slots of a value
abbrev pub Of : PlainValue → ℕ → Part
Of v k ty path = slots_of ty path (first_rep k path) v

-- the slots of items after the first
abbrev OfLater : PlainValues → Part
OfLater vs ty path = flat (slots_of ty path (lists_in path)) vs

even_value : (f : PlainField ℕ) (v : PlainValue) (k : ℕ) → Fits (loosened f) v → IsEven f (Of v k)
even_value f v k h = record {
  values = k ∷ [];
  each = EachPath-map f (HeadedAt (λ ty path. first_rep k path) v) (λ ty path. begun path (Of v k ty path) ≡ k ∷ [])
      (λ ty path a. ap (begun path) a.is ∙ begun-one path k a.head a.rest a.rep a.low)
      (headed v f (λ ty path. first_rep k path) h);
}

members_null : (fs : PlainFields ℕ) (n : Bool) (m k : ℕ) → AreEvenInside fs n m (Of null k)
members_null no_fields n m k = tt
members_null (one_field f fs) n m k = (inside_one f k (λ ty path. state.Null (length path)), members_null fs n (suc m) k)

mutual
  -- the slots of a value of the field's shape
  pub inside_value : (v : PlainValue) (f : PlainField ℕ) (k : ℕ) → Fits (loosened f) v → IsEvenInside f (Of v k)
  inside_value v (field d name n (primitive p)) k h = even_value (field d name n (primitive p)) v k h
  inside_value v (field d name n (vector p c)) k h = even_value (field d name n (vector p c)) v k h
  inside_value v (field d name n text) k h = even_value (field d name n text) v k h
  inside_value v (field d name n byte_type) k h = even_value (field d name n byte_type) v k h
  inside_value null (field d name n (list item)) k h = (even_value (field d name n (list item)) null k h, inside_one item (k + 1) (λ ty path. state.Null (length path)))
  inside_value (bits b) (field d name n (list item)) k h = absurd h
  inside_value (raw s) (field d name n (list item)) k h = absurd h
  inside_value (items no_values) (field d name n (list item)) k h =
      (even_value (field d name n (list item)) (items no_values) k h, inside_one item (k + 1) (λ ty path. state.Empty (length path)))
  inside_value (items (one_value v vs)) (field d name n (list item)) k h =
      (even_value (field d name n (list item)) (items (one_value v vs)) k h, inside_append item (Of v (k + 1)) (OfLater vs) (inside_value v item (k + 1) h.0) (inside_later vs item h.1))
  inside_value (group vs) (field d name n (list item)) k h = absurd h
  inside_value null (field d name n (struct members)) k h = (even_value (field d name n (struct members)) null k h, members_null members n 0 k)
  inside_value (bits b) (field d name n (struct members)) k h = absurd h
  inside_value (raw s) (field d name n (struct members)) k h = absurd h
  inside_value (items vs) (field d name n (struct members)) k h = absurd h
  inside_value (group vs) (field d name n (struct members)) k h = (even_value (field d name n (struct members)) (group vs) k h, inside_members vs members n 0 k vs refl h)

  inside_later : (vs : PlainValues) (item : PlainField ℕ) → AllFit (loosened item) vs → IsEvenInside item (OfLater vs)
  inside_later no_values item h = inside_none item
  inside_later (one_value v vs) item h =
      inside_append item (λ ty path. slots_of ty path (lists_in path) v) (OfLater vs)
      (subst (IsEvenInside item) (λ i ty path. slots_of ty path (same_rep path i) v) (inside_value v item 0 h.0)) (inside_later vs item h.1)

  inside_members : (vs : PlainValues) (fs : PlainFields ℕ) (n : Bool) (m k : ℕ) (whole : PlainValues) → after m whole ≡ vs → EachFits (all_loosened fs) vs → AreEvenInside fs n m (Of (group whole) k)
  inside_members no_values no_fields n m k whole e h = tt
  inside_members no_values (one_field f fs) n m k whole e h = absurd h
  inside_members (one_value v vs) no_fields n m k whole e h = absurd h
  inside_members (one_value v vs) (one_field f fs) n m k whole e h =
      let (here, next) = at_after m whole v vs e in
      (subst (λ (x : PlainValue). IsEvenInside f (Of x k)) (sym here) (inside_value v f k h.0), inside_members vs fs n (suc m) k whole next h.1)
