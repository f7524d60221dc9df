-- Values along the paths to leaves.
use Rattle.std.proofs.Common.{◌≡◌, ℕ, suc, ◌+◌, ◌^◌, ◌<◌, Bool, List, [], ◌∷◌, ◌++◌, length, All, reverse, IsTrue, refl, ap, sym, subst, ◌∙◌, add-one, arith}
use Rattle.std.specs.Bool.{⊤}
use Rattle.std.proofs.lemmas.Grind.{reverse_onto}
use Rattle.std.proofs.lemmas.List.Elements.{All-nil, All-cons, All-append}
use Rattle.lan_model.specs.declared.tree.Layer.{Layer}
use Rattle.lan_model.specs.declared.tree.Layer.TheVariants as layer
use Rattle.lan_model.specs.Plain.{PlainType, primitive, vector, text, bytes, list, struct, PlainField, field, PlainFields, no_fields, one_field, PlainValue, null, bits, raw, items, group, PlainValues, no_values, one_value}
use Rattle.lan_model.specs.Fits.{Fits, FitsBits, FitsRaw, AllFit, EachFits}
use Rattle.lan_model.specs.Leaves.{PlainLeaf, leaves_of, leaves_of_members, leaves_from}
use Rattle.lan_levels.specs.SlotsOf.{at_place}
use Rattle.lan_levels.proofs.EachPath.{EachPath, EachMember, EachPath-all, EachMember-all, EachPath-map, EachPath-map2}
use Rattle.lan_levels.proofs.Leaves.{onward}
use Rattle.lan_model.specs.Room.{HasRoom, AllHaveRoom}

abbrev pub EachValue : (PlainValue → Type 0) → PlainValues → Type 0
EachValue P no_values = ⊤
EachValue P (one_value v vs) = P v × EachValue P vs

-- what the path to a leaf of that type meets of the value fits it
abbrev pub FitsPath : PlainType ℕ → List Layer → PlainValue → Type 0
FitsPath ty [] v = ⊤
FitsPath ty (layer.Item n ∷ inner) null = IsTrue n
FitsPath ty (layer.Item n ∷ inner) (bits b) = FitsBits ty b
FitsPath ty (layer.Item n ∷ inner) (raw s) = FitsRaw ty s × (length s < 2 ^ 32)
FitsPath ty (layer.Struct n m ∷ inner) null = IsTrue n
FitsPath ty (layer.Struct n m ∷ inner) (group vs) = FitsPath ty inner (at_place m vs)
FitsPath ty (layer.List n ∷ inner) null = IsTrue n
FitsPath ty (layer.List n ∷ inner) (items vs) = EachValue (FitsPath ty inner) vs
FitsPath ty (l ∷ inner) v = ⊥

abbrev At : PlainValue → PlainType ℕ → List Layer → Type 0
At v ty path = FitsPath ty path v

abbrev EachAt : PlainValues → PlainType ℕ → List Layer → Type 0
EachAt vs ty path = EachValue (FitsPath ty path) vs

mutual
  pub path_fits : (v : PlainValue) (f : PlainField ℕ) → Fits f v → HasRoom v → EachPath f (At v)
  path_fits null (field id name n (list item)) h r = EachPath-all item (λ ty path. At null ty (layer.List n ∷ path)) (λ ty path. h)
  path_fits null (field id name n (struct members)) h r = EachMember-all members n 0 (At null) (λ m ty path. h)
  path_fits null (field id name n (primitive p)) h r = h
  path_fits null (field id name n (vector p k)) h r = h
  path_fits null (field id name n text) h r = h
  path_fits null (field id name n bytes) h r = h
  path_fits (bits b) (field id name n (list item)) h r = absurd h
  path_fits (bits b) (field id name n (struct members)) h r = absurd h
  path_fits (bits b) (field id name n (primitive p)) h r = h
  path_fits (bits b) (field id name n (vector p k)) h r = h
  path_fits (bits b) (field id name n text) h r = h
  path_fits (bits b) (field id name n bytes) h r = h
  path_fits (raw s) (field id name n (list item)) h r = absurd h
  path_fits (raw s) (field id name n (struct members)) h r = absurd h
  path_fits (raw s) (field id name n (primitive p)) h r = (h, r)
  path_fits (raw s) (field id name n (vector p k)) h r = (h, r)
  path_fits (raw s) (field id name n text) h r = (h, r)
  path_fits (raw s) (field id name n bytes) h r = (h, r)
  path_fits (items vs) (field id name n (list item)) h r = items_fit vs item h r
  path_fits (items vs) (field id name n (struct members)) h r = absurd h
  path_fits (items vs) (field id name n (primitive p)) h r = absurd h
  path_fits (items vs) (field id name n (vector p k)) h r = absurd h
  path_fits (items vs) (field id name n text) h r = absurd h
  path_fits (items vs) (field id name n bytes) h r = absurd h
  path_fits (group vs) (field id name n (list item)) h r = absurd h
  path_fits (group vs) (field id name n (struct members)) h r = members_fit vs members n 0 vs (λ j. let e : 0 + j ≡ j = omega arith in ap (λ (k : ℕ). at_place k vs) e) h r
  path_fits (group vs) (field id name n (primitive p)) h r = absurd h
  path_fits (group vs) (field id name n (vector p k)) h r = absurd h
  path_fits (group vs) (field id name n text) h r = absurd h
  path_fits (group vs) (field id name n bytes) h r = absurd h

  items_fit : (vs : PlainValues) (f : PlainField ℕ) → AllFit f vs → AllHaveRoom vs → EachPath f (EachAt vs)
  items_fit no_values f h r = EachPath-all f (EachAt no_values) (λ ty path. tt)
  items_fit (one_value v vs) f h r = EachPath-map2 f (At v) (EachAt vs) (EachAt (one_value v vs)) (λ ty path a b. (a, b)) (path_fits v f h.0 r.0) (items_fit vs f h.1 r.1)

  -- the members from the place `m` on, where `all` has these values from there on
  members_fit : (vs : PlainValues) (fs : PlainFields ℕ) (n : Bool) (m : ℕ) (all : PlainValues) → ((j : ℕ) → at_place (m + j) all ≡ at_place j vs) → EachFits fs vs → AllHaveRoom vs → EachMember fs n m (At (group all))
  members_fit no_values no_fields n m all at h r = tt
  members_fit no_values (one_field f fs) n m all at h r = absurd h
  members_fit (one_value v vs) no_fields n m all at h r = absurd h
  members_fit (one_value v vs) (one_field f fs) n m all at h r =
      let e : m + 0 ≡ m = omega arith in
      let here : v ≡ at_place m all = sym (at 0) ∙ ap (λ (k : ℕ). at_place k all) e in (
        subst (λ (w : PlainValue). EachPath f (At w)) here (path_fits v f h.0 r.0),
        members_fit vs fs n (suc m) all (λ j. let s : suc m + j ≡ m + suc j = omega arith in ap (λ (k : ℕ). at_place k all) s ∙ at (suc j)) h.1 r.1,
      )

-- of the leaf, below the top field at that place
abbrev IsAt : ℕ → (PlainType ℕ → List Layer → Type 0) → PlainLeaf → Type 0
IsAt top P l = (l.top ≡ top) × P l.ty (reverse l.layers)

abbrev Inside : (PlainType ℕ → List Layer → Type 0) → List Layer → PlainType ℕ → List Layer → Type 0
Inside P outer ty path = P ty (reverse outer ++ path)

one_leaf : (id : ℕ) (n : Bool) (ty : PlainType ℕ) (top : ℕ) (outer : List Layer) (P : PlainType ℕ → List Layer → Type 0) → Inside P outer ty (layer.Item n ∷ []) → All (IsAt top P) (record { id = id; top = top; ty = ty; layers = layer.Item n ∷ outer } ∷ [])
one_leaf id n ty top outer P h = All-cons (IsAt top P) _ [] (refl, subst (P ty) (sym (reverse_onto outer (layer.Item n) [])) h) (All-nil (IsAt top P))

mutual
  each_leaf : (f : PlainField ℕ) (top : ℕ) (outer : List Layer) (P : PlainType ℕ → List Layer → Type 0) → EachPath f (Inside P outer) → All (IsAt top P) (leaves_of f top outer)
  each_leaf (field id name n (list item)) top outer P h =
      each_leaf item top (layer.List n ∷ outer) P
      (EachPath-map item (λ ty path. Inside P outer ty (layer.List n ∷ path)) (Inside P (layer.List n ∷ outer)) (λ ty path a. subst (P ty) (sym (onward (layer.List n) outer path)) a) h)
  each_leaf (field id name n (struct members)) top outer P h = each_member members n 0 top outer P h
  each_leaf (field id name n (primitive p)) top outer P h = one_leaf id n (primitive p) top outer P h
  each_leaf (field id name n (vector p k)) top outer P h = one_leaf id n (vector p k) top outer P h
  each_leaf (field id name n text) top outer P h = one_leaf id n text top outer P h
  each_leaf (field id name n bytes) top outer P h = one_leaf id n bytes top outer P h

  each_member : (fs : PlainFields ℕ) (n : Bool) (m top : ℕ) (outer : List Layer) (P : PlainType ℕ → List Layer → Type 0) → EachMember fs n m (Inside P outer) → All (IsAt top P) (leaves_of_members fs n m top outer)
  each_member no_fields n m top outer P h = All-nil (IsAt top P)
  each_member (one_field f fs) n m top outer P h =
      All-append (IsAt top P) (leaves_of f top (layer.Struct n m ∷ outer)) (leaves_of_members fs n (m + 1) top outer)
      (each_leaf f top (layer.Struct n m ∷ outer) P
      (EachPath-map f (λ ty path. Inside P outer ty (layer.Struct n m ∷ path)) (Inside P (layer.Struct n m ∷ outer)) (λ ty path a. subst (P ty) (sym (onward (layer.Struct n m) outer path)) a) h.0))
      (each_member fs n (m + 1) top outer P (subst (λ (k : ℕ). EachMember fs n k (Inside P outer)) (sym (add-one m)) h.1))

-- what a row has in the leaf fits its path
abbrev pub RowFits : PlainValues → PlainLeaf → Type 0
RowFits row l = FitsPath l.ty (reverse l.layers) (at_place l.top row)

moved : (row : PlainValues) (top : ℕ) (v : PlainValue) (ls : List PlainLeaf) → at_place top row ≡ v → All (IsAt top (At v)) ls → All (RowFits row) ls
moved row top v ls e h k d lt =
    let one = h k d lt in
    subst (FitsPath _ _) (sym (ap (λ (t : ℕ). at_place t row) one.0 ∙ e)) one.1

-- the fields from the place `top` on, where the row has these values from there on
row_fits : (fs : PlainFields ℕ) (vs : PlainValues) (top : ℕ) (row : PlainValues) → ((j : ℕ) → at_place (top + j) row ≡ at_place j vs) → EachFits fs vs → AllHaveRoom vs → All (RowFits row) (leaves_from fs top)
row_fits no_fields vs top row at h r = All-nil (RowFits row)
row_fits (one_field f fs) no_values top row at h r = absurd h
row_fits (one_field f fs) (one_value v vs) top row at h r =
    let e : top ≡ top + 0 = omega arith in
    let here : at_place top row ≡ v = ap (λ (k : ℕ). at_place k row) e ∙ at 0 in
    let one = each_leaf f top [] (At v) (path_fits v f h.0 r.0) in
    All-append (RowFits row) (leaves_of f top []) (leaves_from fs (top + 1)) (moved row top v (leaves_of f top []) here one)
    (row_fits fs vs (top + 1) row (λ j. let s : top + 1 + j ≡ top + suc j = omega arith in ap (λ (k : ℕ). at_place k row) s ∙ at (suc j)) h.1 r.1)

pub fitting_row : (fs : PlainFields ℕ) (row : PlainValues) → EachFits fs row → AllHaveRoom row → All (RowFits row) (leaves_from fs 0)
fitting_row fs row h r = row_fits fs row 0 row (λ j. let e : 0 + j ≡ j = omega arith in ap (λ (k : ℕ). at_place k row) e) h r
