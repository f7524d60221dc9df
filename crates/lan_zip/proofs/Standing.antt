-- The slots of a value that fits its path can stand in a page.
use Rattle.std.proofs.Common.{◌≡◌, ℕ, zero, suc, ◌+◌, ◌^◌, ◌<◌, ◌≤◌, Bool, true, false, List, [], ◌∷◌, ◌++◌, length, map, get_or, All, reverse, IsTrue, refl, sym, subst, ◌∙◌, arith}
use Rattle.std.proofs.lemmas.List.{append-nil, map-append, length-map, length-reverse, reverse-reverse}
use Rattle.std.proofs.lemmas.List.Elements.{All-nil, All-cons, All-append}
use Rattle.std.specs.Bool.{⊤}
use Rattle.lan_model.specs.declared.tree.Primitive.{Primitive}
use Rattle.lan_model.specs.declared.tree.Primitive.TheVariants as kind
use Rattle.lan_model.specs.declared.tree.Layer.{Layer}
use Rattle.lan_model.specs.declared.tree.Layer.TheVariants as layer
use Rattle.lan_model.specs.Plain.{PlainType, primitive, vector, text, bytes as byte_type, list, struct, PlainFields, PlainValue, null, bits, raw, items, group, PlainValues, no_values, one_value}
use Rattle.lan_model.specs.Fits.{FitsBits, FitsRaw, EachFits}
use Rattle.lan_model.specs.Leaves.{PlainLeaf, leaves_from}
use Rattle.lan_levels.specs.declared.slot.State.{State}
use Rattle.lan_levels.specs.declared.slot.State.TheVariants as state
use Rattle.lan_levels.specs.Codes.{layer_code, code_states, states_from, states_of, HasNumber}
use Rattle.lan_levels.specs.PlainSlots.{PlainPiece, nothing, PlainSlot}
use Rattle.lan_levels.specs.SlotsOf.{piece_of, lists_in, at_place, flat, slot, slots_of, row_slots, rows_slots}
use Rattle.lan_levels.proofs.Growth.{lists_in-reverse}
use Rattle.lan_levels.proofs.Leaves.{onward}
use Rattle.lan_levels.specs.declared.shape.ValueForm.{ValueForm}
use Rattle.lan_levels.specs.declared.shape.ValueForm.TheVariants as value
use Rattle.lan_levels.specs.ZipForm.{PlainForm, value_form, kind_of, leaf_form}
use Rattle.lan_levels.specs.ZipWritten.{FitsForm, CanStand}
use Rattle.lan_model.specs.Room.{AllHaveRoom}
use Rattle.lan_zip.proofs.Paths.{EachValue, FitsPath, RowFits, fitting_row}

in_front : (xs ys : List State) (s : State) → HasNumber xs s → HasNumber (xs ++ ys) s
in_front [] ys s (n, e) = absurd (cc)
in_front (x ∷ xs) ys s (zero, e) = (0, e)
in_front (x ∷ xs) ys s (suc n, e) = let h = in_front xs ys s (n, e) in (suc h.0, h.1)

behind : (xs ys : List State) (s : State) → HasNumber ys s → HasNumber (xs ++ ys) s
behind [] ys s h = h
behind (x ∷ xs) ys s h = let k = behind xs ys s h in (suc k.0, k.1)

-- the states of a layer have numbers
abbrev Numbers : List State → Layer → ℕ → Type 0
Numbers states l k = (s : State) → HasNumber (code_states (layer_code l) k) s → HasNumber states s

layer_numbers : (cs : List ℕ) (l : Layer) (ds : List ℕ) (k at : ℕ) → at ≡ k + length cs → Numbers (states_from (cs ++ layer_code l ∷ ds) k) l at
layer_numbers [] l ds k at e s h =
    let same : at ≡ k = omega arith in
    in_front (code_states (layer_code l) k) (states_from ds (k + 1)) s (subst (λ (i : ℕ). HasNumber (code_states (layer_code l) i) s) same h)
layer_numbers (c ∷ cs) l ds k at e s h = behind (code_states c k) (states_from (cs ++ layer_code l ∷ ds) (k + 1)) s (layer_numbers cs l ds (k + 1) at (omega arith) s h)

-- the states of each layer of a path have numbers
abbrev AllNumbers : List State → List Layer → Type 0
AllNumbers states [] = ⊤
AllNumbers states (l ∷ inner) = Numbers states l (length inner) × AllNumbers states inner

path_numbers : (path outer : List Layer) → AllNumbers (states_of (map layer_code (reverse path ++ outer))) path
path_numbers [] outer = tt
path_numbers (l ∷ inner) outer =
    let e : reverse (l ∷ inner) ++ outer ≡ reverse inner ++ (l ∷ outer) = onward l inner outer in
    let count : length inner ≡ 0 + length (map layer_code (reverse inner)) = omega (arith, length-map (reverse inner) layer_code, length-reverse inner) in
    let front = λ (s : State) (h : HasNumber (code_states (layer_code l) (length inner)) s).
    behind (state.Here ∷ []) (states_from (map layer_code (reverse inner) ++ layer_code l ∷ map layer_code outer) 0) s (layer_numbers (map layer_code (reverse inner)) l (map layer_code outer) 0 (length inner) count s h) in
    let all : AllNumbers (states_of (map layer_code (reverse inner ++ (l ∷ outer)))) (l ∷ inner) =
    (subst (λ (cs : List ℕ). Numbers (states_of cs) l (length inner)) (sym (map-append layer_code (reverse inner) (l ∷ outer))) front, path_numbers inner (l ∷ outer)) in
    subst (λ (ls : List Layer). AllNumbers (states_of (map layer_code ls)) (l ∷ inner)) (sym e) all

leaf_numbers : (layers : List Layer) → AllNumbers (states_of (map layer_code layers)) (reverse layers)
leaf_numbers layers =
    subst (λ (ls : List Layer). AllNumbers (states_of (map layer_code ls)) (reverse layers)) (append-nil (reverse (reverse layers)) ∙ reverse-reverse layers) (path_numbers (reverse layers) [])

null_item : (n : Bool) (k : ℕ) → IsTrue n → HasNumber (code_states (layer_code (layer.Item n)) k) (state.Null k)
null_item true k h = (0, refl)
null_item false k h = absurd (cc)

null_struct : (n : Bool) (m k : ℕ) → IsTrue n → HasNumber (code_states (layer_code (layer.Struct n m)) k) (state.Null k)
null_struct true m k h = (0, refl)
null_struct false m k h = absurd (cc)

null_list : (n : Bool) (k : ℕ) → IsTrue n → HasNumber (code_states (layer_code (layer.List n)) k) (state.Null k)
null_list true k h = (0, refl)
null_list false k h = absurd (cc)

empty_list : (n : Bool) (k : ℕ) → HasNumber (code_states (layer_code (layer.List n)) k) (state.Empty k)
empty_list true k = (1, refl)
empty_list false k = (0, refl)

bits_fit : (p : Primitive) (b : ℕ) → FitsForm (value_form (primitive p) (kind_of (primitive p))) state.Here (piece_of (primitive p) (bits b))
bits_fit kind.Bool b = tt
bits_fit kind.Int8 b = refl
bits_fit kind.Uint8 b = refl
bits_fit kind.Int16 b = refl
bits_fit kind.Uint16 b = refl
bits_fit kind.Half b = refl
bits_fit kind.Int32 b = refl
bits_fit kind.Uint32 b = refl
bits_fit kind.Float b = refl
bits_fit kind.Date b = refl
bits_fit kind.Int64 b = refl
bits_fit kind.Uint64 b = refl
bits_fit kind.Double b = refl

bits_here : (ty : PlainType ℕ) (b : ℕ) → FitsBits ty b → FitsForm (value_form ty (kind_of ty)) state.Here (piece_of ty (bits b))
bits_here (primitive p) b h = bits_fit p b
bits_here (vector p n) b h = absurd h
bits_here text b h = absurd h
bits_here byte_type b h = absurd h
bits_here (list f) b h = absurd h
bits_here (struct fs) b h = absurd h

raw_here : (ty : PlainType ℕ) (s : List ℕ) → FitsRaw ty s → length s < 2 ^ 32 → FitsForm (value_form ty (kind_of ty)) state.Here (piece_of ty (raw s))
raw_here (primitive p) s h lt = absurd h
raw_here (vector p n) s h lt = omega arith
raw_here text s h lt = lt
raw_here byte_type s h lt = lt
raw_here (list f) s h lt = absurd h
raw_here (struct fs) s h lt = absurd h

blank_fits : (form : ValueForm) (k : ℕ) → FitsForm form (state.Null k) nothing × FitsForm form (state.Empty k) nothing
blank_fits value.Bool k = (tt, tt)
blank_fits (value.Fixed n) k = (tt, tt)
blank_fits value.Variable k = (tt, tt)

-- what the walk of a value needs of a form
record Serves (f : PlainForm) (ty : PlainType ℕ) (path : List Layer) : Type 0 where
  pub numbers : AllNumbers f.states path
  pub here : HasNumber f.states state.Here
  pub lists : lists_in path ≤ f.lists
  pub value : f.value ≡ value_form ty (kind_of ty)

alone : (f : PlainForm) (s : PlainSlot) → CanStand f s → All (CanStand f) (s ∷ [])
alone f s h = All-cons (CanStand f) s [] h (All-nil (CanStand f))

null_stands : (f : PlainForm) (r k : ℕ) → r ≤ f.lists → HasNumber f.states (state.Null k) → All (CanStand f) (slot r (state.Null k) nothing ∷ [])
null_stands f r k le h = alone f _ (record { rep = le; number = h.0; numbered = h.1; value = (blank_fits f.value k).0 })

empty_stands : (f : PlainForm) (r k : ℕ) → r ≤ f.lists → HasNumber f.states (state.Empty k) → All (CanStand f) (slot r (state.Empty k) nothing ∷ [])
empty_stands f r k le h = alone f _ (record { rep = le; number = h.0; numbered = h.1; value = (blank_fits f.value k).1 })

here_stands : (f : PlainForm) (ty : PlainType ℕ) (path : List Layer) (r : ℕ) (p : PlainPiece) → r ≤ f.lists → Serves f ty path → FitsForm (value_form ty (kind_of ty)) state.Here p → All (CanStand f) (slot r state.Here p ∷ [])
here_stands f ty path r p le w h = alone f _ (record { rep = le; number = w.here.0; numbered = w.here.1; value = subst (λ (form : ValueForm). FitsForm form state.Here p) (sym w.value) h })

flat_stands : (f : PlainForm) (slots : PlainValue → List PlainSlot) (P : PlainValue → Type 0) (vs : PlainValues) → ((v : PlainValue) → P v → All (CanStand f) (slots v)) → EachValue P vs → All (CanStand f) (flat slots vs)
flat_stands f slots P no_values g h = All-nil (CanStand f)
flat_stands f slots P (one_value v vs) g h = All-append (CanStand f) (slots v) (flat slots vs) (g v h.0) (flat_stands f slots P vs g h.1)

path_stands : (ty : PlainType ℕ) (path : List Layer) (f : PlainForm) (r : ℕ) (v : PlainValue) → Serves f ty path → r ≤ f.lists → FitsPath ty path v → All (CanStand f) (slots_of ty path r v)
path_stands ty [] f r v w le h = All-nil (CanStand f)
path_stands ty (layer.Item n ∷ inner) f r null w le h = null_stands f r (length inner) le (w.numbers.0 (state.Null (length inner)) (null_item n (length inner) h))
path_stands ty (layer.Item n ∷ inner) f r (bits b) w le h = here_stands f ty (layer.Item n ∷ inner) r (piece_of ty (bits b)) le w (bits_here ty b h)
path_stands ty (layer.Item n ∷ inner) f r (raw s) w le h = here_stands f ty (layer.Item n ∷ inner) r (piece_of ty (raw s)) le w (raw_here ty s h.0 h.1)
path_stands ty (layer.Item n ∷ inner) f r (items vs) w le h = absurd h
path_stands ty (layer.Item n ∷ inner) f r (group vs) w le h = absurd h
path_stands ty (layer.Struct n m ∷ inner) f r null w le h = null_stands f r (length inner) le (w.numbers.0 (state.Null (length inner)) (null_struct n m (length inner) h))
path_stands ty (layer.Struct n m ∷ inner) f r (bits b) w le h = absurd h
path_stands ty (layer.Struct n m ∷ inner) f r (raw s) w le h = absurd h
path_stands ty (layer.Struct n m ∷ inner) f r (items vs) w le h = absurd h
path_stands ty (layer.Struct n m ∷ inner) f r (group vs) w le h =
    path_stands ty inner f r (at_place m vs) (record { numbers = w.numbers.1; here = w.here; lists = w.lists; value = w.value }) le h
path_stands ty (layer.List n ∷ inner) f r null w le h = null_stands f r (length inner) le (w.numbers.0 (state.Null (length inner)) (null_list n (length inner) h))
path_stands ty (layer.List n ∷ inner) f r (bits b) w le h = absurd h
path_stands ty (layer.List n ∷ inner) f r (raw s) w le h = absurd h
path_stands ty (layer.List n ∷ inner) f r (group vs) w le h = absurd h
path_stands ty (layer.List n ∷ inner) f r (items no_values) w le h = empty_stands f r (length inner) le (w.numbers.0 (state.Empty (length inner)) (empty_list n (length inner)))
path_stands ty (layer.List n ∷ inner) f r (items (one_value v vs)) w le h =
    let lists = w.lists in
    let few : lists_in inner ≤ f.lists = omega arith in
    let later : Serves f ty inner = record { numbers = w.numbers.1; here = w.here; lists = few; value = w.value } in
    All-append (CanStand f) (slots_of ty inner r v) (flat (slots_of ty inner (lists_in inner)) vs) (path_stands ty inner f r v later le h.0)
    (flat_stands f (slots_of ty inner (lists_in inner)) (FitsPath ty inner) vs (λ x p. path_stands ty inner f (lists_in inner) x later few p) h.1)

row_stands : (l : PlainLeaf) (row : PlainValues) → RowFits row l → All (CanStand (leaf_form l)) (row_slots l row)
row_stands l row h =
    let few : lists_in (reverse l.layers) ≤ lists_in l.layers = omega (arith, lists_in-reverse l.layers) in
    path_stands l.ty (reverse l.layers) (leaf_form l) (lists_in (reverse l.layers)) (at_place l.top row) (record { numbers = leaf_numbers l.layers; here = (0, refl); lists = few; value = refl }) few h

pub rows_stand : (fields : PlainFields ℕ) (rows : List PlainValues) → All (EachFits fields) rows → All AllHaveRoom rows → All (λ leaf. All (CanStand (leaf_form leaf)) (rows_slots leaf rows)) (leaves_from fields 0)
rows_stand fields [] h r k d lt = All-nil (CanStand (leaf_form (get_or (leaves_from fields 0) k d)))
rows_stand fields (row ∷ rows) h r k d lt =
    let one : EachFits fields row = h 0 row (omega arith) in
    let room : AllHaveRoom row = r 0 row (omega arith) in
    let leaf = get_or (leaves_from fields 0) k d in
    All-append (CanStand (leaf_form leaf)) (row_slots leaf row) (rows_slots leaf rows) (row_stands leaf row (fitting_row fields row one room k d lt))
    (rows_stand fields rows (λ i e lti. h (suc i) e (omega arith)) (λ i e lti. r (suc i) e (omega arith)) k d lt)
