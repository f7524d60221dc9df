-- The page that the writer makes of slots stands for them, and keeps to the rules for the leaf.
use Rattle.std.proofs.Common.{◌≡◌, ◌⊎◌, ◌==◌, ◌&&◌, ◌||◌, not, ℕ, zero, suc, ◌+◌, ◌*◌, ◌/◌, ◌^◌, ◌<◌, ◌≤◌, Bool, true, false, cond, nat_lt, List, [], ◌∷◌, ◌++◌, length, map, refl, sym, ◌∙◌, ap, subst, arith, inl, inr}
use Rattle.std.specs.Prelude.{All, Option, Some, None, slice_get, slice_index}
use Rattle.std.specs.List.{list_all}
use Rattle.std.specs.Str.{bytes_eq}
use lib.Dec.{ltb}
use Rattle.std.proofs.Math.Nat.{mul-le-mul_left}
use Rattle.std.proofs.lemmas.Bool.{eqb-true, eq-eqb, ne_eqb, lt-ltb}
use Rattle.std.proofs.lemmas.List.Elements.{All-head, All-tail, All-weaker}
use Rattle.std.proofs.lemmas.Slice.Eq.{bytes_eq-Decides}
use Rattle.lan_levels.specs.declared.shape.ValueForm.{ValueForm}
use Rattle.lan_levels.specs.declared.shape.ValueForm.TheVariants as value
use Rattle.lan_levels.specs.declared.slot.State.{State}
use Rattle.lan_levels.specs.declared.slot.State.TheVariants as state
use Rattle.lan_levels.specs.Codes.{layer_code, code_states, states_from, states_of}
use Rattle.lan_levels.specs.ConstantSlots.{own_piece, constant_slot, constant_slots}
use Rattle.lan_levels.specs.PagesWritten.{own_bytes, may_be_all, same_slot, value_of_all, constant_of}
use Rattle.lan_levels.specs.PlainSlots.{PlainPiece, nothing, bit, bytes as raw_bytes, PlainSlot}
use Rattle.lan_levels.specs.SlotsOf.{lists_in}
use Rattle.lan_levels.specs.ZipBuffers.{zip_content, zip_places}
use Rattle.lan_levels.specs.ZipForm.{value_form, kind_of, leaf_form}
use Rattle.lan_levels.specs.ZipSlots.{starts, AreRows}
use Rattle.lan_levels.specs.ZipWritten.{FitsForm, CanStand, is_variable}
use Rattle.lan_levels.proofs.LayerCodes.{written_fit}
use Rattle.lan_model.specs.declared.tree.Layer.{Layer}
use Rattle.lan_model.specs.declared.tree.Layer.TheVariants as layer
use Rattle.lan_model.specs.declared.tree.Primitive.{Primitive}
use Rattle.lan_model.specs.declared.tree.Primitive.TheVariants as p
use Rattle.lan_model.specs.Fits.{width}
use Rattle.lan_model.specs.Leaves.{PlainLeaf}
use Rattle.lan_model.specs.Plain.{PlainType, primitive, vector, text, bytes, list, struct}
use Rattle.lan_meta.specs.declared.page.BuiltPage.{BuiltPage}
use Rattle.lan_meta.specs.ColumnWritten.{page_by, page_written}
use Rattle.lan_meta.specs.PageOf.{IsPage}
use Rattle.lan_meta.specs.PageRules.{FitLayers, TakesNull, slots_of, zip_buffers as zip_count, buffers_of, IsValue, FitsZip, FitsOne, FitValues}
use Rattle.lan_meta.specs.PagesTold.{HasFewBits, StoresFewBits}
use Rattle.lan_meta.specs.Stage.{IsStaged}
use Rattle.lan_zip.proofs.Written.{same_is, starts_each, written_stand}
use Rattle.lan_file.specs.FileText.{page_behind}
use Rattle.lan_file.specs.SlotsWritten.{TakesBytes}

-- ---- values by themselves

fixed_length : (n : ℕ) (v : PlainPiece) → FitsForm (value.Fixed n) state.Here v → length (own_bytes v) ≡ n
fixed_length n nothing h = absurd h
fixed_length n (bit b) h = absurd h
fixed_length n (raw_bytes bs) h = h

bool_length : (v : PlainPiece) → FitsForm value.Bool state.Here v → length (own_bytes v) ≡ 1
bool_length nothing h = absurd h
bool_length (bit b) h = refl
bool_length (raw_bytes bs) h = absurd h

-- a present value's own bytes are a value's
own_value : (ty : PlainType ℕ) (v : PlainPiece) → TakesBytes ty → FitsForm (value_form ty (kind_of ty)) state.Here v → IsValue ty (own_bytes v)
own_value (primitive p.Bool) v t h = bool_length v h
own_value (primitive p.Int8) v t h = fixed_length 1 v h
own_value (primitive p.Uint8) v t h = fixed_length 1 v h
own_value (primitive p.Int16) v t h = fixed_length 2 v h
own_value (primitive p.Uint16) v t h = fixed_length 2 v h
own_value (primitive p.Half) v t h = fixed_length 2 v h
own_value (primitive p.Int32) v t h = fixed_length 4 v h
own_value (primitive p.Uint32) v t h = fixed_length 4 v h
own_value (primitive p.Float) v t h = fixed_length 4 v h
own_value (primitive p.Date) v t h = fixed_length 4 v h
own_value (primitive p.Int64) v t h = fixed_length 8 v h
own_value (primitive p.Uint64) v t h = fixed_length 8 v h
own_value (primitive p.Double) v t h = fixed_length 8 v h
own_value (vector p.Bool n) v t h = absurd (t.0 refl)
own_value (vector p.Int8 n) v t h = omega (arith, fixed_length (n * 8 / 8) v h)
own_value (vector p.Uint8 n) v t h = omega (arith, fixed_length (n * 8 / 8) v h)
own_value (vector p.Int16 n) v t h = omega (arith, fixed_length (n * 16 / 8) v h)
own_value (vector p.Uint16 n) v t h = omega (arith, fixed_length (n * 16 / 8) v h)
own_value (vector p.Half n) v t h = omega (arith, fixed_length (n * 16 / 8) v h)
own_value (vector p.Int32 n) v t h = omega (arith, fixed_length (n * 32 / 8) v h)
own_value (vector p.Uint32 n) v t h = omega (arith, fixed_length (n * 32 / 8) v h)
own_value (vector p.Float n) v t h = omega (arith, fixed_length (n * 32 / 8) v h)
own_value (vector p.Date n) v t h = omega (arith, fixed_length (n * 32 / 8) v h)
own_value (vector p.Int64 n) v t h = omega (arith, fixed_length (n * 64 / 8) v h)
own_value (vector p.Uint64 n) v t h = omega (arith, fixed_length (n * 64 / 8) v h)
own_value (vector p.Double n) v t h = omega (arith, fixed_length (n * 64 / 8) v h)
own_value text v t h = tt
own_value bytes v t h = tt
own_value (list f) v t h = tt
own_value (struct fs) v t h = tt

bytes_back : (n : ℕ) (v : PlainPiece) → FitsForm (value.Fixed n) state.Here v → raw_bytes (own_bytes v) ≡ v
bytes_back n nothing h = absurd h
bytes_back n (bit b) h = absurd h
bytes_back n (raw_bytes bs) h = refl

text_back : (v : PlainPiece) → FitsForm value.Variable state.Here v → raw_bytes (own_bytes v) ≡ v
text_back nothing h = absurd h
text_back (bit b) h = absurd h
text_back (raw_bytes bs) h = refl

bit_back : (v : PlainPiece) → FitsForm value.Bool state.Here v → bit (not (slice_index (own_bytes v) 0 == 0)) ≡ v
bit_back nothing h = absurd h
bit_back (bit true) h = refl
bit_back (bit false) h = refl
bit_back (raw_bytes bs) h = absurd h

-- and stand for it
own_back : (ty : PlainType ℕ) (v : PlainPiece) → FitsForm (value_form ty (kind_of ty)) state.Here v → own_piece ty (own_bytes v) ≡ v
own_back (primitive p.Bool) v h = bit_back v h
own_back (primitive p.Int8) v h = bytes_back 1 v h
own_back (primitive p.Uint8) v h = bytes_back 1 v h
own_back (primitive p.Int16) v h = bytes_back 2 v h
own_back (primitive p.Uint16) v h = bytes_back 2 v h
own_back (primitive p.Half) v h = bytes_back 2 v h
own_back (primitive p.Int32) v h = bytes_back 4 v h
own_back (primitive p.Uint32) v h = bytes_back 4 v h
own_back (primitive p.Float) v h = bytes_back 4 v h
own_back (primitive p.Date) v h = bytes_back 4 v h
own_back (primitive p.Int64) v h = bytes_back 8 v h
own_back (primitive p.Uint64) v h = bytes_back 8 v h
own_back (primitive p.Double) v h = bytes_back 8 v h
own_back (vector q n) v h = bytes_back (n * width q / 8) v h
own_back text v h = text_back v h
own_back bytes v h = text_back v h
own_back (list f) v h = text_back v h
own_back (struct fs) v h = text_back v h

zip_fits : (ty : PlainType ℕ) → FitsZip ty (kind_of ty)
zip_fits (primitive q) = refl
zip_fits (vector q n) = refl
zip_fits text = refl
zip_fits bytes = refl
zip_fits (list f) = refl
zip_fits (struct fs) = refl

-- ---- pages of one value

both : (a b : Bool) → (a && b) ≡ true → (a ≡ true) × (b ≡ true)
both true b e = (refl, e)
both false b e = absurd (cc e)

null_none : (form : ValueForm) (k : ℕ) (v : PlainPiece) → FitsForm form (state.Null k) v → v ≡ nothing
null_none form k nothing h = refl
null_none value.Bool k (bit b) h = absurd h
null_none (value.Fixed n) k (bit b) h = absurd h
null_none value.Variable k (bit b) h = absurd h
null_none value.Bool k (raw_bytes b) h = absurd h
null_none (value.Fixed n) k (raw_bytes b) h = absurd h
null_none value.Variable k (raw_bytes b) h = absurd h

-- a slot in a state that all have, with the bytes of its value
like : (leaf : PlainLeaf) (s : State) (v : PlainPiece) (t : PlainSlot) → may_be_all s v ≡ true → CanStand (leaf_form leaf) t → lists_in leaf.layers ≡ 0 → t.state ≡ s → own_bytes t.value ≡ own_bytes v → t ≡ constant_slot leaf.ty (value_of_all s v)
like leaf state.Here v t may can none same own =
    let rep : t.rep ≡ 0 = omega (arith, can.rep, none) in
    let fits : FitsForm (value_form leaf.ty (kind_of leaf.ty)) state.Here t.value = subst (λ (s : State). FitsForm (value_form leaf.ty (kind_of leaf.ty)) s t.value) same can.value in
    let piece : t.value ≡ own_piece leaf.ty (own_bytes v) = sym (own_back leaf.ty t.value fits) ∙ ap (own_piece leaf.ty) own in
    λ i. record { rep = rep i; state = same i; value = piece i }
like leaf (state.Null zero) v t may can none same own =
    let rep : t.rep ≡ 0 = omega (arith, can.rep, none) in
    let fits : FitsForm (value_form leaf.ty (kind_of leaf.ty)) (state.Null 0) t.value = subst (λ (s : State). FitsForm (value_form leaf.ty (kind_of leaf.ty)) s t.value) same can.value in
    let piece : t.value ≡ nothing = null_none (value_form leaf.ty (kind_of leaf.ty)) 0 t.value fits in
    λ i. record { rep = rep i; state = same i; value = piece i }
like leaf (state.Null (suc k)) v t may can none same own = absurd (cc may)
like leaf (state.Empty k) v t may can none same own = absurd (cc may)

all_like : (leaf : PlainLeaf) (s : PlainSlot) (slots : List PlainSlot) → may_be_all s.state s.value ≡ true → list_all (same_slot s) slots ≡ true → All (CanStand (leaf_form leaf)) slots → lists_in leaf.layers ≡ 0
    → slots ≡ constant_slots leaf.ty (length slots) (value_of_all s.state s.value)
all_like leaf s [] may all can none = refl
all_like leaf s (t ∷ slots) may all can none =
    let f = leaf_form leaf in
    let e = both (same_slot s t) (list_all (same_slot s) slots) all in
    let parts = both _ (bytes_eq (own_bytes s.value) (own_bytes t.value)) e.0 in
    let first : t ≡ constant_slot leaf.ty (value_of_all s.state s.value) =
    like leaf s.state s.value t may (All-head (CanStand f) t slots can) none (sym (same_is s.state t.state parts.0)) (sym ((bytes_eq-Decides (own_bytes s.value) (own_bytes t.value)).0 parts.1)) in
    let rest = all_like leaf s slots may e.1 (All-tail (CanStand f) t slots can) none in
    λ i. first i ∷ rest i

-- what a page of one value says of its first slot
record Alike (leaf : PlainLeaf) (s : PlainSlot) (slots : List PlainSlot) (value : Option (List ℕ)) : Type 0 where
  none : lists_in leaf.layers ≡ 0
  may : may_be_all s.state s.value ≡ true
  all : list_all (same_slot s) slots ≡ true
  is : value_of_all s.state s.value ≡ value

some_of : (b : Bool) (v w : Option (List ℕ)) → cond b (Some v) None ≡ Some w → (b ≡ true) × (v ≡ w)
some_of true v w e = (refl, cc)
some_of false v w e = absurd (cc e)

alike : (leaf : PlainLeaf) (s : PlainSlot) (slots : List PlainSlot) (value : Option (List ℕ)) → constant_of (leaf_form leaf) (s ∷ slots) ≡ Some value → Alike leaf s slots value
unfolding constant_of
alike leaf s slots value e =
    let f = leaf_form leaf in
    let one = some_of _ (value_of_all s.state s.value) value e in
    let two = both ((f.lists == 0) && may_be_all s.state s.value) (list_all (same_slot s) slots) one.0 in
    let three = both (f.lists == 0) (may_be_all s.state s.value) two.0 in
    record { none = eqb-true f.lists 0 three.0; may = three.1; all = two.1; is = one.1 }

-- ---- the codes of a page of nulls

either_get : {X : Type 0} (xs ys : List X) (m : ℕ) (x : X) → slice_get (xs ++ ys) m ≡ Some x → ((k : ℕ) × (slice_get xs k ≡ Some x)) ⊎ ((k : ℕ) × (slice_get ys k ≡ Some x))
either_get {X} [] ys m x e = inr (m, e)
either_get {X} (z ∷ xs) ys zero x e = inl (0, e)
either_get {X} (z ∷ xs) ys (suc m) x e = elim (either_get xs ys m x e) [ inl a ↦ inl (suc a.0, a.1) | inr b ↦ inr b ]

null_is : (j k : ℕ) → Some (state.Null j) ≡ Some (state.Null k) → j ≡ k
null_is j k e = cc

code_level : (a b d : Bool) (k i j : ℕ) → slice_get (cond a [] (cond b (state.Null k ∷ []) (cond d (state.Empty k ∷ []) (state.Null k ∷ state.Empty k ∷ [])))) i ≡ Some (state.Null j) → k ≡ j
code_level true b d k i j e = absurd (cc e)
code_level false true d k zero j e = null_is k j e
code_level false true d k (suc i) j e = absurd (cc e)
code_level false false true k zero j e = absurd (cc e)
code_level false false true k (suc i) j e = absurd (cc e)
code_level false false false k zero j e = null_is k j e
code_level false false false k (suc zero) j e = absurd (cc e)
code_level false false false k (suc (suc i)) j e = absurd (cc e)

state_level : (codes : List ℕ) (k m j : ℕ) → slice_get (states_from codes k) m ≡ Some (state.Null j) → k ≤ j
state_level [] k m j e = absurd (cc e)
state_level (c ∷ codes) k m j e = elim (either_get (code_states c k) (states_from codes (k + 1)) m (state.Null j) e) [
  | inl a ↦ omega (arith, code_level (ltb c 3) (ltb c 5) (ltb c 6) k a.0 j a.1)
  | inr b ↦ omega (arith, state_level codes (k + 1) b.0 j b.1)
]

-- where the leaf's null has a number, its code is 3
first_null : (layers : List Layer) (n : ℕ) → lists_in layers ≡ 0 → slice_get (states_of (map layer_code layers)) n ≡ Some (state.Null 0) → slice_index (map layer_code layers) 0 ≡ 3
first_null layers zero none e = absurd (cc e)
first_null [] (suc n) none e = absurd (cc e)
first_null (layer.Item true ∷ ls) (suc n) none e = refl
first_null (layer.Struct true m ∷ ls) (suc n) none e = refl
first_null (layer.Item false ∷ ls) (suc n) none e = absurd (omega (arith, state_level (map layer_code ls) (0 + 1) n 0 e))
first_null (layer.Struct false m ∷ ls) (suc n) none e = absurd (omega (arith, state_level (map layer_code ls) (0 + 1) n 0 e))
first_null (layer.List nullable ∷ ls) (suc n) none e = absurd (omega (arith, none))

value_fits : (ty : PlainType ℕ) (st : State) (v : PlainPiece) (value : Option (List ℕ)) → TakesBytes ty → FitsForm (value_form ty (kind_of ty)) st v → may_be_all st v ≡ true → value_of_all st v ≡ value → FitsOne ty value
value_fits ty state.Here v value t fits may e = subst (FitsOne ty) e (own_value ty v t fits)
value_fits ty (state.Null zero) v value t fits may e = subst (FitsOne ty) e tt
value_fits ty (state.Null (suc k)) v value t fits may e = absurd (cc may)
value_fits ty (state.Empty k) v value t fits may e = absurd (cc may)

value_null : (codes : List ℕ) (st : State) (v : PlainPiece) (value : Option (List ℕ)) → may_be_all st v ≡ true → value_of_all st v ≡ value → (st ≡ state.Null 0 → slice_index codes 0 ≡ 3) → TakesNull codes value
value_null codes state.Here v value may e first = subst (TakesNull codes) e tt
value_null codes (state.Null zero) v value may e first = subst (TakesNull codes) e (first refl)
value_null codes (state.Null (suc k)) v value may e first = absurd (cc may)
value_null codes (state.Empty k) v value may e first = absurd (cc may)

-- ---- how many buffers a full-zip page has

count_lists : (l : ℕ) (c q : List ℕ) → length (c ∷ cond (not (l == 0) || false) (q ∷ []) []) ≡ cond (nat_lt 0 l) 2 1
count_lists zero c q = refl
count_lists (suc l) c q = ap {B = ℕ} (λ (b : Bool). length (c ∷ cond (not b || false) (q ∷ []) [])) (ne_eqb (suc l) 0 (λ e. omega (arith, e))) ∙ ap {B = ℕ} (λ (b : Bool). cond b 2 1) (sym (lt-ltb 0 (suc l) (omega arith)))

count_places : (b : Bool) (c q : List ℕ) → length (c ∷ cond (not b || true) (q ∷ []) []) ≡ 2
count_places true c q = refl
count_places false c q = refl

count_zip : (ty : PlainType ℕ) (layers : List Layer) (c q : List ℕ) → length (c ∷ cond (not (lists_in layers == 0) || is_variable (value_form ty (kind_of ty))) (q ∷ []) []) ≡ zip_count (kind_of ty) layers
count_zip (primitive p.Bool) layers c q = count_lists (lists_in layers) c q
count_zip (primitive p.Int8) layers c q = count_lists (lists_in layers) c q
count_zip (primitive p.Uint8) layers c q = count_lists (lists_in layers) c q
count_zip (primitive p.Int16) layers c q = count_lists (lists_in layers) c q
count_zip (primitive p.Uint16) layers c q = count_lists (lists_in layers) c q
count_zip (primitive p.Half) layers c q = count_lists (lists_in layers) c q
count_zip (primitive p.Int32) layers c q = count_lists (lists_in layers) c q
count_zip (primitive p.Uint32) layers c q = count_lists (lists_in layers) c q
count_zip (primitive p.Float) layers c q = count_lists (lists_in layers) c q
count_zip (primitive p.Date) layers c q = count_lists (lists_in layers) c q
count_zip (primitive p.Int64) layers c q = count_lists (lists_in layers) c q
count_zip (primitive p.Uint64) layers c q = count_lists (lists_in layers) c q
count_zip (primitive p.Double) layers c q = count_lists (lists_in layers) c q
count_zip (vector k n) layers c q = count_lists (lists_in layers) c q
count_zip text layers c q = count_places (lists_in layers == 0) c q
count_zip bytes layers c q = count_places (lists_in layers == 0) c q
count_zip (list f) layers c q = count_places (lists_in layers == 0) c q
count_zip (struct fs) layers c q = count_places (lists_in layers == 0) c q

width_few : (q : Primitive) → width q ≤ 64
width_few p.Bool = omega arith
width_few p.Int8 = omega arith
width_few p.Uint8 = omega arith
width_few p.Int16 = omega arith
width_few p.Uint16 = omega arith
width_few p.Half = omega arith
width_few p.Int32 = omega arith
width_few p.Uint32 = omega arith
width_few p.Float = omega arith
width_few p.Date = omega arith
width_few p.Int64 = omega arith
width_few p.Uint64 = omega arith
width_few p.Double = omega arith

kind_few : (ty : PlainType ℕ) → TakesBytes ty → HasFewBits (kind_of ty)
kind_few (primitive q) t = omega (arith, width_few q)
kind_few (vector q n) t = omega (arith, mul-le-mul_left n (width_few q), t.1)
kind_few text t = tt
kind_few bytes t = tt
kind_few (list f) t = tt
kind_few (struct fs) t = tt

-- ---- the page

-- slots of whole rows, at least one
pub record Rows (leaf : PlainLeaf) (slots : List PlainSlot) : Type 0 where
  pub first : PlainSlot
  pub rest : List PlainSlot
  pub is : slots ≡ first ∷ rest
  pub begins : first.rep ≡ lists_in leaf.layers
  pub can : All (CanStand (leaf_form leaf)) slots
  pub few : length slots < 2 ^ 64

abbrev pub FirstIsSmall : List (List ℕ) → Type 0
FirstIsSmall [] = Unit {0}
FirstIsSmall (b ∷ buffers) = length b < 2 ^ 64

-- a page that is built stands for slots, and keeps to the rules but for where its buffers lie
pub record Stood (leaf : PlainLeaf) (page : BuiltPage) (slots : List PlainSlot) : Type 0 where
  pub is : IsPage leaf (page_behind [] page) page.buffers slots
  pub staged : IsStaged page.layout
  pub layers : FitLayers page.layout leaf.layers
  pub some : 0 < page.rows
  pub count : page.rows ≤ slots_of page.layout
  pub alone : lists_in leaf.layers ≡ 0 → slots_of page.layout ≡ page.rows
  pub buffers : length page.buffers ≡ buffers_of page.layout leaf.layers
  pub values : FitValues page.layout leaf.ty
  pub few : slots_of page.layout < 2 ^ 64
  pub bits : StoresFewBits page.layout
  pub rows_are : page.rows ≡ starts (lists_in leaf.layers) slots

are_rows : (lists : ℕ) (first : PlainSlot) (rest : List PlainSlot) → All (λ (s : PlainSlot). s.rep ≤ lists) (first ∷ rest) → first.rep ≡ lists → AreRows lists (starts lists (first ∷ rest)) (first ∷ rest)
are_rows zero first rest reps begins = sym (starts_each (first ∷ rest) reps)
are_rows (suc l) first rest reps begins = (refl, begins)

starts_alone : (lists : ℕ) (slots : List PlainSlot) → All (λ (s : PlainSlot). s.rep ≤ lists) slots → lists ≡ 0 → starts lists slots ≡ length slots
starts_alone zero slots reps none = starts_each slots reps
starts_alone (suc l) slots reps none = absurd (omega (arith, none))

starts_le : (lists : ℕ) (slots : List PlainSlot) → starts lists slots ≤ length slots
starts_le lists [] = omega arith
starts_le lists (s ∷ slots) = omega (arith, one_at_most (s.rep == lists), starts_le lists slots) where
  one_at_most : (b : Bool) → cond b 1 0 ≤ 1
  one_at_most true = omega arith
  one_at_most false = omega arith

starts_some : (lists : ℕ) (first : PlainSlot) (rest : List PlainSlot) → first.rep ≡ lists → 0 < starts lists (first ∷ rest)
starts_some lists first rest begins = omega (arith, ap {B = ℕ} (λ (b : Bool). cond b 1 0) (eq-eqb first.rep lists begins))

by_stood : (leaf : PlainLeaf) (first : PlainSlot) (rest : List PlainSlot) (o : Option (Option (List ℕ))) → length leaf.layers ≤ 16 → TakesBytes leaf.ty → Rows leaf (first ∷ rest) → first.rep ≡ lists_in leaf.layers → constant_of (leaf_form leaf) (first ∷ rest) ≡ o
    → FirstIsSmall (page_by leaf (first ∷ rest) o).buffers → Stood leaf (page_by leaf (first ∷ rest) o) (first ∷ rest)
by_stood leaf first rest (Some value) few takes r begins e small =
    let slots : List PlainSlot = first ∷ rest in
    let lists = lists_in leaf.layers in
    let f = leaf_form leaf in
    let reps = All-weaker (CanStand f) (λ (s : PlainSlot). s.rep ≤ lists) (λ s c. c.rep) slots r.can in
    let a = alike leaf first rest value e in
    let one = All-head (CanStand f) first rest r.can in
    let itself : first ≡ constant_slot leaf.ty (value_of_all first.state first.value) = like leaf first.state first.value first a.may one a.none refl refl in
    let others = all_like leaf first rest a.may a.all (All-tail (CanStand f) first rest r.can) a.none in
    let whole : slots ≡ constant_slots leaf.ty (length slots) value =
    (λ i. itself i ∷ others i) ∙ ap (λ (v : Option (List ℕ)). constant_slots leaf.ty (length slots) v) a.is in
    let rows = are_rows lists first rest reps begins in
    record {
      is = record { laid = (refl, whole); count = refl; rows_are = rows };
      staged = tt;
      layers = (
        written_fit leaf.layers,
        a.none,
        value_null (map layer_code leaf.layers) first.state first.value value a.may a.is (λ null. first_null leaf.layers one.number a.none (one.numbered ∙ ap Some null)),
      );
      some = starts_some lists first rest begins;
      count = starts_le lists slots;
      alone = λ none. sym (starts_alone lists slots reps none);
      buffers = refl;
      values = value_fits leaf.ty first.state first.value value takes one.value a.may a.is;
      few = r.few;
      bits = tt;
      rows_are = refl;
    }
by_stood leaf first rest None few takes r begins e small =
    let slots : List PlainSlot = first ∷ rest in
    let lists = lists_in leaf.layers in
    let f = leaf_form leaf in
    let reps = All-weaker (CanStand f) (λ (s : PlainSlot). s.rep ≤ lists) (λ s c. c.rep) slots r.can in
    let rows = are_rows lists first rest reps begins in
    record {
      is = record { laid = written_stand leaf (starts lists slots) slots few r.can rows small; count = refl; rows_are = rows };
      staged = tt;
      layers = written_fit leaf.layers;
      some = starts_some lists first rest begins;
      count = starts_le lists slots;
      alone = λ none. sym (starts_alone lists slots reps none);
      buffers = count_zip leaf.ty leaf.layers (zip_content f slots) (zip_places f slots);
      values = zip_fits leaf.ty;
      few = r.few;
      bits = kind_few leaf.ty takes;
      rows_are = refl;
    }

pub one_stood : (leaf : PlainLeaf) (slots : List PlainSlot) → length leaf.layers ≤ 16 → TakesBytes leaf.ty → Rows leaf slots → FirstIsSmall (page_written leaf slots).buffers → Stood leaf (page_written leaf slots) slots
one_stood leaf slots few takes r =
    let whole : Rows leaf (r.first ∷ r.rest) = subst (Rows leaf) r.is r in
    let P : List PlainSlot → Type 0 = λ l. FirstIsSmall (page_written leaf l).buffers → Stood leaf (page_written leaf l) l in
    subst P (sym r.is) (λ small. by_stood leaf r.first r.rest (constant_of (leaf_form leaf) (r.first ∷ r.rest)) few takes whole r.begins refl small)
