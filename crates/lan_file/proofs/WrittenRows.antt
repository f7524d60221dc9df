-- A file that is written of rows by the writer's rule is a file of the slots of these rows.
use Rattle.std.proofs.Common.{◌≡◌, ◌==◌, ℕ, zero, suc, ◌+◌, ◌^◌, ◌<◌, ◌≤◌, Bool, cond, List, [], ◌∷◌, ◌++◌, false, length, map, reverse, refl, sym, ◌∙◌, ap, subst, arith}
use Rattle.std.specs.Prelude.{All, option_map, get_or}
use Rattle.std.proofs.lemmas.Bool.{eq-eqb, ne_eqb}
use Rattle.std.proofs.lemmas.Grind.{reverse_onto}
use Rattle.std.proofs.lemmas.List.{length-map, get_or_default}
use Rattle.std.proofs.lemmas.List.Elements.{All-nil, All-cons, All-append, All-map, All-weaker, All-tail, All-head}
use Rattle.std.proofs.lemmas.Option.{slice_get-map}
use Rattle.lan_levels.specs.PlainSlots.{PlainSlot}
use Rattle.lan_levels.specs.SlotsOf.{lists_in, flat, slots_of, at_place, row_slots, rows_slots}
use Rattle.lan_levels.specs.ZipForm.{leaf_form}
use Rattle.lan_levels.specs.ZipSlots.{starts, FirstBegins, AreRows}
use Rattle.lan_levels.specs.ZipWritten.{CanStand}
use Rattle.lan_levels.proofs.Growth.{lists_in-reverse}
use Rattle.lan_model.specs.declared.tree.Layer.{Layer}
use Rattle.lan_model.specs.declared.tree.Layer.TheVariants as layer
use Rattle.lan_model.specs.Fits.{EachFits}
use Rattle.lan_model.specs.Leaves.{PlainLeaf, leaves_of, leaves_of_members, leaves_from}
use Rattle.lan_model.specs.Plain.{PlainType, primitive, vector, text, bytes, list, struct, PlainField, field, PlainFields, no_fields, one_field, PlainValue, null, bits, raw, items, group, PlainValues, no_values, one_value}
use Rattle.lan_model.specs.Room.{AllHaveRoom}
use Rattle.lan_zip.proofs.Paths.{EachValue, FitsPath, RowFits, fitting_row}
use Rattle.lan_zip.proofs.Standing.{rows_stand}
use Rattle.lan_zip.proofs.Written.{starts_each}
use Rattle.lan_file.specs.FileOf.{IsFileOf}
use Rattle.lan_file.specs.FileText.{file_text}
use Rattle.lan_file.specs.Heads.{Pick}
use Rattle.lan_file.specs.SlotsWritten.{IsGiven, AreGiven, TakesRows, given_of, rows_columns, AreLeaves, slots_asked}
use Rattle.lan_file.proofs.WrittenColumn.{starts-append}
use Rattle.lan_file.proofs.WrittenFile.{slots_are_a_file}

-- ---- the layers of a leaf begin with its item

abbrev BeginsWithItem : List Layer → Type 0
BeginsWithItem (layer.Item n ∷ layers) = Unit {0}
BeginsWithItem layers = ⊥

abbrev EndsInItem : List Layer → Type 0
EndsInItem [] = ⊥
EndsInItem (layer.Item n ∷ path) = Unit {0}
EndsInItem (layer.Struct n m ∷ path) = EndsInItem path
EndsInItem (layer.List n ∷ path) = EndsInItem path

abbrev Begins : PlainLeaf → Type 0
Begins leaf = BeginsWithItem leaf.layers

mutual
  field_begins : (f : PlainField ℕ) (top : ℕ) (outer : List Layer) → All Begins (leaves_of f top outer)
  field_begins (field id name n (primitive q)) top outer = All-cons Begins _ [] tt (All-nil Begins)
  field_begins (field id name n (vector q k)) top outer = All-cons Begins _ [] tt (All-nil Begins)
  field_begins (field id name n text) top outer = All-cons Begins _ [] tt (All-nil Begins)
  field_begins (field id name n bytes) top outer = All-cons Begins _ [] tt (All-nil Begins)
  field_begins (field id name n (list item)) top outer = field_begins item top (layer.List n ∷ outer)
  field_begins (field id name n (struct members)) top outer = members_begin members n 0 top outer

  members_begin : (fs : PlainFields ℕ) (n : Bool) (m top : ℕ) (outer : List Layer) → All Begins (leaves_of_members fs n m top outer)
  members_begin no_fields n m top outer = All-nil Begins
  members_begin (one_field f fs) n m top outer =
      All-append Begins (leaves_of f top (layer.Struct n m ∷ outer)) (leaves_of_members fs n (m + 1) top outer) (field_begins f top (layer.Struct n m ∷ outer)) (members_begin fs n (m + 1) top outer)

fields_begin : (fs : PlainFields ℕ) (top : ℕ) → All Begins (leaves_from fs top)
fields_begin no_fields top = All-nil Begins
fields_begin (one_field f fs) top = All-append Begins (leaves_of f top []) (leaves_from fs (top + 1)) (field_begins f top []) (fields_begin fs (top + 1))

item_ends : (outer : List Layer) (n : Bool) → EndsInItem (outer ++ layer.Item n ∷ [])
item_ends [] n = tt
item_ends (layer.Item k ∷ outer) n = tt
item_ends (layer.Struct k m ∷ outer) n = item_ends outer n
item_ends (layer.List k ∷ outer) n = item_ends outer n

ends_of : (layers : List Layer) → BeginsWithItem layers → EndsInItem (reverse layers)
ends_of [] b = absurd b
ends_of (layer.Item n ∷ outer) b = subst EndsInItem (sym (reverse_onto outer (layer.Item n) [])) (item_ends (reverse outer) n)
ends_of (layer.Struct n m ∷ outer) b = absurd b
ends_of (layer.List n ∷ outer) b = absurd b

-- ---- the first slot of a value begins where the value does, and the others further in

abbrev Below : ℕ → PlainSlot → Type 0
Below lists s = s.rep < lists

record First (lists r : ℕ) (slots : List PlainSlot) : Type 0 where
  head : PlainSlot
  rest : List PlainSlot
  is : slots ≡ head ∷ rest
  rep : head.rep ≡ r
  low : All (Below lists) rest

only : (lists : ℕ) (s : PlainSlot) → First lists s.rep (s ∷ [])
only lists s = record { head = s; rest = []; is = refl; rep = refl; low = All-nil (Below lists) }

first_low : (lists : ℕ) (slots : List PlainSlot) → First lists lists slots → All (Below (lists + 1)) slots
first_low lists slots f =
    subst (All (Below (lists + 1))) (sym f.is) (All-cons (Below (lists + 1)) f.head f.rest (omega (arith, f.rep)) (All-weaker (Below lists) (Below (lists + 1)) (λ s b. omega (arith, b)) f.rest f.low))

flat_low : (ty : PlainType ℕ) (inner : List Layer) (vs : PlainValues) → ((v : PlainValue) → FitsPath ty inner v → First (lists_in inner) (lists_in inner) (slots_of ty inner (lists_in inner) v)) → EachValue (FitsPath ty inner) vs
    → All (Below (lists_in inner + 1)) (flat (slots_of ty inner (lists_in inner)) vs)
flat_low ty inner no_values each h = All-nil (Below (lists_in inner + 1))
flat_low ty inner (one_value v vs) each h =
    All-append (Below (lists_in inner + 1)) (slots_of ty inner (lists_in inner) v) (flat (slots_of ty inner (lists_in inner)) vs) (first_low (lists_in inner) (slots_of ty inner (lists_in inner) v) (each v h.0)) (flat_low ty inner vs each h.1)

path_first : (ty : PlainType ℕ) (path : List Layer) (r : ℕ) (v : PlainValue) → EndsInItem path → FitsPath ty path v → First (lists_in path) r (slots_of ty path r v)
path_first ty [] r v ends h = absurd ends
path_first ty (layer.Item n ∷ inner) r null ends h = only (lists_in inner) _
path_first ty (layer.Item n ∷ inner) r (bits b) ends h = only (lists_in inner) _
path_first ty (layer.Item n ∷ inner) r (raw s) ends h = only (lists_in inner) _
path_first ty (layer.Item n ∷ inner) r (items vs) ends h = absurd h
path_first ty (layer.Item n ∷ inner) r (group vs) ends h = absurd h
path_first ty (layer.Struct n m ∷ inner) r null ends h = only (lists_in inner) _
path_first ty (layer.Struct n m ∷ inner) r (bits b) ends h = absurd h
path_first ty (layer.Struct n m ∷ inner) r (raw s) ends h = absurd h
path_first ty (layer.Struct n m ∷ inner) r (items vs) ends h = absurd h
path_first ty (layer.Struct n m ∷ inner) r (group vs) ends h = path_first ty inner r (at_place m vs) ends h
path_first ty (layer.List n ∷ inner) r null ends h = only (lists_in inner + 1) _
path_first ty (layer.List n ∷ inner) r (bits b) ends h = absurd h
path_first ty (layer.List n ∷ inner) r (raw s) ends h = absurd h
path_first ty (layer.List n ∷ inner) r (group vs) ends h = absurd h
path_first ty (layer.List n ∷ inner) r (items no_values) ends h = only (lists_in inner + 1) _
path_first ty (layer.List n ∷ inner) r (items (one_value v vs)) ends h =
    let first = path_first ty inner r v ends h.0 in
    let later = flat (slots_of ty inner (lists_in inner)) vs in
    let deeper = All-weaker (Below (lists_in inner)) (Below (lists_in inner + 1)) (λ s b. omega (arith, b)) first.rest first.low in
    record {
      head = first.head;
      rest = first.rest ++ later;
      is = ap (λ (l : List PlainSlot). l ++ later) first.is;
      rep = first.rep;
      low = All-append (Below (lists_in inner + 1)) first.rest later deeper (flat_low ty inner vs (λ x f. path_first ty inner (lists_in inner) x ends f) h.1);
    }

-- ---- rows

starts_low : (lists : ℕ) (slots : List PlainSlot) → All (Below lists) slots → starts lists slots ≡ 0
starts_low lists [] low = refl
starts_low lists (s ∷ slots) low =
    let other : (s.rep == lists) ≡ false = ne_eqb s.rep lists (λ e. omega (arith, e, All-head (Below lists) s slots low)) in
    omega (arith, ap {B = ℕ} (λ (b : Bool). cond b 1 0) other, starts_low lists slots (All-tail (Below lists) s slots low))

starts_first : (lists : ℕ) (slots : List PlainSlot) → First lists lists slots → starts lists slots ≡ 1
starts_first lists slots f =
    ap (starts lists) f.is ∙ omega (arith, ap {B = ℕ} (λ (b : Bool). cond b 1 0) (eq-eqb f.head.rep lists f.rep), starts_low lists f.rest f.low)

row_first : (leaf : PlainLeaf) (row : PlainValues) → Begins leaf → RowFits row leaf → First (lists_in leaf.layers) (lists_in leaf.layers) (row_slots leaf row)
row_first leaf row b h =
    let P : ℕ → Type 0 = λ n. First n n (row_slots leaf row) in
    subst P (lists_in-reverse leaf.layers) (path_first leaf.ty (reverse leaf.layers) (lists_in (reverse leaf.layers)) (at_place leaf.top row) (ends_of leaf.layers b) h)

rows_begun : (leaf : PlainLeaf) (rows : List PlainValues) → Begins leaf → All (λ (row : PlainValues). RowFits row leaf) rows → starts (lists_in leaf.layers) (rows_slots leaf rows) ≡ length rows
rows_begun leaf [] b h = refl
rows_begun leaf (row ∷ rows) b h =
    let P : PlainValues → Type 0 = λ r. RowFits r leaf in
    omega (arith, starts-append (lists_in leaf.layers) (row_slots leaf row) (rows_slots leaf rows), starts_first (lists_in leaf.layers) (row_slots leaf row) (row_first leaf row b (All-head P row rows h)), rows_begun leaf rows b (All-tail P row rows h))

begins_first : (lists : ℕ) (slots more : List PlainSlot) → First lists lists slots → FirstBegins lists (slots ++ more)
begins_first lists slots more f = subst (FirstBegins lists) (sym (ap (λ (l : List PlainSlot). l ++ more) f.is)) f.rep

rows_first : (leaf : PlainLeaf) (rows : List PlainValues) → Begins leaf → All (λ (row : PlainValues). RowFits row leaf) rows → FirstBegins (lists_in leaf.layers) (rows_slots leaf rows)
rows_first leaf [] b h = tt
rows_first leaf (row ∷ rows) b h = begins_first (lists_in leaf.layers) (row_slots leaf row) (rows_slots leaf rows) (row_first leaf row b (All-head (λ (r : PlainValues). RowFits r leaf) row rows h))

are_rows : (lists n : ℕ) (slots : List PlainSlot) → All (λ (s : PlainSlot). s.rep ≤ lists) slots → starts lists slots ≡ n → FirstBegins lists slots → AreRows lists n slots
are_rows zero n slots reps begun first = sym (starts_each slots reps) ∙ begun
are_rows (suc l) n slots reps begun first = (begun, first)

-- each row fits in each leaf
all_fit : (fields : PlainFields ℕ) (rows : List PlainValues) → All (EachFits fields) rows → All AllHaveRoom rows → (leaf : PlainLeaf) (k : ℕ) → k < length (leaves_from fields 0) → leaf ≡ get_or (leaves_from fields 0) k leaf → All (λ (row : PlainValues). RowFits row leaf) rows
all_fit fields [] h r leaf k below is = All-nil (λ (row : PlainValues). RowFits row leaf)
all_fit fields (row ∷ rows) h r leaf k below is =
    let one = fitting_row fields row (All-head (EachFits fields) row rows h) (All-head AllHaveRoom row rows r) k leaf below in
    All-cons (λ (x : PlainValues). RowFits x leaf) row rows (subst (RowFits row) (sym is) one) (all_fit fields rows (All-tail (EachFits fields) row rows h) (All-tail AllHaveRoom row rows r) leaf k below is)

leaf_given : (fields : PlainFields ℕ) (rows : List PlainValues) → All (EachFits fields) rows → All AllHaveRoom rows → (leaf : PlainLeaf) (k : ℕ) → k < length (leaves_from fields 0) → leaf ≡ get_or (leaves_from fields 0) k leaf → TakesRows rows leaf → IsGiven (length rows) (given_of rows leaf)
leaf_given fields rows h r leaf k below is holds =
    let lists = lists_in leaf.layers in
    let begins : Begins leaf = subst Begins (sym is) (fields_begin fields 0 k leaf below) in
    let can : All (CanStand (leaf_form leaf)) (rows_slots leaf rows) = subst (λ (l : PlainLeaf). All (CanStand (leaf_form l)) (rows_slots l rows)) (sym is) (rows_stand fields rows h r k leaf below) in
    let reps = All-weaker (CanStand (leaf_form leaf)) (λ (s : PlainSlot). s.rep ≤ lists) (λ s c. c.rep) (rows_slots leaf rows) can in
    let fit = all_fit fields rows h r leaf k below is in
    record {
      layers = holds.layers;
      bytes = holds.bytes;
      can = can;
      rows_are = are_rows lists (length rows) (rows_slots leaf rows) reps (rows_begun leaf rows begins fit) (rows_first leaf rows begins fit);
      few = holds.few;
    }

all_given : (fields : PlainFields ℕ) (rows : List PlainValues) → All (EachFits fields) rows → All AllHaveRoom rows → All (TakesRows rows) (leaves_from fields 0) → All (IsGiven (length rows)) (map (given_of rows) (leaves_from fields 0))
all_given fields rows h r hold =
    All-map (IsGiven (length rows)) (given_of rows) (leaves_from fields 0) (λ k d below.
    let leaf = get_or (leaves_from fields 0) k d in
    let same : leaf ≡ get_or (leaves_from fields 0) k leaf = get_or_default (leaves_from fields 0) k d leaf below in
    leaf_given fields rows h r leaf k below same (hold k d below))

picks_given : (rows : List PlainValues) (leaves : List PlainLeaf) (picks : List Pick) → AreLeaves leaves picks → AreGiven (map (given_of rows) leaves) picks (slots_asked rows picks)
picks_given rows leaves [] a = refl
picks_given rows leaves (pick ∷ picks) a = (
  given_of rows pick.leaf,
  slots_asked rows picks,
  refl,
  slice_get-map (given_of rows) leaves pick.column ∙ ap (option_map (given_of rows)) a.0,
  refl,
  picks_given rows leaves picks a.1,
)

pub rows_are_a_file : (fields : PlainFields ℕ) (rows : List PlainValues) (picks : List Pick) → All (EachFits fields) rows → All AllHaveRoom rows → All (TakesRows rows) (leaves_from fields 0) → length rows < 2 ^ 64 → length (leaves_from fields 0) < 2 ^ 32
    → length (file_text fields (length rows) (rows_columns fields rows)) ≤ 2 ^ 63 → AreLeaves (leaves_from fields 0) picks → IsFileOf picks (file_text fields (length rows) (rows_columns fields rows)) (length rows) (slots_asked rows picks)
rows_are_a_file fields rows picks h r hold few few_leaves small a =
    let leaves = leaves_from fields 0 in
    slots_are_a_file fields (length rows) (map (given_of rows) leaves) picks (slots_asked rows picks) few (omega (arith, length-map leaves (given_of rows), few_leaves)) (all_given fields rows h r hold) small (picks_given rows leaves picks a)
