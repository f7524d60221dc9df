-- The slots of a column are cut into those of its rows.
use Rattle.std.proofs.Common.{◌≡◌, inl, inr, sym, ◌∙◌, ap, refl, ℕ, ◌<◌, List, [], ◌∷◌, ◌++◌, get_or, map, reverse, arith}
use Rattle.std.specs.Prelude.{All}
use Rattle.std.proofs.lemmas.Bool.Decides.{eqb_tells}
use Rattle.std.proofs.lemmas.List.Elements.{All-nil, All-cons, All-head, All-tail}
use Rattle.lan_model.specs.Leaves.{PlainLeaf, leaves_of}
use Rattle.lan_model.specs.Plain.{PlainType, PlainField, PlainValue, values_from}
use Rattle.lan_model.specs.Fits.{Fits, AllFit}
use Rattle.lan_model.specs.declared.tree.Layer.{Layer}
use Rattle.lan_levels.specs.PlainSlots.{PlainSlot}
use Rattle.lan_levels.specs.SlotsOf.{slots_of, leaf_slots, lists_in}
use Rattle.lan_levels.proofs.EachPath.{EachPath-map}
use Rattle.lan_levels.proofs.Heads.{AllLow, HeadedAt, headed, lists_at}
use Rattle.lan_levels.proofs.Loosened.{loosen}
use Rattle.lan_levels.proofs.Leaves.{each_leaf}
use Rattle.lan_read.specs.Rows.{column_slots}
use Rattle.lan_read.specs.Cut.{Cut, cut_at, cut_of, put_before}

abbrev pub one_after_another : List (List PlainSlot) → List PlainSlot
one_after_another [] = []
one_after_another (row ∷ rows) = row ++ one_after_another rows

-- nothing is lost
pub cut_joined : (lists : ℕ) (slots : List PlainSlot) → (cut_of lists slots).front ++ one_after_another (cut_of lists slots).rows ≡ slots
cut_joined lists [] = refl
cut_joined lists (s ∷ ss) = elim (eqb_tells s.rep lists) [
  | inl (test, same) ↦ rw test (ap (λ (l : List PlainSlot). s ∷ l) (cut_joined lists ss))
  | inr (test, other) ↦ rw test (ap (λ (l : List PlainSlot). s ∷ l) (cut_joined lists ss))
]

-- what is cut before slots that begin a row
pub cut_append : (lists : ℕ) (xs ys : List PlainSlot) → (cut_of lists ys).front ≡ [] → cut_of lists (xs ++ ys) ≡ record { front = (cut_of lists xs).front; rows = (cut_of lists xs).rows ++ (cut_of lists ys).rows }
cut_append lists [] ys begins = λ i. record { front = begins i; rows = (cut_of lists ys).rows }
cut_append lists (x ∷ xs) ys begins =
    let behind = cut_append lists xs ys begins in
    ap (put_before lists x) behind ∙ elim (eqb_tells x.rep lists) [
      | inl (test, same) ↦ rw test refl
      | inr (test, other) ↦ rw test refl
    ]

-- slots that begin no row
cut_low : (lists : ℕ) (xs : List PlainSlot) → AllLow lists xs → cut_of lists xs ≡ record { front = xs; rows = [] }
cut_low lists [] low = refl
cut_low lists (x ∷ xs) low = ap (put_before lists x) (cut_low lists xs low.1) ∙ elim (eqb_tells x.rep lists) [
  | inl (test, same) ↦
      let below : x.rep < lists = low.0 in
      absurd (omega arith)
  | inr (test, other) ↦ rw test refl
]

-- one slot begins a row, and those behind it begin none
pub record IsRow (lists : ℕ) (xs : List PlainSlot) : Type 0 where
  pub head : PlainSlot
  pub rest : List PlainSlot
  pub is : xs ≡ head ∷ rest
  pub rep : head.rep ≡ lists
  pub low : AllLow lists rest

cut_row : (lists : ℕ) (xs : List PlainSlot) → IsRow lists xs → cut_of lists xs ≡ record { front = []; rows = xs ∷ [] }
cut_row lists xs row =
    ap (cut_of lists) row.is
    ∙ ap (put_before lists row.head) (cut_low lists row.rest row.low)
    ∙ elim (eqb_tells row.head.rep lists) [
      | inl (test, same) ↦ rw test (ap (λ (l : List PlainSlot). record { front = []; rows = l ∷ [] }) (sym row.is))
      | inr (test, other) ↦ absurd (other row.rep)
    ]

-- the slots of a value that fits are those of one row
pub value_row : (f : PlainField ℕ) (top : ℕ) (v : PlainValue) → Fits f v → All (λ leaf. IsRow (lists_in (reverse leaf.layers)) (leaf_slots leaf v)) (leaves_of f top [])
value_row f top v fits =
    let P : PlainType ℕ → List Layer → Type 0 = λ ty path. IsRow (lists_in path) (slots_of ty path (lists_in path) v) in
    each_leaf f top [] P (EachPath-map f (HeadedAt lists_at v) P (λ ty path h. record { head = h.head; rest = h.rest; is = h.is; rep = h.rep; low = h.low }) (headed v f lists_at (loosen v f fits)))

abbrev pub row_slots_of : PlainLeaf → List PlainValue → List (List PlainSlot)
row_slots_of leaf values = map (leaf_slots leaf) values

pub joined_is : (leaf : PlainLeaf) (values : List PlainValue) → one_after_another (row_slots_of leaf values) ≡ column_slots leaf values
joined_is leaf [] = refl
joined_is leaf (v ∷ values) = ap (λ (l : List PlainSlot). leaf_slots leaf v ++ l) (joined_is leaf values)

-- the slots of values that fit are cut into those of each
pub column_cut : (leaf : PlainLeaf) (values : List PlainValue) → All (λ v. IsRow (lists_in (reverse leaf.layers)) (leaf_slots leaf v)) values
    → cut_at leaf (column_slots leaf values) ≡ record { front = []; rows = row_slots_of leaf values }
column_cut leaf [] each = refl
column_cut leaf (v ∷ values) each =
    let lists : ℕ = lists_in (reverse leaf.layers) in
    let Each : PlainValue → Type 0 = λ v. IsRow lists (leaf_slots leaf v) in
    let behind = column_cut leaf values (All-tail Each v values each) in
    let begins : (cut_at leaf (column_slots leaf values)).front ≡ [] = ap (λ (c : Cut). c.front) behind in
    let here = cut_row lists (leaf_slots leaf v) (All-head Each v values each) in
    cut_append lists (leaf_slots leaf v) (column_slots leaf values) begins
    ∙ (λ i. record { front = (here i).front; rows = (here i).rows ++ (behind i).rows })

-- slots that begin a row, and are cut into those of values, are the values' slots
pub cut_column : (leaf : PlainLeaf) (slots : List PlainSlot) (values : List PlainValue) → (cut_at leaf slots).front ≡ [] → (cut_at leaf slots).rows ≡ row_slots_of leaf values → slots ≡ column_slots leaf values
cut_column leaf slots values begins rows =
    sym (cut_joined (lists_in (reverse leaf.layers)) slots)
    ∙ ap (λ (l : List PlainSlot). l ++ one_after_another (cut_at leaf slots).rows) begins
    ∙ ap one_after_another rows
    ∙ joined_is leaf values

pub fit_each : (f : PlainField ℕ) (values : List PlainValue) → AllFit f (values_from values) → All (Fits f) values
fit_each f [] fit = All-nil (Fits f)
fit_each f (v ∷ values) fit = All-cons (Fits f) v values fit.0 (fit_each f values fit.1)

-- each leaf of a field cuts the slots of values that fit at the same places
pub columns_cut : (f : PlainField ℕ) (top : ℕ) (values : List PlainValue) → AllFit f (values_from values)
    → All (λ leaf. cut_at leaf (column_slots leaf values) ≡ record { front = []; rows = row_slots_of leaf values }) (leaves_of f top [])
columns_cut f top values fit k d below =
    column_cut (get_or (leaves_of f top []) k d) values (λ j e within. value_row f top (get_or values j e) (fit_each f values fit j e within) k d below)
