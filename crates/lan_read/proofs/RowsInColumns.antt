-- The slots of a row among those of a column.
use Rattle.std.proofs.Common.{◌≡◌, inl, inr, sym, ◌∙◌, ap, ap₂, refl, ℕ, zero, suc, ◌+◌, ◌-◌, ◌<◌, List, [], ◌∷◌, ◌++◌, length, get_or, take, drop, reverse, arith, subst, append_assoc, length-append}
use Rattle.std.specs.Prelude.{All}
use Rattle.std.proofs.lemmas.Bool.Decides.{eqb_tells}
use Rattle.std.proofs.lemmas.List.{append-nil, get_or-map, length-map}
use Rattle.std.proofs.lemmas.List.Elements.{All-head, All-tail}
use Rattle.std.proofs.Math.Seq.{drop-append_seam, take-append_seam}
use Rattle.lan_model.specs.Leaves.{leaves_of}
use Rattle.lan_model.specs.Plain.{PlainField, PlainValue, values_from}
use Rattle.lan_model.specs.Fits.{AllFit}
use Rattle.lan_levels.specs.PlainSlots.{PlainSlot}
use Rattle.lan_levels.specs.SlotsOf.{leaf_slots, lists_in}
use Rattle.lan_levels.specs.ZipRows.{slots_before, slots_of_rows}
use Rattle.lan_levels.proofs.Growth.{lists_in-reverse}
use Rattle.lan_levels.proofs.Heads.{AllLow}
use Rattle.lan_read.specs.Rows.{column_slots}
use Rattle.lan_read.proofs.CutColumns.{IsRow, fit_each, joined_is, one_after_another, row_slots_of, value_row}

-- slots that begin no row are passed over
past_low : (lists n : ℕ) (xs ys : List PlainSlot) → AllLow lists xs → slots_before lists n (xs ++ ys) ≡ xs ++ slots_before lists n ys
past_low lists n [] ys low = refl
past_low lists zero (x ∷ xs) ys low = elim (eqb_tells x.rep lists) [
  | inl (test, same) ↦
      let below : x.rep < lists = low.0 in
      absurd (omega arith)
  | inr (test, other) ↦ rw test (ap (λ (l : List PlainSlot). x ∷ l) (past_low lists zero xs ys low.1))
]
past_low lists (suc n) (x ∷ xs) ys low = elim (eqb_tells x.rep lists) [
  | inl (test, same) ↦
      let below : x.rep < lists = low.0 in
      absurd (omega arith)
  | inr (test, other) ↦ rw test (ap (λ (l : List PlainSlot). x ∷ l) (past_low lists (suc n) xs ys low.1))
]

none_before : (lists : ℕ) (x : PlainSlot) (xs : List PlainSlot) → x.rep ≡ lists → slots_before lists zero (x ∷ xs) ≡ []
none_before lists x xs begins = elim (eqb_tells x.rep lists) [
  | inl (test, same) ↦ rw test refl
  | inr (test, other) ↦ absurd (other begins)
]

one_before : (lists n : ℕ) (x : PlainSlot) (xs ys : List PlainSlot) → x.rep ≡ lists → AllLow lists xs → slots_before lists (suc n) (x ∷ (xs ++ ys)) ≡ (x ∷ xs) ++ slots_before lists n ys
one_before lists n x xs ys begins low = elim (eqb_tells x.rep lists) [
  | inl (test, same) ↦ rw test (ap (λ (l : List PlainSlot). x ∷ l) (past_low lists n xs ys low))
  | inr (test, other) ↦ absurd (other begins)
]

row_before : (lists n : ℕ) (row more : List PlainSlot) → IsRow lists row → slots_before lists (suc n) (row ++ more) ≡ row ++ slots_before lists n more
row_before lists n row more is =
    ap (λ (l : List PlainSlot). slots_before lists (suc n) (l ++ more)) is.is
    ∙ one_before lists n is.head is.rest more is.rep is.low
    ∙ ap (λ (l : List PlainSlot). l ++ slots_before lists n more) (sym is.is)

-- before a row lie the rows before it
before_rows : (lists n : ℕ) (rows : List (List PlainSlot)) → All (IsRow lists) rows → slots_before lists n (one_after_another rows) ≡ one_after_another (take n rows)
before_rows lists zero [] each = refl
before_rows lists (suc n) [] each = refl
before_rows lists zero (row ∷ rows) each =
    let is = All-head (IsRow lists) row rows each in
    ap (λ (l : List PlainSlot). slots_before lists zero (l ++ one_after_another rows)) is.is ∙ none_before lists is.head (is.rest ++ one_after_another rows) is.rep
before_rows lists (suc n) (row ∷ rows) each =
    row_before lists n row (one_after_another rows) (All-head (IsRow lists) row rows each)
    ∙ ap (λ (l : List PlainSlot). row ++ l) (before_rows lists n rows (All-tail (IsRow lists) row rows each))

-- rows are those before one, the one, and those behind it
parted : (n : ℕ) (rows : List (List PlainSlot)) → n < length rows → one_after_another rows ≡ one_after_another (take n rows) ++ (get_or rows n [] ++ one_after_another (drop (suc n) rows))
parted n [] below = absurd (omega (arith, below))
parted zero (row ∷ rows) below = refl
parted (suc n) (row ∷ rows) below =
    ap (λ (l : List PlainSlot). row ++ l) (parted n rows (omega (arith, below)))
    ∙ sym (append_assoc row (one_after_another (take n rows)) (get_or rows n [] ++ one_after_another (drop (suc n) rows)))

with_next : (n : ℕ) (rows : List (List PlainSlot)) → n < length rows → one_after_another (take (n + 1) rows) ≡ one_after_another (take n rows) ++ get_or rows n []
with_next n [] below = absurd (omega (arith, below))
with_next zero (row ∷ rows) below = append-nil row
with_next (suc n) (row ∷ rows) below =
    let e : suc n + 1 ≡ suc (n + 1) = omega arith in
    ap (λ (k : ℕ). one_after_another (take k (row ∷ rows))) e
    ∙ ap (λ (l : List PlainSlot). row ++ l) (with_next n rows (omega (arith, below)))
    ∙ sym (append_assoc row (one_after_another (take n rows)) (get_or rows n []))

middle : (front here behind : List PlainSlot) → take (length (front ++ here) - length front) (drop (length front) (front ++ (here ++ behind))) ≡ here
middle front here behind =
    let many : length (front ++ here) - length front ≡ length here = omega (arith, length-append front here) in
    ap (λ (l : List PlainSlot). take (length (front ++ here) - length front) l) (drop-append_seam front (here ++ behind))
    ∙ ap (λ (n : ℕ). take n (here ++ behind)) many
    ∙ take-append_seam here behind

row_of_rows : (lists j : ℕ) (rows : List (List PlainSlot)) → All (IsRow lists) rows → j < length rows → slots_of_rows lists j (j + 1) (one_after_another rows) ≡ get_or rows j []
row_of_rows lists j rows each below =
    let front : List PlainSlot = one_after_another (take j rows) in
    let here : List PlainSlot = get_or rows j [] in
    let all : List PlainSlot = one_after_another rows in
    let first : slots_before lists j all ≡ front = before_rows lists j rows each in
    let last : slots_before lists (j + 1) all ≡ front ++ here = before_rows lists (j + 1) rows each ∙ with_next j rows below in
    ap₂ (λ (a b : List PlainSlot). take (length b - length a) (drop (length a) all)) first last
    ∙ ap (λ (l : List PlainSlot). take (length (front ++ here) - length front) (drop (length front) l)) (parted j rows below)
    ∙ middle front here (one_after_another (drop (suc j) rows))

-- the slots of a row of a column of values that fit are those of the value at its place
pub row_of_column : (f : PlainField ℕ) (top j : ℕ) (values : List PlainValue) (d : PlainValue) → AllFit f (values_from values) → j < length values
    → All (λ leaf. slots_of_rows (lists_in leaf.layers) j (j + 1) (column_slots leaf values) ≡ leaf_slots leaf (get_or values j d)) (leaves_of f top [])
row_of_column f top j values d fit below k e within =
    let leaf = get_or (leaves_of f top []) k e in
    let lists : ℕ = lists_in (reverse leaf.layers) in
    let each : All (IsRow lists) (row_slots_of leaf values) = λ i x inside.
    let here : i < length values = omega (arith, inside, length-map values (leaf_slots leaf)) in
    subst (IsRow lists) (sym (get_or-map (leaf_slots leaf) values i d x here)) (value_row f top (get_or values i d) (fit_each f values fit i d here) k e within)
    in
    let inside : j < length (row_slots_of leaf values) = omega (arith, below, length-map values (leaf_slots leaf)) in
    ap (λ (n : ℕ). slots_of_rows n j (j + 1) (column_slots leaf values)) (sym (lists_in-reverse leaf.layers))
    ∙ ap (slots_of_rows lists j (j + 1)) (sym (joined_is leaf values))
    ∙ row_of_rows lists j (row_slots_of leaf values) each inside
    ∙ get_or-map (leaf_slots leaf) values j d [] below
