-- Rows, their columns, and the rows that are left of a list.
use Rattle.std.proofs.Common.{◌≡◌, inl, inr, sym, ◌∙◌, ap, refl, ℕ, zero, suc, ◌+◌, ◌<◌, List, [], ◌∷◌, ◌++◌, length, get_or, map, arith, subst}
use Rattle.std.specs.Prelude.{All, Some, slice_get, nat_eq, remove, ◌⊎◌}
use Rattle.std.proofs.lemmas.Bool.{cases_Bool}
use Rattle.std.specs.List.{list_any}
use Rattle.std.proofs.lemmas.List.{get_or-map, ext_get_or, length-map, get_or_append_left, get_or_push}
use Rattle.std.proofs.lemmas.List.Elements.{All-nil, All-cons, All-head, All-tail}
use Rattle.lan_model.specs.Plain.{PlainField, PlainValue, null, PlainValues, no_values, one_value, values_from, fields_from}
use Rattle.lan_model.specs.Fits.{Fits, AllFit}
use Rattle.lan_model.specs.Table.{FitsRow, IsField, AreFields}
use Rattle.lan_model.specs.After.{without, each_with}
use Rattle.lan_read.specs.Rows.{values_at}

abbrev pub Row : Type 0
Row = List PlainValue

values_back : PlainValues → List PlainValue
values_back no_values = []
values_back (one_value v vs) = v ∷ values_back vs

values_back-is : (vs : List PlainValue) → values_back (values_from vs) ≡ vs
unfolding values_back
values_back-is [] = refl
values_back-is (v ∷ vs) = ap (λ (l : List PlainValue). v ∷ l) (values_back-is vs)

pub values_same : (vs ws : List PlainValue) → values_from vs ≡ values_from ws → vs ≡ ws
values_same vs ws is = sym (values_back-is vs) ∙ ap values_back is ∙ values_back-is ws

-- a row that fits has one value per field
pub row_long : (fields : List (PlainField ℕ)) (row : Row) → FitsRow fields row → length row ≡ length fields
row_long [] [] fits = refl
row_long [] (v ∷ row) fits = absurd fits
row_long (f ∷ fields) [] fits = absurd fits
row_long (f ∷ fields) (v ∷ row) fits = ap suc (row_long fields row fits.1)

pub fits_at : (fields : List (PlainField ℕ)) (row : Row) (top : ℕ) (f : PlainField ℕ) → FitsRow fields row → slice_get fields top ≡ Some f → Fits f (get_or row top null)
fits_at [] row top f fits at = absurd (cc at)
fits_at (g ∷ fields) [] top f fits at = absurd fits
fits_at (g ∷ fields) (v ∷ row) zero f fits at =
    let same : g ≡ f = cc in
    subst (λ (x : PlainField ℕ). Fits x v) same fits.0
fits_at (g ∷ fields) (v ∷ row) (suc top) f fits at = fits_at fields row top f fits.1 at

pub column_fits : (fields : List (PlainField ℕ)) (rows : List Row) (top : ℕ) (f : PlainField ℕ) → All (FitsRow fields) rows → slice_get fields top ≡ Some f → AllFit f (values_from (values_at top rows))
column_fits fields [] top f fit at = tt
column_fits fields (row ∷ rows) top f fit at = (fits_at fields row top f (All-head (FitsRow fields) row rows fit) at, column_fits fields rows top f (All-tail (FitsRow fields) row rows fit) at)

pub field_is : (fields : List (PlainField ℕ)) (top : ℕ) (f : PlainField ℕ) → AreFields (fields_from fields) → slice_get fields top ≡ Some f → IsField f
field_is [] top f are at = absurd (cc at)
field_is (g ∷ fields) zero f are at =
    let same : g ≡ f = cc in
    subst (λ (x : PlainField ℕ). IsField x) same are.0
field_is (g ∷ fields) (suc top) f are at = field_is fields top f are.1 at

pub column_long : (top : ℕ) (rows : List Row) → length (values_at top rows) ≡ length rows
column_long top rows = length-map rows (λ (row : Row). get_or row top null)

pub field_at : (fields : List (PlainField ℕ)) (top : ℕ) → top < length fields → (f : PlainField ℕ) × (slice_get fields top ≡ Some f)
field_at [] top below = absurd (omega (arith, below))
field_at (f ∷ fields) zero below = (f, refl)
field_at (f ∷ fields) (suc top) below = field_at fields top (omega (arith, below))

-- rows of one length are their columns
pub same_rows : (n : ℕ) (xs ys : List Row) → All (λ (row : Row). length row ≡ n) xs → All (λ (row : Row). length row ≡ n) ys → length xs ≡ length ys → ((top : ℕ) → top < n → values_at top xs ≡ values_at top ys) → xs ≡ ys
same_rows n xs ys xs_long ys_long long columns =
    ext_get_or [] xs ys long (λ i below.
    let left : length (get_or xs i []) ≡ n = xs_long i [] below in
    let right : length (get_or ys i []) ≡ n = ys_long i [] (omega (arith, long, below)) in
    ext_get_or null (get_or xs i []) (get_or ys i []) (left ∙ sym right) (λ top within.
    let here : top < n = omega (arith, within, left) in
    sym (get_or-map (λ (row : Row). get_or row top null) xs i [] null below)
    ∙ ap (λ (l : List PlainValue). get_or l i null) (columns top here)
    ∙ get_or-map (λ (row : Row). get_or row top null) ys i [] null (omega (arith, long, below))))

pub nulls_same : (vs ws : List PlainValue) → length vs ≡ length ws → All (λ v. v ≡ null) vs → All (λ v. v ≡ null) ws → vs ≡ ws
nulls_same vs ws long vs_null ws_null = ext_get_or null vs ws long (λ i below. vs_null i null below ∙ sym (ws_null i null (omega (arith, long, below))))

-- the rows that are left of rows with something done to each
pub without-map : {X Y : Type 0} (g : X → Y) (deleted : List ℕ) (at : ℕ) (xs : List X) → without deleted at (map g xs) ≡ map g (without deleted at xs)
without-map g deleted at [] = refl
without-map g deleted at (x ∷ xs) = elim (cases_Bool (list_any (nat_eq at) deleted)) [
  | inl out ↦ rw out (without-map g deleted (at + 1) xs)
  | inr stays ↦ rw stays (ap (λ (l : List _). g x ∷ l) (without-map g deleted (at + 1) xs))
]

pub without-each : (deleted : List ℕ) (at : ℕ) (rows : List Row) (vs : List PlainValue) → length rows ≡ length vs → without deleted at (each_with rows vs) ≡ each_with (without deleted at rows) (without deleted at vs)
without-each deleted at [] vs long = refl
without-each deleted at (row ∷ rows) [] long = absurd (omega (arith, long))
without-each deleted at (row ∷ rows) (v ∷ vs) long = elim (cases_Bool (list_any (nat_eq at) deleted)) [
  | inl out ↦ rw out (without-each deleted (at + 1) rows vs (omega (arith, long)))
  | inr stays ↦ rw stays (ap (λ (l : List Row). (row ++ v ∷ []) ∷ l) (without-each deleted (at + 1) rows vs (omega (arith, long))))
]

pub without-append : {X : Type 0} (deleted : List ℕ) (at : ℕ) (xs ys : List X) → without deleted at (xs ++ ys) ≡ without deleted at xs ++ without deleted (at + length xs) ys
without-append deleted at [] ys = ap (λ (n : ℕ). without deleted n ys) (let e : at ≡ at + 0 = omega arith in e)
without-append deleted at (x ∷ xs) ys =
    let further : without deleted (at + 1 + length xs) ys ≡ without deleted (at + suc (length xs)) ys = ap (λ (n : ℕ). without deleted n ys) (let e : at + 1 + length xs ≡ at + suc (length xs) = omega arith in e) in
    let later = without-append deleted (at + 1) xs ys ∙ ap (λ (l : List _). without deleted (at + 1) xs ++ l) further in
    elim (cases_Bool (list_any (nat_eq at) deleted)) [
      | inl out ↦ rw out later
      | inr stays ↦ rw stays (ap (λ (l : List _). x ∷ l) later)
    ]

pub without-none : {X : Type 0} (at : ℕ) (xs : List X) → without [] at xs ≡ xs
without-none at [] = refl
without-none at (x ∷ xs) = ap (λ (l : List _). x ∷ l) (without-none (at + 1) xs)

-- as many are left of lists of one length
pub without-long : {X Y : Type 0} (deleted : List ℕ) (at : ℕ) (xs : List X) (ys : List Y) → length xs ≡ length ys → length (without deleted at xs) ≡ length (without deleted at ys)
without-long deleted at [] [] long = refl
without-long deleted at [] (y ∷ ys) long = absurd (omega (arith, long))
without-long deleted at (x ∷ xs) [] long = absurd (omega (arith, long))
without-long deleted at (x ∷ xs) (y ∷ ys) long =
    let later = without-long deleted (at + 1) xs ys (omega (arith, long)) in
    elim (cases_Bool (list_any (nat_eq at) deleted)) [
      | inl out ↦ rw out later
      | inr stays ↦ rw stays (ap suc later)
    ]

pub each_with-append : (xs ys : List Row) (vs ws : List PlainValue) → length xs ≡ length vs → each_with (xs ++ ys) (vs ++ ws) ≡ each_with xs vs ++ each_with ys ws
each_with-append [] ys [] ws long = refl
each_with-append [] ys (v ∷ vs) ws long = absurd (omega (arith, long))
each_with-append (x ∷ xs) ys [] ws long = absurd (omega (arith, long))
each_with-append (x ∷ xs) ys (v ∷ vs) ws long = ap (λ (l : List Row). (x ++ v ∷ []) ∷ l) (each_with-append xs ys vs ws (omega (arith, long)))

pub each_with-long : (rows : List Row) (vs : List PlainValue) → length rows ≡ length vs → length (each_with rows vs) ≡ length rows
each_with-long [] vs long = refl
each_with-long (row ∷ rows) [] long = absurd (omega (arith, long))
each_with-long (row ∷ rows) (v ∷ vs) long = ap suc (each_with-long rows vs (omega (arith, long)))

-- one null for each row
abbrev pub nulls_for : List Row → List PlainValue
nulls_for [] = []
nulls_for (row ∷ rows) = null ∷ nulls_for rows

pub nulls_for-long : (rows : List Row) → length rows ≡ length (nulls_for rows)
nulls_for-long [] = refl
nulls_for-long (row ∷ rows) = ap suc (nulls_for-long rows)

pub nulls_for-null : (rows : List Row) → All (λ v. v ≡ null) (nulls_for rows)
nulls_for-null [] = All-nil (λ v. v ≡ null)
nulls_for-null (row ∷ rows) = All-cons (λ v. v ≡ null) null (nulls_for rows) refl (nulls_for-null rows)

pub each_with-nulls : (rows : List Row) → each_with rows (nulls_for rows) ≡ map (λ (row : Row). row ++ null ∷ []) rows
each_with-nulls [] = refl
each_with-nulls (row ∷ rows) = ap (λ (l : List Row). (row ++ null ∷ []) ∷ l) (each_with-nulls rows)

pub nulls_fit : (f : PlainField ℕ) (rows : List Row) → Fits f null → AllFit f (values_from (nulls_for rows))
nulls_fit f [] fits = tt
nulls_fit f (row ∷ rows) fits = (fits, nulls_fit f rows fits)

-- a row with a value more fits with a field more
pub fits_more : (fields : List (PlainField ℕ)) (f : PlainField ℕ) (row : Row) (v : PlainValue) → FitsRow fields row → Fits f v → FitsRow (fields ++ f ∷ []) (row ++ v ∷ [])
fits_more [] f [] v fits here = (here, tt)
fits_more [] f (w ∷ row) v fits here = absurd fits
fits_more (g ∷ fields) f [] v fits here = absurd fits
fits_more (g ∷ fields) f (w ∷ row) v fits here = (fits.0, fits_more fields f row v fits.1 here)

pub rows_fit_more : (fields : List (PlainField ℕ)) (f : PlainField ℕ) (rows : List Row) (vs : List PlainValue) → length rows ≡ length vs → All (FitsRow fields) rows → AllFit f (values_from vs) → All (FitsRow (fields ++ f ∷ [])) (each_with rows vs)
rows_fit_more fields f [] vs long fit vs_fit = All-nil (FitsRow (fields ++ f ∷ []))
rows_fit_more fields f (row ∷ rows) [] long fit vs_fit = absurd (omega (arith, long))
rows_fit_more fields f (row ∷ rows) (v ∷ vs) long fit vs_fit =
    All-cons (FitsRow (fields ++ f ∷ [])) (row ++ v ∷ []) (each_with rows vs)
    (fits_more fields f row v (All-head (FitsRow fields) row rows fit) vs_fit.0)
    (rows_fit_more fields f rows vs (omega (arith, long)) (All-tail (FitsRow fields) row rows fit) vs_fit.1)

-- the last field, or one before it
pub last_or_before : {X : Type 0} (xs : List X) (y : X) (i : ℕ) (x : X) → slice_get (xs ++ y ∷ []) i ≡ Some x → (slice_get xs i ≡ Some x) ⊎ ((i ≡ length xs) × (y ≡ x))
last_or_before [] y zero x at = inr (refl, cc)
last_or_before [] y (suc i) x at = absurd (cc at)
last_or_before (z ∷ xs) y zero x at = inl at
last_or_before (z ∷ xs) y (suc i) x at = elim (last_or_before xs y i x at) [
  | inl before ↦ inl before
  | inr (last, same) ↦ inr (ap suc last, same)
]

-- the columns before the last, and the last
pub column_before : (fields : List (PlainField ℕ)) (rows : List Row) (vs : List PlainValue) (top : ℕ) → top < length fields → length rows ≡ length vs → All (FitsRow fields) rows → values_at top (each_with rows vs) ≡ values_at top rows
column_before fields [] vs top below long fit = refl
column_before fields (row ∷ rows) [] top below long fit = absurd (omega (arith, long))
column_before fields (row ∷ rows) (v ∷ vs) top below long fit =
    let wide : length row ≡ length fields = row_long fields row (All-head (FitsRow fields) row rows fit) in
    let here : get_or (row ++ v ∷ []) top null ≡ get_or row top null = get_or_append_left row (v ∷ []) null top (omega (arith, below, wide)) in
    let behind = column_before fields rows vs top below (omega (arith, long)) (All-tail (FitsRow fields) row rows fit) in
    λ i. here i ∷ behind i

pub column_last : (fields : List (PlainField ℕ)) (rows : List Row) (vs : List PlainValue) → length rows ≡ length vs → All (FitsRow fields) rows → values_at (length fields) (each_with rows vs) ≡ vs
column_last fields [] [] long fit = refl
column_last fields [] (v ∷ vs) long fit = absurd (omega (arith, long))
column_last fields (row ∷ rows) [] long fit = absurd (omega (arith, long))
column_last fields (row ∷ rows) (v ∷ vs) long fit =
    let here : get_or (row ++ v ∷ []) (length fields) null ≡ v = get_or_push row v null (length fields) (row_long fields row (All-head (FitsRow fields) row rows fit)) in
    let behind = column_last fields rows vs (omega (arith, long)) (All-tail (FitsRow fields) row rows fit) in
    λ i. here i ∷ behind i

-- the place that a place behind a removed one had
abbrev pub before_removed : ℕ → ℕ → ℕ
before_removed zero top = suc top
before_removed (suc p) zero = zero
before_removed (suc p) (suc top) = suc (before_removed p top)

pub slice_get-removed : {X : Type 0} (xs : List X) (p top : ℕ) → p < length xs → slice_get (remove xs p) top ≡ slice_get xs (before_removed p top)
slice_get-removed [] p top below = absurd (omega (arith, below))
slice_get-removed (x ∷ xs) zero top below = refl
slice_get-removed (x ∷ xs) (suc p) zero below = refl
slice_get-removed (x ∷ xs) (suc p) (suc top) below = slice_get-removed xs p top (omega (arith, below))

pub get_or-removed : {X : Type 0} (xs : List X) (p top : ℕ) (d : X) → p < length xs → get_or (remove xs p) top d ≡ get_or xs (before_removed p top) d
get_or-removed [] p top d below = absurd (omega (arith, below))
get_or-removed (x ∷ xs) zero top d below = refl
get_or-removed (x ∷ xs) (suc p) zero d below = refl
get_or-removed (x ∷ xs) (suc p) (suc top) d below = get_or-removed xs p top d (omega (arith, below))

pub fits_less : (fields : List (PlainField ℕ)) (row : Row) (p : ℕ) → p < length fields → FitsRow fields row → FitsRow (remove fields p) (remove row p)
fits_less [] row p below fits = absurd (omega (arith, below))
fits_less (f ∷ fields) [] p below fits = absurd fits
fits_less (f ∷ fields) (v ∷ row) zero below fits = fits.1
fits_less (f ∷ fields) (v ∷ row) (suc p) below fits = (fits.0, fits_less fields row p (omega (arith, below)) fits.1)

pub rows_fit_less : (fields : List (PlainField ℕ)) (rows : List Row) (p : ℕ) → p < length fields → All (FitsRow fields) rows → All (FitsRow (remove fields p)) (map (λ (row : Row). remove row p) rows)
rows_fit_less fields [] p below fit = All-nil (FitsRow (remove fields p))
rows_fit_less fields (row ∷ rows) p below fit =
    All-cons (FitsRow (remove fields p)) (remove row p) (map (λ (row : Row). remove row p) rows)
    (fits_less fields row p below (All-head (FitsRow fields) row rows fit)) (rows_fit_less fields rows p below (All-tail (FitsRow fields) row rows fit))

pub column_removed : (fields : List (PlainField ℕ)) (rows : List Row) (p top : ℕ) → p < length fields → All (FitsRow fields) rows → values_at top (map (λ (row : Row). remove row p) rows) ≡ values_at (before_removed p top) rows
column_removed fields [] p top below fit = refl
column_removed fields (row ∷ rows) p top below fit =
    let wide : length row ≡ length fields = row_long fields row (All-head (FitsRow fields) row rows fit) in
    let here : get_or (remove row p) top null ≡ get_or row (before_removed p top) null = get_or-removed row p top null (omega (arith, below, wide)) in
    let behind = column_removed fields rows p top below (All-tail (FitsRow fields) row rows fit) in
    λ i. here i ∷ behind i
