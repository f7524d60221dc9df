-- The k-th kept row: as many deleted rows come before it as it is above k.
use Rattle.std.proofs.Common.{◌≡◌, ◌≢◌, ℕ, zero, suc, ◌+◌, ◌-◌, ◌<◌, ◌≤◌, ◌⊎◌, inl, inr, List, [], ◌∷◌, ◌++◌, Bool, true, false, Some, None, length, get_or, refl, ap, sym, ◌∙◌, arith, nat_eq, not, append_assoc, length-append, eqb-true, eq-eqb, true≢false}
use Rattle.std.specs.List.{Any, range_with_len, slice_get}
use Rattle.std.proofs.lemmas.Grind.{common_steps}
use Rattle.std.proofs.lemmas.Bool.{cases_lt}
use Rattle.std.proofs.lemmas.List.Elements.{filter-append}
use Rattle.std.proofs.lemmas.List.Folds.{Any-from_list_any, list_any_at}
use Rattle.std.proofs.lemmas.Option.{slice_get_past}
use Rattle.std.proofs.lemmas.List.{append-nil, get_or_default}
use Rattle.lan_arrow.specs.Kept.{is_in, kept_below, IsSpread, AreBelow}

range_more : (a n : ℕ) → range_with_len a (suc n) ≡ range_with_len a n ++ (a + n) ∷ []
range_more a zero = ap (λ (k : ℕ). k ∷ []) (omega arith)
range_more a (suc n) =
    let next : range_with_len (a + 1) (suc n) ≡ range_with_len (a + 1) n ++ (a + 1 + n) ∷ [] = range_more (a + 1) n in
    let same : a + 1 + n ≡ a + suc n = omega arith in
    ap (λ (xs : List ℕ). a ∷ xs) (next ∙ ap (λ (k : ℕ). range_with_len (a + 1) n ++ k ∷ []) same)

-- a place of a row that is deleted, and none of one that isn't
pub deleted_at : (rows : List ℕ) (row : ℕ) → is_in rows row ≡ true → (i : ℕ) × (i < length rows) × (get_or rows i 0 ≡ row)
deleted_at rows row t =
    let any : Any (λ (x : ℕ). nat_eq row x ≡ true) rows = Any-from_list_any (nat_eq row) rows t in
    let same : row ≡ any.1 = eqb-true row any.1 any.4 in
    let at : get_or rows any.0 0 ≡ any.1 = get_or_default rows any.0 0 any.1 any.2 ∙ any.3 in
    (any.0, any.2, at ∙ sym same)

pub is_at : (rows : List ℕ) (i row : ℕ) → i < length rows → get_or rows i 0 ≡ row → is_in rows row ≡ true
is_at rows i row l e = list_any_at (nat_eq row) rows i 0 l (eq-eqb _ _ (sym e))

pub not_in : (rows : List ℕ) (row : ℕ) → ((i : ℕ) → i < length rows → get_or rows i 0 ≢ row) → (t : Bool) → is_in rows row ≡ t → t ≡ false
not_in rows row none false e = refl
not_in rows row none true e = let at = deleted_at rows row e in absurd (none at.0 at.1 at.2)

kept_same : (rows : List ℕ) (n : ℕ) → is_in rows n ≡ true → kept_below rows (suc n) ≡ kept_below rows n
kept_same rows n t =
    let r = range_more 0 n in
    let f = filter-append (λ (row : ℕ). not (is_in rows row)) (range_with_len 0 n) (n ∷ []) in
    let a = append-nil (kept_below rows n) in
    grind (arith, common_steps)

kept_next : (rows : List ℕ) (n : ℕ) → is_in rows n ≡ false → kept_below rows (suc n) ≡ kept_below rows n ++ n ∷ []
kept_next rows n t =
    let r = range_more 0 n in
    let f = filter-append (λ (row : ℕ). not (is_in rows row)) (range_with_len 0 n) (n ∷ []) in
    grind (arith, common_steps)

-- of the deleted rows the first b are below n
pub record Splits (rows : List ℕ) (n b : ℕ) : Type 0 where
  pub within : b ≤ length rows
  pub below : (i : ℕ) → i < b → get_or rows i 0 < n
  pub above : (i : ℕ) → b ≤ i → i < length rows → n ≤ get_or rows i 0

is_below : (rows : List ℕ) (n b i : ℕ) → Splits rows (suc n) b → i < length rows → get_or rows i 0 ≡ n → (i < b) ⊎ (b ≤ i) → i < b
is_below rows n b i s l e (inl low) = low
is_below rows n b i s l e (inr high) = absurd (let h = s.above i high l in omega arith)

kept_step : (rows : List ℕ) → IsSpread rows → (n b : ℕ) → Splits rows (suc n) b
    → ((d : ℕ) → Splits rows n d → length (kept_below rows n) + d ≡ n)
    → (t : Bool) → is_in rows n ≡ t → length (kept_below rows (suc n)) + b ≡ suc n
kept_step rows up n b s before true t =
    let at = deleted_at rows n t in
    let low = is_below rows n b at.0 s at.1 at.2 (cases_lt at.0 b) in
    let last = s.below (b - 1) (omega arith) in
    let gap = up at.0 (b - 1) (omega arith) (omega (arith, s.within)) in
    let count = before (b - 1) (record {
      within = omega (arith, s.within);
      below = λ (i : ℕ) l. let g = up i (b - 1) (omega arith) (omega (arith, s.within)) in omega arith;
      above = λ (i : ℕ) l m. let g = up (b - 1) i (omega arith) m in omega arith;
    }) in
    let same = ap length (kept_same rows n t) in
    omega arith
kept_step rows up n b s before false t =
    let apart = λ (i : ℕ) (l : i < length rows) (e : get_or rows i 0 ≡ n). true≢false (sym (is_at rows i n l e) ∙ t) in
    let count = before b (record {
      within = s.within;
      below = λ (i : ℕ) l. let g = s.below i l in let h = apart i (omega (arith, s.within)) in omega arith;
      above = λ (i : ℕ) l m. let g = s.above i l m in omega arith;
    }) in
    let same = ap length (kept_next rows n t) in
    let one = length-append (kept_below rows n) (n ∷ []) in
    omega arith

-- so many places below n are kept
kept_length : (rows : List ℕ) → IsSpread rows → (n b : ℕ) → Splits rows n b → length (kept_below rows n) + b ≡ n
kept_length rows up zero zero s = refl
kept_length rows up zero (suc b) s = absurd (let h = s.below 0 (omega arith) in omega arith)
kept_length rows up (suc n) b s = kept_step rows up n b s (kept_length rows up n) (is_in rows n) refl

kept_front_step : (rows : List ℕ) (n m : ℕ) → (rest : List ℕ) × (kept_below rows m ≡ kept_below rows n ++ rest)
    → (t : Bool) → is_in rows m ≡ t → (rest : List ℕ) × (kept_below rows (suc m) ≡ kept_below rows n ++ rest)
kept_front_step rows n m (rest, e) true t = (rest, kept_same rows m t ∙ e)
kept_front_step rows n m (rest, e) false t =
    let seam : (kept_below rows n ++ rest) ++ m ∷ [] ≡ kept_below rows n ++ (rest ++ m ∷ []) = rw append_assoc in
    (rest ++ m ∷ [], kept_next rows m t ∙ ap (λ (xs : List ℕ). xs ++ m ∷ []) e ∙ seam)

-- those below a number come first of those below a greater one
kept_front : (rows : List ℕ) (n d m : ℕ) → m ≡ d + n → (rest : List ℕ) × (kept_below rows m ≡ kept_below rows n ++ rest)
kept_front rows n zero m e = ([], ap (λ (k : ℕ). kept_below rows k) (let f : m ≡ n = omega arith in f) ∙ sym (append-nil (kept_below rows n)))
kept_front rows n (suc d) zero e = absurd (omega arith)
kept_front rows n (suc d) (suc m) e = kept_front_step rows n m (kept_front rows n d m (omega arith)) (is_in rows m) refl

slice_get_seam : (xs : List ℕ) (y : ℕ) (ys : List ℕ) (k : ℕ) → length xs ≡ k → slice_get (xs ++ y ∷ ys) k ≡ Some y
slice_get_seam [] y ys zero e = refl
slice_get_seam [] y ys (suc k) e = absurd (omega arith)
slice_get_seam (x ∷ xs) y ys zero e = absurd (omega arith)
slice_get_seam (x ∷ xs) y ys (suc k) e = slice_get_seam xs y ys k (omega arith)

apart_at : (rows : List ℕ) (r b i : ℕ) → ((i : ℕ) → i < b → get_or rows i 0 < r)
    → ((i : ℕ) → b ≤ i → i < length rows → r < get_or rows i 0) → i < length rows → (i < b) ⊎ (b ≤ i) → get_or rows i 0 ≢ r
apart_at rows r b i before after l (inl low) e = let h = before i low in omega arith
apart_at rows r b i before after l (inr high) e = let h = after i high l in omega arith

pub kept_at : (rows : List ℕ) (physical k r b : ℕ) → IsSpread rows → k + b ≡ r → b ≤ length rows
    → ((i : ℕ) → i < b → get_or rows i 0 < r) → ((i : ℕ) → b ≤ i → i < length rows → r < get_or rows i 0)
    → r < physical → slice_get (kept_below rows physical) k ≡ Some r
kept_at rows physical k r b up place within before after l =
    let count = kept_length rows up r b (record { within = within; below = before; above = λ (i : ℕ) h m. let g = after i h m in omega arith }) in
    let free = not_in rows r (λ (i : ℕ) h e. apart_at rows r b i before after h (cases_lt i b) e) (is_in rows r) refl in
    let next = kept_next rows r free in
    let front = kept_front rows (suc r) (physical - suc r) physical (omega arith) in
    let all : kept_below rows physical ≡ (kept_below rows r ++ r ∷ []) ++ front.0 = front.1 ∙ ap (λ (xs : List ℕ). xs ++ front.0) next in
    let seam : (kept_below rows r ++ r ∷ []) ++ front.0 ≡ kept_below rows r ++ (r ∷ front.0) = rw append_assoc in
    ap (λ (xs : List ℕ). slice_get xs k) (all ∙ seam) ∙ slice_get_seam (kept_below rows r) r front.0 k (omega arith)

pub kept_past : (rows : List ℕ) (physical k : ℕ) → IsSpread rows → AreBelow physical rows → physical ≤ k + length rows
    → None ≡ slice_get (kept_below rows physical) k
kept_past rows physical k up below h =
    let count = kept_length rows up physical (length rows) (record { within = omega arith; below = below; above = λ (i : ℕ) l m. omega arith }) in
    sym (slice_get_past (kept_below rows physical) k (omega arith))

-- where the first row that isn't below `row` is another, there is no such row
found_by : (rows : List ℕ) (row low : ℕ) → IsSpread rows → ((i : ℕ) → i < low → get_or rows i 0 < row)
    → ((i : ℕ) → low ≤ i → i < length rows → row ≤ get_or rows i 0) → low < length rows
    → (t : Bool) → nat_eq (get_or rows low 0) row ≡ t → t ≡ is_in rows row
found_by rows row low up before after l true t = sym (is_at rows low row l (eqb-true (get_or rows low 0) row t))
found_by rows row low up before after l false t =
    let apart : get_or rows low 0 ≢ row = λ e. true≢false (sym (eq-eqb _ _ e) ∙ t) in
    let first = after low (omega arith) l in
    sym (not_in rows row (λ (i : ℕ) m. apart_at rows row low i before (λ (j : ℕ) h n. let g = up low j h n in omega arith) m (cases_lt i low)) (is_in rows row) refl)

pub found : (rows all : List ℕ) (row low : ℕ) → rows ≡ all → IsSpread rows → ((i : ℕ) → i < low → get_or rows i 0 < row)
    → ((i : ℕ) → low ≤ i → i < length rows → row ≤ get_or rows i 0) → low < length rows
    → nat_eq (get_or rows low 0) row ≡ is_in all row
found rows all row low e up before after l =
    found_by rows row low up before after l (nat_eq (get_or rows low 0) row) refl ∙ ap (λ (xs : List ℕ). is_in xs row) e

pub not_found : (rows all : List ℕ) (row low : ℕ) → rows ≡ all → ((i : ℕ) → i < low → get_or rows i 0 < row)
    → length rows ≤ low → false ≡ is_in all row
not_found rows all row low e before l =
    sym (not_in rows row (λ (i : ℕ) m f. let h = before i (omega arith) in omega arith) (is_in rows row) refl)
    ∙ ap (λ (xs : List ℕ). is_in xs row) e
