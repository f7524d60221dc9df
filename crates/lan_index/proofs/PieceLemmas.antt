-- The pieces that are read for some rows of a page.
use Rattle.std.proofs.Common.{◌≡◌, ℕ, zero, suc, ◌+◌, ◌<◌, ◌≤◌, ◌⊎◌, inl, inr, Bool, cond, List, [], ◌∷◌, refl, ap, subst, sym, arith}
use Rattle.std.specs.Prelude.{Contains}
use Rattle.std.proofs.lemmas.Bool.{lt-ltb, le-ltb}
use Rattle.lan_levels.specs.Stretch.{Stretch}
use Rattle.lan_levels.specs.Past.{past}
use Rattle.lan_levels.specs.Pieces.{piece, pieces_from, AreRising, IsRead, EachRowIsRead}
use Rattle.lan_index.proofs.PastLemmas.{either, past_progress}

pub pieces_none : (run : ℕ → Stretch) (rows q : ℕ) → pieces_from run rows q [] ≡ []
unfolding pieces_from
pieces_none run rows q = refl

-- a row in the last piece
pub pieces_skip : (run : ℕ → Stretch) (rows q row : ℕ) (kept : List ℕ) → row < q → pieces_from run rows q (row ∷ kept) ≡ pieces_from run rows q kept
unfolding pieces_from
pieces_skip run rows q row kept less = ap (λ (b : Bool). cond b (pieces_from run rows q kept) (piece run rows row ∷ pieces_from run rows (past run rows row) kept)) (lt-ltb row q less)

-- a row behind it
pub pieces_take : (run : ℕ → Stretch) (rows q row : ℕ) (kept : List ℕ) → q ≤ row → pieces_from run rows q (row ∷ kept) ≡ piece run rows row ∷ pieces_from run rows (past run rows row) kept
unfolding pieces_from
pieces_take run rows q row kept le = ap (λ (b : Bool). cond b (pieces_from run rows q kept) (piece run rows row ∷ pieces_from run rows (past run rows row) kept)) (le-ltb row q le)

here : {X : Type 0} (x : X) (xs : List X) → Contains (x ∷ xs) x
here x xs = (0, omega arith, refl)

there : {X : Type 0} (x y : X) (xs : List X) → Contains xs x → Contains (y ∷ xs) x
there x y xs (k, less, e) = (suc k, omega arith, e)

-- the list's first number, or one behind it
front : (x row : ℕ) (xs : List ℕ) → Contains (x ∷ xs) row → (x ≡ row) ⊎ Contains xs row
front x row xs (zero, less, e) = inl e
front x row xs (suc k, less, e) = inr (k, omega arith, e)

rising_above : (low row : ℕ) (kept : List ℕ) → AreRising low kept → Contains kept row → low ≤ row
rising_above low row [] h (k, less, e) = absurd (omega arith)
rising_above low row (x ∷ xs) h (zero, less, e) = let le = h.0 in omega arith
rising_above low row (x ∷ xs) h (suc k, less, e) = let up : x + 1 ≤ row = rising_above (x + 1) row xs h.1 (k, omega arith, e) in let le = h.0 in omega arith

later_piece : (run : ℕ → Stretch) (rows row : ℕ) (s : Stretch) (parts : List Stretch) → IsRead run rows row parts → IsRead run rows row (s ∷ parts)
later_piece run rows row s parts h = record { first = h.first; behind = h.behind; before = h.before; stands = there (piece run rows h.first) s parts h.stands }

first_piece : (run : ℕ → Stretch) (rows row x : ℕ) (parts : List Stretch) → x ≤ row → row < past run rows x → IsRead run rows row (piece run rows x ∷ parts)
first_piece run rows row x parts le less = record { first = x; behind = le; before = less; stands = here (piece run rows x) parts }

taken : (run : ℕ → Stretch) (rows row x : ℕ) (xs : List ℕ) → row < rows → (x < row → past run rows x ≤ row → IsRead run rows row (pieces_from run rows (past run rows x) xs))
    → (x ≡ row) ⊎ (x < row) → (past run rows x ≤ row) ⊎ (row < past run rows x) → IsRead run rows row (piece run rows x ∷ pieces_from run rows (past run rows x) xs)
taken run rows row x xs within later (inl same) past_row =
    let up : x + 1 ≤ past run rows x = past_progress run rows x (omega arith) in
    first_piece run rows row x (pieces_from run rows (past run rows x) xs) (omega arith) (omega arith)
taken run rows row x xs within later (inr less) (inl over) = later_piece run rows row (piece run rows x) (pieces_from run rows (past run rows x) xs) (later less over)
taken run rows row x xs within later (inr less) (inr in_it) = first_piece run rows row x (pieces_from run rows (past run rows x) xs) (omega arith) in_it

-- the row, or one of those that come behind the first number
same_or_later : (x row : ℕ) (xs : List ℕ) → AreRising (x + 1) xs → (x ≡ row) ⊎ Contains xs row → (x ≡ row) ⊎ (x < row)
same_or_later x row xs h (inl e) = inl e
same_or_later x row xs h (inr c) = let up : x + 1 ≤ row = rising_above (x + 1) row xs h c in inr (omega arith)

still_in : (x row : ℕ) (xs : List ℕ) → x < row → (x ≡ row) ⊎ Contains xs row → Contains xs row
still_in x row xs less (inl e) = absurd (omega arith)
still_in x row xs less (inr c) = c

next_piece : (run : ℕ → Stretch) (rows q row x : ℕ) (xs : List ℕ) → AreRising (x + 1) xs → (x ≡ row) ⊎ Contains xs row → q ≤ row → row < rows
    → ((p : ℕ) → Contains xs row → p ≤ row → IsRead run rows row (pieces_from run rows p xs)) → (q ≤ x) ⊎ (x < q) → IsRead run rows row (pieces_from run rows q (x ∷ xs))
next_piece run rows q row x xs h c le within later (inl behind) =
    subst (IsRead run rows row) (sym (pieces_take run rows q x xs behind))
    (taken run rows row x xs within (λ less over. later (past run rows x) (still_in x row xs less c) over) (same_or_later x row xs h c) (either (past run rows x) row))
next_piece run rows q row x xs h c le within later (inr less) =
    subst (IsRead run rows row) (sym (pieces_skip run rows q x xs less)) (later q (still_in x row xs (omega arith) c) le)

-- each row behind the last piece is in a piece still to be read
pub read_from : EachRowIsRead
read_from run rows low q row [] h (k, less, e) le within = absurd (omega arith)
read_from run rows low q row (x ∷ xs) h c le within =
    next_piece run rows q row x xs h.1 (front x row xs c) le within (λ p d over. read_from run rows (x + 1) p row xs h.1 d over within) (either q x)

-- rising numbers, from a lower one
pub rising_lower : (low high : ℕ) (kept : List ℕ) → low ≤ high → AreRising high kept → AreRising low kept
rising_lower low high [] le h = tt
rising_lower low high (x ∷ xs) le h = let up = h.0 in (omega arith, h.1)
