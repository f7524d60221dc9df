-- Where the first line of a text ends.
use Rattle.std.proofs.Common.{◌≡◌, inl, inr, refl, sym, ◌∙◌, ap, ℕ, zero, suc, ◌+◌, ◌<◌, ◌≤◌, List, [], ◌∷◌, ◌++◌, length, take, drop, arith, append_assoc, append-nil, true, false}
use Rattle.std.specs.Prelude.{◌==◌, nat_eq, slice_index, Result, Ok, Err}
use Rattle.std.proofs.lemmas.Bool.{cases_Bool}
use Rattle.std.proofs.lemmas.Bool.Decides.{nat_tests}
use Rattle.std.proofs.lemmas.List.{take_all}
use Rattle.lan_model.specs.Plain.{PlainValue}
use Rattle.lan_rows.specs.Lines.{cut, and_rows, behind}
use Rattle.lan_rows.specs.declared.lines.LinesFault.{LinesFault}

-- no byte of the line is a newline
abbrev pub NoNewline : List ℕ → Type 0
NoNewline [] = Unit {0}
NoNewline (b ∷ bs) = (nat_eq b 10 ≡ false) × NoNewline bs

-- a line ends at its newline
pub cut_at : (number : ℕ) (read line rest : List ℕ) → NoNewline line → cut number read (line ++ 10 ∷ rest) ≡ (number, read ++ line) ∷ cut (number + 1) [] rest
unfolding cut
cut_at number [] [] rest none = refl
cut_at number (a ∷ read) [] rest none = ap (λ l. (number, l) ∷ cut (number + 1) [] rest) (sym (append-nil (a ∷ read)))
cut_at number [] (b ∷ line) rest none = rw none.0 (cut_at number (b ∷ []) line rest none.1)
cut_at number (a ∷ read) (b ∷ line) rest none =
    rw none.0 (cut_at number ((a ∷ read) ++ b ∷ []) line rest none.1 ∙ ap (λ l. (number, l) ∷ cut (number + 1) [] rest) (append_assoc (a ∷ read) (b ∷ []) line))

-- and the last one at the end
pub cut_last : (number : ℕ) (read line : List ℕ) → NoNewline line → 0 < length (read ++ line) → cut number read line ≡ (number, read ++ line) ∷ []
unfolding cut
cut_last number [] [] none some = absurd (omega (arith, some))
cut_last number (a ∷ read) [] none some = ap (λ l. (number, l) ∷ []) (sym (append-nil (a ∷ read)))
cut_last number [] (b ∷ line) none some = rw none.0 (cut_last number (b ∷ []) line none.1 (omega arith))
cut_last number (a ∷ read) (b ∷ line) none some =
    rw none.0 (cut_last number ((a ∷ read) ++ b ∷ []) line none.1 (omega arith) ∙ ap (λ l. (number, l) ∷ []) (append_assoc (a ∷ read) (b ∷ []) line))

-- the byte at no place before this one is a newline
abbrev pub NoneBefore : List ℕ → ℕ → Type 0
NoneBefore bytes at = (k : ℕ) → k < at → (slice_index bytes k == 10) ≡ true → ⊥

other : (b : ℕ) → ((b == 10) ≡ true → ⊥) → nat_eq b 10 ≡ false
other b not_ten = elim (cases_Bool (b == 10)) [ inl is ↦ absurd (not_ten is) | inr differs ↦ differs ]

none_before : (bytes : List ℕ) (at : ℕ) → at ≤ length bytes → NoneBefore bytes at → NoNewline (take at bytes)
none_before [] zero below each = tt
none_before [] (suc at) below each = tt
none_before (b ∷ bs) zero below each = tt
none_before (b ∷ bs) (suc at) below each = (other b (each 0 (omega arith)), none_before bs at (omega (arith, below)) (λ k before. each (suc k) (omega (arith, before))))

parted : (bytes : List ℕ) (at : ℕ) → at < length bytes → bytes ≡ take at bytes ++ slice_index bytes at ∷ drop (suc at) bytes
parted [] at below = absurd (omega (arith, below))
parted (b ∷ bs) zero below = refl
parted (b ∷ bs) (suc at) below = ap (λ l. b ∷ l) (parted bs at (omega (arith, below)))

-- the first line, where a newline ends it
pub line_found : (number : ℕ) (bytes rest : List ℕ) (at : ℕ) → at < length bytes → (slice_index bytes at == 10) ≡ true → NoneBefore bytes at → rest ≡ drop (at + 1) bytes
    → cut number [] bytes ≡ (number, take at bytes) ∷ cut (number + 1) [] rest
line_found number bytes rest at below is each same =
    let ten : slice_index bytes at ≡ 10 = grind (arith, nat_tests, is) in
    let next : at + 1 ≡ suc at = omega arith in
    let behind : rest ≡ drop (suc at) bytes = same ∙ ap (λ k. drop k bytes) next in
    rw behind (ap (cut number []) (parted bytes at below ∙ ap (λ b. take at bytes ++ b ∷ drop (suc at) bytes) ten) ∙ cut_at number [] (take at bytes) (drop (suc at) bytes) (none_before bytes at (omega (arith, below)) each))

-- and where none does
pub line_left : (number : ℕ) (bytes rest : List ℕ) → 0 < length bytes → NoneBefore bytes (length bytes) → length rest ≡ 0 → cut number [] bytes ≡ (number, bytes) ∷ cut (number + 1) [] rest
unfolding cut
line_left number bytes [] some each empty =
    let line : NoNewline bytes = rw (← take_all (length bytes) bytes (omega arith)) (none_before bytes (length bytes) (omega arith) each) in
    cut_last number [] bytes line some
line_left number bytes (b ∷ rest) some each empty = absurd (omega (arith, empty))

pub no_lines : (number : ℕ) (rest : List ℕ) → length rest ≡ 0 → cut number [] rest ≡ []
unfolding cut
no_lines number [] empty = refl
no_lines number (b ∷ rest) empty = absurd (omega (arith, empty))

pub behind_none : (rows : List (List PlainValue)) → behind rows (Ok []) ≡ Ok rows
behind_none rows = ap (λ l. Ok l) (append-nil rows)

-- a row more in front
pub behind_row : (rows : List (List PlainValue)) (row : List PlainValue) (later : Result (List (List PlainValue)) LinesFault) → behind rows (and_rows (Ok row) later) ≡ behind (rows ++ row ∷ []) later
behind_row rows row (Ok more) = ap (λ l. Ok l) (sym (append_assoc rows (row ∷ []) more))
behind_row rows row (Err bad) = refl
