-- How many lines an input has, and how many rows.
use Rattle.std.proofs.Common.{◌≡◌, ℕ, ◌+◌, ◌≤◌, List, [], ◌∷◌, ◌++◌, length, length-append, inl, inr, refl, arith}
use Rattle.std.specs.Prelude.{nat_eq, Result, Ok, Err}
use Rattle.std.proofs.lemmas.Bool.{cases_Bool}
use Rattle.lan_model.specs.Plain.{PlainValue}
use Rattle.lan_model.specs.Table.{Column}
use Rattle.lan_rows.specs.declared.lines.LinesFault.{LinesFault}
use Rattle.lan_rows.specs.Laws.{FewRows}
use Rattle.lan_rows.specs.Lines.{cut, lines_of, row_at, and_rows, rows_of}

few_cut : (number : ℕ) (line rest : List ℕ) → length (cut number line rest) ≤ length line + length rest
unfolding cut
few_cut number [] [] = omega arith
few_cut number (b ∷ line) [] = omega arith
few_cut number [] (b ∷ rest) = elim (cases_Bool (nat_eq b 10)) [ inl is ↦ rw is (omega (arith, few_cut (number + 1) [] rest)) | inr other ↦ rw other (omega (arith, few_cut number (b ∷ []) rest)) ]
few_cut number (a ∷ line) (b ∷ rest) =
    elim (cases_Bool (nat_eq b 10)) [
      | inl is ↦ rw is (omega (arith, few_cut (number + 1) [] rest))
      | inr other ↦ rw other (omega (arith, few_cut number ((a ∷ line) ++ b ∷ []) rest, length-append (a ∷ line) (b ∷ [])))
    ]

-- each line has a byte of its own: its newline, or its first one
pub few_lines : (input : List ℕ) → length (lines_of input) ≤ length input
few_lines input = omega (arith, few_cut 1 [] input)

both_rows : (first : Result (List PlainValue) LinesFault) (later : Result (List (List PlainValue)) LinesFault) (rows : List (List PlainValue)) → and_rows first later ≡ Ok rows → (row : List PlainValue) × (more : List (List PlainValue)) × (later ≡ Ok more) × (rows ≡ row ∷ more)
both_rows (Ok row) (Ok more) rows e = (row, more, refl, cc)
both_rows (Ok row) (Err fault) rows e = absurd (cc)
both_rows (Err fault) later rows e = absurd (cc)

row_of_each : (columns : List Column) (lines : List (ℕ × List ℕ)) (rows : List (List PlainValue)) → rows_of columns lines ≡ Ok rows → length rows ≡ length lines
row_of_each columns [] [] e = refl
row_of_each columns [] (row ∷ rows) e = absurd (cc)
row_of_each columns (line ∷ lines) rows e =
    let b = both_rows (row_at columns line) (rows_of columns lines) rows e in
    rw b.3 (omega (arith, row_of_each columns lines b.1 b.2))

pub few_rows : FewRows
few_rows columns input rows e = omega (arith, few_lines input, row_of_each columns (lines_of input) rows e)
