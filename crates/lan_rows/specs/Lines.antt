-- The lines of an input, and the rows that they are.
use Rattle.std.specs.Prelude.{ℕ, ◌+◌, ◌^◌, nat_le, nat_eq, length, List, [], ◌∷◌, ◌++◌, cond, Option, Some, None, Result, Ok, Err}
use Rattle.lan_model.specs.Plain.{PlainField, PlainValue}
use Rattle.lan_rows.specs.Judged.{Judged}
use Rattle.lan_rows.specs.Values.{line_row}
use Rattle.lan_rows.specs.declared.lines.LinesFault.{LinesFault}
use Rattle.lan_rows.specs.declared.lines.LinesFault.TheVariants.{Bad, LineTooLong}

-- the lines that a text is cut into at each newline, numbered from here, where `line` was read of the first
unfoldable pub cut : ℕ → List ℕ → List ℕ → List (ℕ × List ℕ)
cut number [] [] = []
cut number (b ∷ line) [] = (number, b ∷ line) ∷ []
cut number line (b ∷ rest) = cond (nat_eq b 10) ((number, line) ∷ cut (number + 1) [] rest) (cut number (line ++ b ∷ []) rest)

-- the same of the whole text, from line 1
abbrev pub lines_of : List ℕ → List (ℕ × List ℕ)
lines_of text = cut 1 [] text

abbrev pub numbered : ℕ → Judged (List PlainValue) → Result (List PlainValue) LinesFault
numbered number (Ok row) = Ok row
numbered number (Err fault) = Err (Bad number fault)

-- the row of a numbered line, of at most 2^26 bytes
abbrev pub row_at : {I : Type 0} → List (PlainField I) → ℕ × List ℕ → Result (List PlainValue) LinesFault
row_at fields line = cond (nat_le (length line.1) (2 ^ 26)) (numbered line.0 (line_row fields line.1)) (Err (LineTooLong line.0))

abbrev pub found_row : Result (List PlainValue) LinesFault → Result (Option (List PlainValue)) LinesFault
found_row (Ok row) = Ok (Some row)
found_row (Err fault) = Err fault

-- the row of the first line, and none where there is no line
abbrev pub first_row : {I : Type 0} → List (PlainField I) → List (ℕ × List ℕ) → Result (Option (List PlainValue)) LinesFault
first_row fields [] = Ok None
first_row fields (line ∷ lines) = found_row (row_at fields line)

abbrev pub and_rows : Result (List PlainValue) LinesFault → Result (List (List PlainValue)) LinesFault → Result (List (List PlainValue)) LinesFault
and_rows (Err fault) rows = Err fault
and_rows (Ok row) (Err fault) = Err fault
and_rows (Ok row) (Ok rows) = Ok (row ∷ rows)

-- the rows of numbered lines, or the fault of the first that is none
abbrev pub rows_of : {I : Type 0} → List (PlainField I) → List (ℕ × List ℕ) → Result (List (List PlainValue)) LinesFault
rows_of fields [] = Ok []
rows_of fields (line ∷ lines) = and_rows (row_at fields line) (rows_of fields lines)

-- these rows, and behind them those of the rest
abbrev pub behind : List (List PlainValue) → Result (List (List PlainValue)) LinesFault → Result (List (List PlainValue)) LinesFault
behind rows (Ok later) = Ok (rows ++ later)
behind rows (Err fault) = Err fault
