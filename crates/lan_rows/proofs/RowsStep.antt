-- Rows that are read one after another.
use Rattle.std.proofs.Common.{◌≡◌, ◌∙◌, ℕ, List, [], ◌∷◌, refl, ap}
use Rattle.std.specs.Prelude.{Option, Result, Ok, Err}
use Rattle.lan_model.specs.Plain.{PlainValue}
use Rattle.lan_model.specs.Table.{Column}
use Rattle.lan_rows.specs.declared.lines.LinesFault.{LinesFault}
use Rattle.lan_rows.specs.Laws.{read_on, RowsStep}
use Rattle.lan_rows.specs.Lines.{row_at, found_row, first_row, and_rows, rows_of, behind}
use Rattle.lan_rows.proofs.LineLaws.{behind_none, behind_row}

step_on : (columns : List Column) (rows : List (List PlainValue)) (line : ℕ × List ℕ) (lines : List (ℕ × List ℕ)) (first : Result (List PlainValue) LinesFault)
    → behind rows (and_rows first (rows_of columns lines)) ≡ read_on columns rows (line ∷ lines) (found_row first)
step_on columns rows line lines (Ok row) = behind_row rows row (rows_of columns lines)
step_on columns rows line lines (Err fault) = refl

pub rows_step : RowsStep
rows_step columns rows [] = behind_none rows
rows_step columns rows (line ∷ lines) = step_on columns rows line lines (row_at columns line)

-- no row is read yet
pub rows_begin : (all : Result (List (List PlainValue)) LinesFault) → all ≡ behind [] all
rows_begin (Ok rows) = refl
rows_begin (Err fault) = refl

-- the rows of all lines, by what was said of the first that was left
pub rows_on : (columns : List Column) (all : Result (List (List PlainValue)) LinesFault) (rows : List (List PlainValue)) (lines : List (ℕ × List ℕ)) (said : Result (Option (List PlainValue)) LinesFault)
    → all ≡ behind rows (rows_of columns lines) → first_row columns lines ≡ said → all ≡ read_on columns rows lines said
rows_on columns all rows lines said before is = before ∙ rows_step columns rows lines ∙ ap (read_on columns rows lines) is
