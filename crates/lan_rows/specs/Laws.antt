-- Laws of rows and lines.
use Rattle.std.specs.Prelude.{◌≡◌, ◌↔◌, ⊤, ℕ, ◌≤◌, List, [], ◌∷◌, ◌++◌, length, drop, Option, Some, None, Result, Ok, Err}
use Rattle.hex.specs.Hex.{IsBytes}
use Rattle.lan_model.specs.Plain.{PlainValue, null, bits, raw, items, group, PlainValues, no_values, one_value, values_from}
use Rattle.lan_model.specs.Room.{AllHaveRoom}
use Rattle.lan_model.specs.Table.{Column, AreColumns, FitsRow}
use Rattle.lan_rows.specs.declared.lines.LinesFault.{LinesFault}
use Rattle.lan_rows.specs.Line.{line_of}
use Rattle.lan_rows.specs.Lines.{lines_of, first_row, rows_of, behind}
use Rattle.lan_rows.specs.RowOf.{RowOf}
use Rattle.lan_rows.specs.Values.{line_row}

abbrev mutual
  -- what it has of raw data is bytes, as in each value that the code holds
  pub HoldsBytes : PlainValue → Type 0
  HoldsBytes null = ⊤
  HoldsBytes (bits b) = ⊤
  HoldsBytes (raw s) = IsBytes s
  HoldsBytes (items vs) = HoldBytes vs
  HoldsBytes (group vs) = HoldBytes vs

  pub HoldBytes : PlainValues → Type 0
  HoldBytes no_values = ⊤
  HoldBytes (one_value v vs) = HoldsBytes v × HoldBytes vs

-- two rows of a table that have one line are equal
abbrev pub LineTellsRow : Type 0
LineTellsRow = (columns : List Column) (row other : List PlainValue) → AreColumns columns → FitsRow columns row → FitsRow columns other → HoldBytes (values_from row) → HoldBytes (values_from other) → line_of columns row ≡ line_of columns other → row ≡ other

-- a line is read as a row exactly where it is the row's
abbrev pub LineIsRow : Type 0
LineIsRow = (columns : List Column) (line : List ℕ) (row : List PlainValue) → AreColumns columns → (line_row columns line ≡ Ok row) ↔ RowOf columns line row

-- no value of a row that is read of a line has 2^32 bytes or more
abbrev pub RowsHaveRoom : Type 0
RowsHaveRoom = (columns : List Column) (line : List ℕ) (row : List PlainValue) → AreColumns columns → line_row columns line ≡ Ok row → AllHaveRoom (values_from row)

-- no more rows are read of an input than it has bytes
abbrev pub FewRows : Type 0
FewRows = (columns : List Column) (input : List ℕ) (rows : List (List PlainValue)) → rows_of columns (lines_of input) ≡ Ok rows → length rows ≤ length input

-- these rows, and behind them those of the lines, by what the first of the lines is
abbrev pub read_on : List Column → List (List PlainValue) → List (ℕ × List ℕ) → Result (Option (List PlainValue)) LinesFault → Result (List (List PlainValue)) LinesFault
read_on columns rows lines (Err fault) = Err fault
read_on columns rows lines (Ok None) = Ok rows
read_on columns rows lines (Ok (Some row)) = behind (rows ++ row ∷ []) (rows_of columns (drop 1 lines))

-- rows that are read one after another are the rows of the lines, and the first fault is theirs
abbrev pub RowsStep : Type 0
RowsStep = (columns : List Column) (rows : List (List PlainValue)) (lines : List (ℕ × List ℕ)) → behind rows (rows_of columns lines) ≡ read_on columns rows lines (first_row columns lines)
