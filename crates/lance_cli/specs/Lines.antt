-- The rows of the lines that a command is given.
use Rattle.std.specs.Prelude.{◌≡◌, ⊤, ℕ, ◌^◌, ◌<◌, List, length, Result, Ok, Err}
use Rattle.lan_model.specs.Plain.{PlainField, PlainValue}
use Rattle.lan_rows.specs.declared.lines.LinesFault.{LinesFault}
use Rattle.lan_commit.specs.NewRows.{HasRows}
use Rattle.lan_commit.specs.declared.new_rows.NewRows.{NewRows}
use Rattle.lance_cli.specs.Faults.{of_lines}
use Rattle.lance_cli.specs.declared.fault.Fault.{Fault}
use Rattle.lance_cli.specs.declared.fault.Fault.TheVariants as fault

-- these are the rows of the lines, to be appended, and they aren't too many to be
pub record KeepsRows (fields : List (PlainField ℕ)) (wanted : Result (List (List PlainValue)) LinesFault) (kept : NewRows) : Type 0 where
  pub rows : List (List PlainValue)
  pub read : wanted ≡ Ok rows
  pub has : HasRows fields rows kept
  pub few : length rows < 2 ^ 31

-- the rows of the lines, or why there are none
abbrev pub RowsAre : List (PlainField ℕ) → Result (List (List PlainValue)) LinesFault → Result NewRows Fault → Type 0
RowsAre fields wanted (Ok kept) = KeepsRows fields wanted kept
RowsAre fields wanted (Err (fault.BadInput line words)) = (why : LinesFault) × (wanted ≡ Err why) × (fault.BadInput line words ≡ of_lines why)
RowsAre fields wanted (Err fault.Memory) = ⊤
RowsAre fields wanted (Err f) = ⊥
