use Rattle.std.proofs.Common.{◌≡◌, length, map}
use Rattle.std.specs.Prelude.{All}
use Rattle.lan_model.specs.Plain.{plain_field, values_from}
use Rattle.lan_model.specs.PlainTable.{column_of, row_of}
use Rattle.lan_model.specs.Room.{AllHaveRoom}
use Rattle.lan_model.specs.Table.{AreColumns, FitsRow}
use Rattle.lan_rows.specs.Lines.{lines_of, rows_of, behind}
use Rattle.lan_rows.proofs.lines.read_rows.Given as goal

abbrev pub invariant-loop-rows : goal.invariant-loop-rows
invariant-loop-rows l = record {
  rows : rows_of (map column_of l.fn.fields) (lines_of l.fn.input) ≡ behind (map row_of l.rows) (rows_of (map column_of l.fields) l.lines);
  fit : All (FitsRow (map plain_field l.fn.fields)) (map row_of l.rows);
  room : AreColumns (map column_of l.fn.fields) → All (λ row. AllHaveRoom (values_from row)) (map row_of l.rows);
}

abbrev pub decreases-loop-rows : goal.decreases-loop-rows
decreases-loop-rows l = length l.lines
