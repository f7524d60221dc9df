use Rattle.std.proofs.Common.{length, map}
use Rattle.lan_model.specs.Plain.{plain_field}
use Rattle.lan_model.specs.PlainTable.{column_of}
use Rattle.lan_rows.specs.Lines.{lines_of, rows_of}
use Rattle.lance_cli.proofs.NewLines.{HasRead}
use Rattle.lance_cli.proofs.append.rows_in.Given as goal

abbrev pub invariant-loop-rows : goal.invariant-loop-rows
invariant-loop-rows l = HasRead (map plain_field l.fn.fields) (map column_of l.fn.fields) (rows_of (map column_of l.fn.fields) (lines_of l.fn.text)) l.lines l.rows

abbrev pub decreases-loop-rows : goal.decreases-loop-rows
decreases-loop-rows l = length l.lines
