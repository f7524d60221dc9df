use Rattle.std.proofs.Common.{map}
use Rattle.lan_model.specs.Plain.{plain_field, values_from}
use Rattle.lan_model.specs.PlainTable.{column_of}
use Rattle.lan_model.specs.Room.{AllHaveRoom}
use Rattle.lan_model.specs.Table.{FitsRow}
use Rattle.lan_rows.specs.Lines.{lines_of, rows_of}
use Rattle.lan_rows.proofs.RowsLemmas.{each_more, rows_more}
use Rattle.lan_rows.proofs.lines.read_rows.Goals as goal

pub loop-rows-preserved : goal.loop-rows-preserved
loop-rows-preserved c =
    let columns = map column_of c.args.fields.now in
    let rows = c.loop-rows.rows in
    let more = c.push.new.self in
    let row = c.in-Some.row in
    let read = rw c.in-Some.is at c.in_ok-row.ensures.ok in
    let fits = rw c.in-Some.is at c.in_ok-row.ensures.fit in
    let pushed = c.in_ok-push.ensures.ok in
    record {
      rows = rows_more columns (rows_of columns (lines_of c.args.input.now)) c.loop-rows.lines c.next.new.self rows more row c.loop-rows.invariant.rows read c.in_ok-row.ensures.rest pushed;
      fit = each_more (FitsRow (map plain_field c.args.fields.now)) rows more row c.loop-rows.invariant.fit fits pushed;
      room = λ are. let room = rw c.in-Some.is at (c.in_ok-row.ensures.room are) in each_more (λ r. AllHaveRoom (values_from r)) rows more row (c.loop-rows.invariant.room are) room pushed;
    }
