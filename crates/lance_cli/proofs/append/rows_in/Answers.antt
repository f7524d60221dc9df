use Rattle.std.proofs.Common.{arith, map, subst}
use Rattle.lan_model.specs.Plain.{plain_field}
use Rattle.lan_model.specs.PlainTable.{column_of, row_of}
use Rattle.lan_model.specs.Table.{AreColumns}
use Rattle.lan_rows.specs.Lines.{lines_of, rows_of}
use Rattle.lance_cli.proofs.NewLines.{none_read, row_read, all_read}
use Rattle.lance_cli.proofs.Numbered.{columns_are}
use Rattle.lance_cli.proofs.append.rows_in.Goals as goal

pub new-requires : goal.new-requires
new-requires c = subst AreColumns (columns_are c.args.fields.now) c.requires.columns

pub loop-rows-init : goal.loop-rows-init
loop-rows-init c = none_read (map plain_field c.args.fields.now) (map column_of c.args.fields.now) c.args.text.now c.new-lines.result c.in_ok-rows.rows c.in_ok-rows.ensures c.new-lines.ensures.lines c.requires.short

pub push-requires : goal.push-requires
push-requires c = omega (arith, c.loop-rows.invariant.few)

pub loop-rows-preserved : goal.loop-rows-preserved
loop-rows-preserved c =
    let fields = map plain_field c.args.fields.now in
    let columns = map column_of c.args.fields.now in
    let read = rw c.in-Some.is at c.in_ok-row.ensures.ok in
    let shorter = rw c.in-Some.is at c.in_ok-row.ensures.shorter in
    let fit = rw c.in-Some.is at c.in_ok-row.ensures.fit in
    let room = rw c.in-Some.is at (c.in_ok-row.ensures.room c.requires.columns) in
    let h = c.loop-rows.invariant in
    row_read fields columns (rows_of columns (lines_of c.args.text.now)) c.loop-rows.lines c.next_row.new.lines c.loop-rows.rows c.push.new.self (row_of c.in-Some.row) h read c.in_ok-row.ensures.rest shorter (c.in_ok-push.ensures fields h.rows h.has fit room)

pub returns : goal.returns
returns c =
    let columns = map column_of c.args.fields.now in
    let read = rw c.in_default.is at c.in_ok-row.ensures.ok in
    record { rows = all_read (map plain_field c.args.fields.now) columns (rows_of columns (lines_of c.args.text.now)) c.loop-rows.lines c.loop-rows.rows c.loop-rows.invariant read }
