use Rattle.std.proofs.Common.{inl, inr, ap, map, ◌∙◌}
use Rattle.std.specs.Result.{result_err}
use Rattle.std.proofs.lemmas.Result.{IfOk-weaker, IfErr-weaker}
use Rattle.lan_model.specs.PlainTable.{column_of, row_of}
use Rattle.lan_rows.proofs.RowRoom.{rows_have_room}
use Rattle.lan_rows.proofs.Unnumbered.{columns_row}
use Rattle.lan_rows.proofs.reading.read_row.Goals as goal

pub returns-clause-ok : goal.returns-clause-ok
returns-clause-ok c =
    let same = columns_row c.args.fields.now c.args.line.now in
    let ok = rw c.as_slice.ensures at c.read_fields.ensures.ok in
    IfOk-weaker c.read_fields.result _ _ (λ row is. same ∙ is) ok

pub returns-clause-err : goal.returns-clause-err
returns-clause-err c =
    let same = columns_row c.args.fields.now c.args.line.now in
    let err = rw c.as_slice.ensures at c.read_fields.ensures.err in
    IfErr-weaker c.read_fields.result _ _ (λ e either. elim either [ inl memory ↦ inl memory | inr is ↦ inr (ap result_err (same ∙ is)) ]) err

pub returns-clause-room : goal.returns-clause-room
returns-clause-room c = λ columns.
    let same = columns_row c.args.fields.now c.args.line.now in
    let ok = rw c.as_slice.ensures at c.read_fields.ensures.ok in
    IfOk-weaker c.read_fields.result _ _ (λ row is. rows_have_room (map column_of c.args.fields.now) c.args.line.now (row_of row) columns (same ∙ is)) ok
