use Rattle.std.proofs.Common.{rules, ◌≡◌, ◌∙◌, map, [], ◌∷◌, ◌++◌}
use Rattle.std.proofs.lemmas.Result.{err_from_is_err_and}
use Rattle.lan_model.specs.Plain.{plain_value}
use Rattle.lan_model.specs.PlainTable.{column_of}
use Rattle.lan_rows.specs.Line.{line_of}
use Rattle.lance_cli.proofs.SentRows.{sends_later, row_waits, lines_more, passes_row}
use Rattle.lance_cli.proofs.sending.print_row.Goals as goal

pub returns-in_err-print-clause-passes : goal.returns-in_err-print-clause-passes
returns-in_err-print-clause-passes g c = λ pending is.
    let p = err_from_is_err_and c.from_residual.result c.from_residual.ensures.1 in
    rw (p.1, p.2) (_, sends_later _ _ pending _)

pub returns-then-len-lt-PIECE-clause-passes : goal.returns-then-len-lt-PIECE-clause-passes
returns-then-len-lt-PIECE-clause-passes g c = λ pending is.
    let line = line_of (map column_of c.args.printer.now) in
    let row = map plain_value c.args.row.now in
    let grew : c.print.new.out ≡ c.args.waiting.now ++ line row = search rules in
    row_waits line row pending (g.O.Sink.held c.args.out.now) c.args.waiting.now c.print.new.out is grew

pub returns-clause-passes : goal.returns-clause-passes
returns-clause-passes g c = λ pending is.
    let line = line_of (map column_of c.args.printer.now) in
    let row = map plain_value c.args.row.now in
    let grew : c.print.new.out ≡ c.args.waiting.now ++ line row = search rules in
    passes_row line row pending c.flush.new.waiting (g.O.Sink.held c.args.out.now) (g.O.Sink.held c.flush.new.out) c.flush.result (c.flush.ensures.passes line (pending ++ row ∷ []) (grew ∙ lines_more line row pending c.args.waiting.now is))
