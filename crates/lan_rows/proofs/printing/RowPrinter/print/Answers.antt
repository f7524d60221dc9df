use Rattle.std.proofs.Common.{◌++◌, map, sym, ap, ◌∙◌}
use Rattle.std.proofs.lemmas.Result.{on_ok_weaker}
use Rattle.lan_model.specs.Plain.{plain_value}
use Rattle.lan_rows.proofs.Unnumbered.{columns_line}
use Rattle.lan_rows.proofs.printing.RowPrinter.print.Goals as goal

pub returns-clause-ok : goal.returns-clause-ok
returns-clause-ok c =
    let same = columns_line c.self.inside.fields.now (map plain_value c.args.row.now) in
    let line = rw (c.as_slice.ensures, c.as_slice-2.ensures) at c.in_ok-self-inside.ensures in
    rw (← c.self.view_is) (on_ok_weaker c.extend.result (λ is. is ∙ ap (λ line. c.args.out.now ++ line) (c.as_slice-3.ensures ∙ line ∙ sym same)) c.extend.ensures.ok)
