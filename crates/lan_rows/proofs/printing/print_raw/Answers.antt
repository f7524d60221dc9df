use Rattle.std.proofs.Common.{◌++◌, sym, ap, ◌∙◌}
use Rattle.std.proofs.lemmas.Result.{on_ok_weaker}
use Rattle.lan_rows.proofs.PrintingLemmas.{text_tokens, odd_tokens}
use Rattle.lan_rows.proofs.printing.print_raw.Goals as goal

pub returns-in-Ok-clause-ok : goal.returns-in-Ok-clause-ok
returns-in-Ok-clause-ok c =
    let is = text_tokens c.args.ty.now c.args.bytes.now c.in-Text.is c.in-Ok.ensures.cases.1 in
    let here = rw c.in-Ok.ensures.cases.0 at c.string.ensures.ok in
    on_ok_weaker c.string.result (λ e. e ∙ ap (λ ts. c.args.out.now.tokens ++ ts) (sym is)) here

pub returns-in-Err-clause-ok : goal.returns-in-Err-clause-ok
returns-in-Err-clause-ok c =
    let is = odd_tokens c.args.ty.now c.args.bytes.now c.in-Text.is c.in-Err.ensures.cases.0 in
    on_ok_weaker c.null.result (λ e. e ∙ ap (λ ts. c.args.out.now.tokens ++ ts) (sym is)) c.null.ensures.ok
