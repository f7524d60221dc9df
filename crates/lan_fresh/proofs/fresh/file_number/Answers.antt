use Rattle.std.proofs.Common.{sym, ◌∙◌, ap, ◌++◌}
use Rattle.std.specs.Prelude.{codes}
use Rattle.lan_fresh.specs.Fresh.{file_number}
use Rattle.lan_fresh.proofs.Paths.{no_ending}
use Rattle.lan_fresh.proofs.fresh.file_number.Goals as goal

pub returns-in_err-digits : goal.returns-in_err-digits
returns-in_err-digits c = c.from_residual.ensures ∙ no_ending c.args.path.now c.in_err-digits.ensures.cases

pub returns : goal.returns
returns c =
    let ends = c.in_ok-digits.ensures.cases in
    let split = ends.1.1 ∙ ap (λ l. l ++ codes ".lance") (sym ends.2) in
    c.number_in.ensures ∙ ap file_number (sym split)
