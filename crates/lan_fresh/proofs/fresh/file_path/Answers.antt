use Rattle.std.proofs.Common.{◌∙◌, sym, ap, ◌++◌}
use Rattle.std.specs.Prelude.{codes}
use Rattle.std.specs.Fmt.{styled_decimal}
use Rattle.lan_fresh.proofs.Paths.{path_is, zeros_in}
use Rattle.lan_fresh.proofs.fresh.file_path.Goals as goal

pub returns : goal.returns
returns c = c.from_string.ensures ∙ c.in_ok-path.ensures.ok ∙ ap (λ s. styled_decimal s c.args.number ++ codes ".lance") c.laid_out.ensures
    ∙ ap (λ l. l ++ codes ".lance") (zeros_in c.args.number) ∙ sym (path_is c.args.number)
