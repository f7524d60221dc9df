use Rattle.std.proofs.Common.{◌∙◌, ap, rules}
use Rattle.lance_cli.specs.Options.{number_in}
use Rattle.lance_cli.proofs.OptionWords.{number_is}
use Rattle.lance_cli.proofs.options.number_word.Goals as goal

pub returns : goal.returns
returns c = number_is c.as_str.result.now c.number_of.result (search rules) c.number_of.ensures.some c.number_of.ensures.none ∙ ap number_in c.as_str.ensures.value
