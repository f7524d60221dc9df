use Rattle.std.proofs.Common.{rules}
use Rattle.lance_cli.specs.Options.{with_option}
use Rattle.lance_cli.proofs.options.Options.with_option.Goals as goal

pub returns-in-text : goal.returns-in-text
unfolding with_option
returns-in-text c = search rules

pub returns-in-text-2 : goal.returns-in-text-2
unfolding with_option
returns-in-text-2 c = search rules

pub returns-in_default : goal.returns-in_default
unfolding with_option
returns-in_default c = search rules
