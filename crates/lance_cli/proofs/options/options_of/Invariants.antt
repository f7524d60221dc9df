use Rattle.std.proofs.Common.{◌≡◌, length}
use Rattle.lance_cli.specs.Options.{options_in, plain_options}
use Rattle.lance_cli.proofs.OptionWords.{options_onto}
use Rattle.lance_cli.proofs.options.options_of.Given as goal

abbrev pub invariant-loop-rest : goal.invariant-loop-rest
invariant-loop-rest l = options_onto (plain_options l.options) l.rest ≡ options_in l.words

abbrev pub decreases-loop-rest : goal.decreases-loop-rest
decreases-loop-rest l = length l.rest
