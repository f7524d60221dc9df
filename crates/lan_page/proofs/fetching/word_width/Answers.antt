use Rattle.std.proofs.Common.{arith}
use Rattle.lan_levels.proofs.LayerCodes.{fitting_are, fitting_count}
use Rattle.lan_page.proofs.fetching.word_width.Goals as goal

pub greatest-requires-clause-few : goal.greatest-requires-clause-few
greatest-requires-clause-few c = omega (arith, fitting_count c.args.codes.now c.args.leaf.now.layers c.requires.codes)

pub greatest-requires-clause-codes : goal.greatest-requires-clause-codes
greatest-requires-clause-codes c = fitting_are c.args.codes.now c.args.leaf.now.layers c.requires.codes
