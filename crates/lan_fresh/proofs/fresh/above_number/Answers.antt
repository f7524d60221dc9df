use Rattle.std.proofs.Common.{◌∙◌, sym, arith}
use Rattle.lan_fresh.proofs.Paths.{number_below}
use Rattle.lan_fresh.proofs.fresh.above_number.Goals as goal

pub overflow_add-result : goal.overflow_add-result
overflow_add-result c = omega (arith, number_below c.args.path.now c.in-Some.number (sym c.file_number.ensures ∙ c.in-Some.is))

pub returns-in-Some-clause-range : goal.returns-in-Some-clause-range
returns-in-Some-clause-range c = let below = number_below c.args.path.now c.in-Some.number (sym c.file_number.ensures ∙ c.in-Some.is) in (omega arith, omega (arith, below))
