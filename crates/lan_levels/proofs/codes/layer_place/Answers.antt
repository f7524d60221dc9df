use Rattle.std.proofs.Common.{arith}
use Rattle.lan_levels.proofs.StateNumbers.{searched_more, searched_all}
use Rattle.lan_levels.proofs.codes.layer_place.Goals as goal

pub loop-k-preserved : goal.loop-k-preserved
loop-k-preserved c =
    searched_more c.args.codes.now c.args.state c.loop-k.k c.loop-k.count c.taken-count.result (omega arith) c.loop-k.invariant c.taken-count.ensures.few
    (c.taken-count.ensures.count c.loop-k.k) c.in-None.ensures.none

pub returns-clause-none : goal.returns-clause-none
returns-clause-none c = searched_all c.args.codes.now c.args.state c.loop-k.k c.loop-k.count (omega arith) c.loop-k.invariant
