use Rattle.std.proofs.Common.{arith}
use Rattle.lan_levels.proofs.Places.{all_read}
use Rattle.lan_levels.proofs.cursor.unread.Goals as goal

pub returns-clause-none : goal.returns-clause-none
returns-clause-none c = all_read c.args.runs.now c.args.places.now c.loop-leaf.leaf (omega arith) c.loop-leaf.invariant
