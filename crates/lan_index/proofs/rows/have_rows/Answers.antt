use Rattle.std.proofs.Common.{◌<◌, arith}
use Rattle.lan_levels.specs.Chunks.{starts_at}
use Rattle.lan_index.proofs.ChunkLemmas.{rows_none, rows_more, too_many_rows}
use Rattle.lan_index.proofs.rows.have_rows.Goals as goal

pub loop-n-init : goal.loop-n-init
loop-n-init c = let none = rows_none c.args.index.now in omega arith

pub returns-then-left-starts-clause-no : goal.returns-then-left-starts-clause-no
returns-then-left-starts-clause-no c = λ _ e.
    let less : c.loop-n.left < starts_at c.args.index.now c.loop-n.n = omega (arith, c.starts-starts.ensures) in
    too_many_rows c.args.index.now c.args.count c.loop-n.n c.loop-n.left c.args.rows c.loop-n.invariant (omega arith) less e

pub loop-n-preserved : goal.loop-n-preserved
loop-n-preserved c =
    let more = rows_more c.args.index.now c.loop-n.n in
    let before = c.loop-n.invariant in
    omega (arith, c.starts-starts.ensures)
