use Rattle.std.proofs.Common.{ap, sym, arith}
use Rattle.lan_levels.specs.Chunks.{starts_at}
use Rattle.lan_index.specs.Runs.{Indexed}
use Rattle.lan_index.proofs.ChunkLemmas.{rows_none, rows_more}
use Rattle.lan_index.proofs.rows.RowIndex.first_with.Goals as goal

pub loop-n-init : goal.loop-n-init
loop-n-init c = record { before_is = sym (rows_none c.args.self.now.index); reached = omega arith }

pub loop-n-preserved : goal.loop-n-preserved
loop-n-preserved c =
    let index = c.args.self.now.index in
    let n = c.loop-n.n in
    let more = rows_more index n in
    let here = ap (λ (k : Indexed). starts_at k.index n) c.self.view_is in
    let before = c.loop-n.invariant.before_is in
    let reached = c.loop-n.invariant.reached in
    record { before_is = omega (arith, c.starts-starts.ensures); reached = omega arith }
