use Rattle.std.proofs.Common.{inl, inr, refl, ap, arith}
use Rattle.lan_levels.specs.Chunks.{starts_at}
use Rattle.lan_index.specs.Runs.{Indexed}
use Rattle.lan_index.proofs.ChunkLemmas.{rows_more}
use Rattle.lan_index.proofs.rows.RowIndex.end_of.Goals as goal

pub returns-then-row-before : goal.returns-then-row-before
returns-then-row-before c =
    let index = c.args.self.now.index in
    let n = c.args.first in
    let more = rows_more index n in
    let here = ap (λ (k : Indexed). starts_at k.index n) c.self.view_is in
    let before = c.requires.before in
    let from = c.requires.from in
    inl (omega (arith, c.starts-starts.ensures), refl)

pub returns-else-row-before : goal.returns-else-row-before
returns-else-row-before c =
    let index = c.args.self.now.index in
    let n = c.args.first in
    let more = rows_more index n in
    let here = ap (λ (k : Indexed). starts_at k.index n) c.self.view_is in
    let before = c.requires.before in
    let from = c.requires.from in
    let has = c.requires.has in
    inr (omega (arith, c.starts-starts.ensures), c.end_behind.ensures)
