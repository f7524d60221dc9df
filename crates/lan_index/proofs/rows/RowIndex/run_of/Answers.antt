use Rattle.std.proofs.Common.{rules, ◌-◌, subst}
use Rattle.lan_levels.specs.Chunks.{small_chunks, AreChunks, IsRowIndex}
use Rattle.lan_index.specs.declared.run.Run.{Run}
use Rattle.lan_index.specs.Runs.{Indexed, IsRowRun}
use Rattle.lan_index.proofs.ChunkRuns.{run_is}
use Rattle.lan_index.proofs.rows.RowIndex.run_of.Goals as goal

pub returns-clause-bytes : goal.returns-clause-bytes
returns-clause-bytes c =
    let now = c.args.self.now in
    let fit = subst (λ (k : Indexed). IsRowIndex k.chunks.words k.chunks.slots k.rows k.index) c.self.view_is c.self.invariant.0 in
    let are = subst (λ (k : Indexed). AreChunks small_chunks k.chunks.slots k.chunks.bytes k.chunks.words) c.self.view_is c.front-at.ensures.chunks in
    let found : Run = record { first = c.first_with-first.result.0; past = c.end_of-past.result; skip = c.args.row - c.first_with-first.result.1; at = c.front-at.result.0; len = c.bytes_between.result } in
    let value : IsRowRun now.chunks.words now.index c.args.row found = search rules in
    run_is now.chunks.words now.index now.chunks.slots now.chunks.bytes c.args.row found are fit.leads value
