use Rattle.std.proofs.Common.{◌∙◌, ℕ, ap, sym, subst, arith}
use Rattle.lan_levels.specs.Chunks.{small_chunks}
use Rattle.lan_levels.specs.ChunkForm.{ChunkForm}
use Rattle.lan_levels.specs.ChunkSlots.{pieces_in, AreStored, IsChunk, woven}
use Rattle.lan_mini.specs.Form.{plain_form}
use Rattle.lan_mini.specs.Cutting.{level_list, pieces_of}
use Rattle.lan_mini.proofs.Opening.{Found, chunk_is}
use Rattle.lan_mini.proofs.Weaving.{woven_length}
use Rattle.lan_mini.proofs.view.ChunkView.open.Goals as goal

pub returns-clause-ok : goal.returns-clause-ok
returns-clause-ok c =
    let form = c.of-form.result in
    let f = plain_form form in
    let all = c.args.view.bytes in
    let n = c.args.slots in
    let b = c.in_ok-buffers.ensures.ok in
    let reps = level_list n c.in_ok-buffers.buffers.reps in
    let defs = level_list n c.in_ok-buffers.buffers.defs in
    let bytes = c.in_ok-buffers.buffers.values.now in
    let pieces = pieces_of c.in-Ok.values in
    let count = c.in_ok-count.ensures.count in
    let found : Found f n all reps defs bytes pieces = record {
      has = b.has;
      reps_are = b.reps;
      defs_are = b.defs;
      bytes_are = b.values;
      reps_count = b.reps_count;
      defs_count = b.defs_count;
      fit = c.in_ok-count.ensures.fit;
      stored = subst (λ (k : ℕ). AreStored f.values k bytes) count c.in-Ok.ensures.stored;
      pieces_are = c.in-Ok.ensures.ok ∙ ap (λ (k : ℕ). pieces_in f.values k bytes) count;
      whole = omega (arith, b.end, c.len.ensures.value);
    } in
    subst (λ (g : ChunkForm). IsChunk small_chunks g all (woven f reps defs pieces)) c.of-form.ensures.value (chunk_is f n all reps defs bytes pieces found)

pub returns-clause-count : goal.returns-clause-count
returns-clause-count c =
    let form = c.of-form.result in
    let f = plain_form form in
    let all = c.args.view.bytes in
    let n = c.args.slots in
    let b = c.in_ok-buffers.ensures.ok in
    let reps = level_list n c.in_ok-buffers.buffers.reps in
    let defs = level_list n c.in_ok-buffers.buffers.defs in
    woven_length f reps defs (pieces_of c.in-Ok.values) (b.reps_count ∙ sym b.defs_count) ∙ b.reps_count
