use Rattle.std.proofs.Common.{◌∙◌, ap, arith}
use Rattle.std.specs.Prelude.{slice_index}
use Rattle.lan_levels.specs.Chunks.{word_slots}
use Rattle.lan_index.specs.Runs.{Chunked}
use Rattle.lan_index.proofs.ChunkLemmas.{so_none, so_more}
use Rattle.lan_index.proofs.words.ChunkWords.chunk_with.Goals as goal

pub loop-i-init : goal.loop-i-init
loop-i-init c = let none = so_none word_slots c.args.self.now.words in omega arith

pub loop-i-preserved : goal.loop-i-preserved
loop-i-preserved c =
    let ws = c.args.self.now.words in
    let i = c.loop-i.i in
    let more = so_more word_slots ws i in
    let words = ap (λ (k : Chunked). word_slots (slice_index k.words i)) c.self.view_is in
    let same = c.slots_of-slots.ensures.value ∙ ap word_slots c.word_at.ensures ∙ words in
    let before = c.loop-i.invariant in
    omega arith
