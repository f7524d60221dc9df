use Rattle.std.proofs.Common.{◌∙◌, ◌≤◌, ℕ, inr, ap, arith, below_more}
use Rattle.std.specs.Prelude.{slice_index}
use Rattle.lan_levels.specs.Chunks.{word_bytes}
use Rattle.lan_index.proofs.ChunkLemmas.{so_none, so_more, too_long}
use Rattle.lan_index.proofs.words.have_bytes.Goals as goal

pub loop-i-init : goal.loop-i-init
loop-i-init c = let none = so_none word_bytes c.args.words.now in record { count = omega arith; each = λ n less. absurd (omega arith) }

pub returns-then-left-len-clause-no : goal.returns-then-left-len-clause-no
returns-then-left-len-clause-no c = λ _.
    let ws = c.args.words.now in
    let i = c.loop-i.i in
    let same = c.bytes_of-len.ensures.value ∙ ap word_bytes c.word_at.ensures in
    inr (too_long ws c.args.bytes i c.loop-i.left c.loop-i.invariant.count (omega arith) (omega arith))

pub loop-i-preserved : goal.loop-i-preserved
loop-i-preserved c =
    let ws = c.args.words.now in
    let i = c.loop-i.i in
    let more = so_more word_bytes ws i in
    let same = c.bytes_of-len.ensures.value ∙ ap word_bytes c.word_at.ensures in
    let few = c.bytes_of-len.ensures.few in
    let count = c.loop-i.invariant.count in
    record {
      count = omega arith;
      each = below_more (λ (n : ℕ). word_bytes (slice_index ws n) ≤ 32768) i c.loop-i.invariant.each (omega arith);
    }
