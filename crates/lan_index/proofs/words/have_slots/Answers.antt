use Rattle.std.proofs.Common.{◌≡◌, ◌∙◌, ◌%◌, ◌≤◌, ℕ, inl, inr, ap, arith, below_more}
use Rattle.std.specs.Prelude.{slice_index}
use Rattle.lan_levels.specs.Chunks.{word_slots, slots_log}
use Rattle.lan_index.proofs.ChunkLemmas.{so_none, so_more, too_many}
use Rattle.lan_index.proofs.words.have_slots.Goals as goal
use Rattle.lan_index.proofs.words.have_slots.Goals.{then-word-gt-TOP-via-then-word-gt-TOP, then-word-gt-TOP-via-else-word-gt-TOP+then-left-slots_of}

pub loop-i-init : goal.loop-i-init
loop-i-init c = let none = so_none word_slots c.args.words.now in record { count = omega arith; logs = λ n less. absurd (omega arith) }

pub returns-then-word-gt-TOP-clause-no : goal.returns-then-word-gt-TOP-clause-no
returns-then-word-gt-TOP-clause-no c = λ _.
    let ws = c.args.words.now in
    let i = c.loop-i.i in
    let w : ℕ = c.word_at-word.result in
    let is : w ≡ slice_index ws i = c.word_at-word.ensures in
    elim c.then-word-gt-TOP.branch [
      | then-word-gt-TOP-via-then-word-gt-TOP v ↦
          let same : w % 16 ≡ slots_log (slice_index ws i) = ap slots_log is in
          inl (i, omega arith, omega (arith, v.if-word-gt-TOP.true))
      | then-word-gt-TOP-via-else-word-gt-TOP+then-left-slots_of v ↦
          let same = v.slots_of.ensures.value ∙ ap word_slots is in
          inr (inl (too_many ws c.args.slots i c.loop-i.left c.loop-i.invariant.count (omega arith) (omega (arith, v.if-left-slots_of.true))))
    ]

pub loop-i-preserved : goal.loop-i-preserved
loop-i-preserved c =
    let ws = c.args.words.now in
    let i = c.loop-i.i in
    let is = c.word_at-word.ensures in
    let more = so_more word_slots ws i in
    let same = c.slots_of-left.ensures.value ∙ ap word_slots is in
    let first = c.slots_of.ensures.value ∙ ap word_slots is in
    let log = ap slots_log is in
    let count = c.loop-i.invariant.count in
    record {
      count = omega arith;
      logs = below_more (λ (n : ℕ). slots_log (slice_index ws n) ≤ 12) i c.loop-i.invariant.logs (omega arith);
    }
