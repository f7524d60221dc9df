use Rattle.std.proofs.Common.{◌≡◌, ℕ, rules, sym, arith, below_more}
use Rattle.lan_levels.specs.Chunks.{word_slots, chunk_slots, starts_at, lead_at, LeadFits}
use Rattle.lan_index.proofs.ChunkLemmas.{so_none, next_slot}
use Rattle.lan_index.proofs.rows.bad_lead.Goals as goal

moved : (n : ℕ) {slots starts lead a b d : ℕ} → slots ≡ a → starts ≡ b → lead ≡ d → LeadFits n slots starts lead → LeadFits n a b d
moved n e f g h =
    let within = h.within in
    record {
      within = omega arith;
      bare = λ z. let same = h.bare (omega arith) in omega arith;
      front = λ z. let none = h.front z in omega arith;
    }

pub loop-n-init : goal.loop-n-init
loop-n-init c = record { first_is = λ _. sym (so_none word_slots c.args.words.now.words); fit = λ n less. absurd (omega arith) }

pub overflow_add-first : goal.overflow_add-first
overflow_add-first c = omega (arith, c.slots_at-slots.ensures.within)

pub loop-n-preserved : goal.loop-n-preserved
loop-n-preserved c =
    let ws = c.args.words.now.words in
    let slots = c.args.words.now.slots in
    let n = c.loop-n.n in
    let here = c.slots_at-slots.ensures.value in
    let fits : LeadFits n c.slots_at-slots.result c.starts.result c.lead.result = search rules in
    record {
      first_is = λ less.
          let next = next_slot ws slots n less in
          let before = c.loop-n.invariant.first_is (omega arith) in
          omega arith;
      fit = below_more (λ (k : ℕ). LeadFits k (chunk_slots ws slots k) (starts_at c.args.index.now k) (lead_at c.args.index.now k)) n c.loop-n.invariant.fit (moved n here c.starts.ensures c.lead.ensures fits);
    }
