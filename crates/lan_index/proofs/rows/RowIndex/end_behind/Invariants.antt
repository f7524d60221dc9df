use Rattle.std.proofs.Common.{◌≡◌, ◌<◌, ℕ}
use Rattle.lan_levels.specs.Chunks.{starts_at, lead_at}
use Rattle.lan_index.proofs.rows.RowIndex.end_behind.Given as goal

abbrev pub invariant-loop-n : goal.invariant-loop-n
invariant-loop-n l = record {
  leads : (k : ℕ) → l.first < k → k < l.n → 0 < lead_at l.self.index k;
  bare : (k : ℕ) → l.first < k → k < l.n → starts_at l.self.index k ≡ 0;
}
