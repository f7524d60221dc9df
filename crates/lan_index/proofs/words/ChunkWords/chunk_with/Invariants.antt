use Rattle.std.proofs.Common.{◌≡◌, ◌+◌}
use Rattle.lan_levels.specs.Chunks.{slots_ahead}
use Rattle.lan_index.proofs.words.ChunkWords.chunk_with.Given as goal

abbrev pub invariant-loop-i : goal.invariant-loop-i
invariant-loop-i l = l.left + slots_ahead l.self.words l.i ≡ l.slot
