use Rattle.std.proofs.Common.{◌≡◌}
use Rattle.lan_levels.specs.Chunks.{slots_ahead, bytes_ahead}
use Rattle.lan_index.proofs.words.ChunkWords.front.Given as goal

abbrev pub invariant-loop-i : goal.invariant-loop-i
invariant-loop-i l = record { at_is : l.at ≡ bytes_ahead l.self.words l.i; first_is : l.first ≡ slots_ahead l.self.words l.i }
