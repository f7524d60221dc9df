use Rattle.std.proofs.Common.{◌≡◌, ◌+◌}
use Rattle.lan_levels.specs.Chunks.{bytes_ahead}
use Rattle.lan_index.proofs.words.ChunkWords.bytes_between.Given as goal

abbrev pub invariant-loop-i : goal.invariant-loop-i
invariant-loop-i l = bytes_ahead l.self.words l.first + l.len ≡ bytes_ahead l.self.words l.i
