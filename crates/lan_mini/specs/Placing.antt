-- A buffer of a chunk, in its place.
use Rattle.std.specs.Prelude.{◌≡◌, ℕ, ◌^◌, ◌<◌, ◌≤◌, List, length}
use Rattle.lan_levels.specs.Chunks.{small_chunks}
use Rattle.lan_levels.specs.ChunkSlots.{IsLevelBuffer, level_in, buffer_end}
use Rattle.lan_mini.specs.Cutting.{plain_buffer, level_list, FewLevels}
use Rattle.lan_mini.specs.declared.buffers.Place.{Place}
use Rattle.lan_mini.specs.declared.buffers.Level.{Level}
use Rattle.lan_mini.specs.declared.fault.ChunkFault.{ChunkFault}
use Rattle.lan_mini.specs.declared.fault.ChunkFault.TheVariants as fault

-- the buffer can begin there, behind a header
pub record IsPlaced (p : Place) (all : List ℕ) : Type 0 where
  pub few : p.number ≤ 2
  pub header : 8 ≤ length all
  pub within : p.at ≤ length all
  pub size : length all ≤ 2 ^ 63

-- the numbers are those of the buffer, which has one for each of `n` slots
pub record LevelIs (p : Place) (n : ℕ) (all : List ℕ) (l : Level) : Type 0 where
  pub is : IsLevelBuffer small_chunks n all (plain_buffer p)
  pub numbers : level_list n l.numbers ≡ level_in small_chunks all n (plain_buffer p)
  pub count : length (level_list n l.numbers) ≡ n
  pub few : FewLevels l.numbers
  pub end : l.end ≡ buffer_end small_chunks all (plain_buffer p)

-- the fault names a buffer that passes the end
abbrev pub EndPasses : Place → List ℕ → ChunkFault → Type 0
EndPasses p all (fault.Buffer k) = (k ≡ p.number) × (length all < buffer_end small_chunks all (plain_buffer p))
EndPasses p all _ = ⊥

-- the fault names a buffer that is none of a level of `n` slots
abbrev pub BadLevel : Place → ℕ → List ℕ → ChunkFault → Type 0
BadLevel p n all (fault.Buffer k) = (k ≡ p.number) × (IsLevelBuffer small_chunks n all (plain_buffer p) → ⊥)
BadLevel p n all _ = ⊥
