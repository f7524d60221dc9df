-- A chunk's parts as they are cut.
use Rattle.std.specs.Prelude.{◌≡◌, ℕ, ◌^◌, ◌<◌, ◌≤◌, ⊤, List, length, replicate}
use Rattle.std.specs.Int.{w16}
use Rattle.lan_bytes.specs.Numbers.{numbers_of}
use Rattle.lan_levels.specs.PlainSlots.{PlainPiece}
use Rattle.lan_levels.specs.Chunks.{small_chunks}
use Rattle.lan_levels.specs.ChunkForm.{ChunkForm}
use Rattle.lan_levels.specs.ChunkSlots.{Buffer, HasBuffers, LevelFits, LevelsFit, reps_in, defs_in, values_in, values_buffer, buffer_end, value_count}
use Rattle.lan_mini.specs.Form.{IsForm, plain_form}
use Rattle.lan_mini.specs.declared.levels.Levels.{Levels}
use Rattle.lan_mini.specs.declared.levels.Levels.TheVariants as levels
use Rattle.lan_mini.specs.declared.buffers.Place.{Place}
use Rattle.lan_mini.specs.declared.buffers.Buffers.{Buffers}
use Rattle.lan_mini.specs.declared.values.Values.{Values}
use Rattle.lan_mini.specs.declared.values.Values.TheVariants as values
use Rattle.lan_mini.specs.declared.parts.Parts.{Parts}
use Rattle.lan_mini.specs.declared.fault.ChunkFault.{ChunkFault}
use Rattle.lan_mini.specs.declared.fault.ChunkFault.TheVariants as fault

-- the numbers of `n` slots
abbrev pub level_list : ℕ → Levels → List ℕ
level_list n (levels.Stored bs) = numbers_of w16 bs.now
level_list n levels.Zero = replicate n 0

abbrev pub FewLevels : Levels → Type 0
FewLevels (levels.Stored bs) = length bs.now ≤ 2 ^ 63
FewLevels levels.Zero = ⊤

-- the fault names the first slot with a level that is too great
abbrev pub TooGreat : ChunkForm → List ℕ → List ℕ → ℕ → ChunkFault → Type 0
TooGreat f reps defs n (fault.Level i) = (i < n) × LevelsFit f reps defs i × (LevelFits f reps defs i → ⊥)
TooGreat f reps defs n _ = ⊥

abbrev pub plain_buffer : Place → Buffer
plain_buffer p = record { stored = p.stored; number = p.number; at = p.at }

-- the buffers of a chunk of `n` slots
pub record AreBuffers (f : ChunkForm) (n : ℕ) (all : List ℕ) (b : Buffers) : Type 0 where
  pub has : HasBuffers small_chunks f n all
  pub few : n < 2 ^ 16
  pub reps : level_list n b.reps ≡ reps_in small_chunks f n all
  pub defs : level_list n b.defs ≡ defs_in small_chunks f n all
  pub reps_count : length (level_list n b.reps) ≡ n
  pub defs_count : length (level_list n b.defs) ≡ n
  pub reps_few : FewLevels b.reps
  pub defs_few : FewLevels b.defs
  pub values : b.values.now ≡ values_in small_chunks f all
  pub end : b.end ≡ buffer_end small_chunks all (values_buffer small_chunks f all)

abbrev pub pieces_of : Values → List PlainPiece
pieces_of (values.Flat v) = v
pieces_of (values.Bools v) = v
pieces_of (values.Variable v) = v
pieces_of (values.Always v) = v

abbrev pub reps_of : Parts → List ℕ
reps_of p = level_list p.count p.reps

abbrev pub defs_of : Parts → List ℕ
defs_of p = level_list p.count p.defs

-- the parts are those of one chunk
pub record AreParts (p : Parts) : Type 0 where
  pub form : IsForm p.form
  pub few : p.count < 2 ^ 16
  pub reps_few : FewLevels p.reps
  pub defs_few : FewLevels p.defs
  pub reps : length (reps_of p) ≡ p.count
  pub defs : length (defs_of p) ≡ p.count
  pub values : value_count (plain_form p.form) (defs_of p) ≡ length (pieces_of p.values)
