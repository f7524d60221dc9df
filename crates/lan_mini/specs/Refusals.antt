-- Why bytes are no chunk of so many slots.
use Rattle.std.specs.Prelude.{◌≡◌, ◌≢◌, ℕ, ◌<◌, ◌≤◌, ◌⊎◌, List, length}
use Rattle.lan_levels.specs.Chunks.{ChunkKind, small_chunks}
use Rattle.lan_levels.specs.ChunkForm.{ChunkForm, Storing, buffered, always}
use Rattle.lan_levels.specs.ChunkSlots.{header_number, header_end, buffer_end, reps_buffer, defs_buffer, values_buffer, values_in, reps_in, defs_in, value_count, IsLevelBuffer, HasBuffers, LevelFits, LevelsFit, AreStored}
use Rattle.lan_values.specs.Refusals as value
use Rattle.lan_values.specs.declared.fault.ValueFault.{ValueFault}
use Rattle.lan_mini.specs.declared.fault.ChunkFault.{ChunkFault}
use Rattle.lan_mini.specs.declared.fault.ChunkFault.TheVariants as fault

-- the buffer of that number is the first that passes the end, or is one of levels without a number for each slot
abbrev pub BufferFails : ChunkKind → ChunkForm → ℕ → List ℕ → ℕ → Type 0
BufferFails kind f n all k =
    let reps = reps_buffer kind f in
    let defs = defs_buffer kind f all in
    let values = values_buffer kind f all in
    ((k ≡ reps.number) × (IsLevelBuffer kind n all reps → ⊥))
    ⊎ ((IsLevelBuffer kind n all reps × (k ≡ defs.number) × (IsLevelBuffer kind n all defs → ⊥))
    ⊎ (IsLevelBuffer kind n all reps × IsLevelBuffer kind n all defs × (k ≡ values.number) × (length all < buffer_end kind all values)))

abbrev pub ValuesStand : Storing → ℕ → List ℕ → ValueFault → Type 0
ValuesStand (buffered e) n bs v = value.Stands e n bs v
ValuesStand (always p) n bs v = ⊥

-- why the bytes are no chunk of `n` slots
abbrev pub Stands : ChunkKind → ChunkForm → ℕ → List ℕ → ChunkFault → Type 0
Stands kind f n all fault.Header = length all < header_end kind f
Stands kind f n all fault.Count = (header_end kind f ≤ length all) × (header_number kind all 0 ≢ n)
Stands kind f n all (fault.Buffer k) = (header_end kind f ≤ length all) × (header_number kind all 0 ≡ n) × BufferFails kind f n all k
Stands kind f n all (fault.Level i) =
    let reps = reps_in kind f n all in
    let defs = defs_in kind f n all in
    HasBuffers kind f n all × (i < n) × LevelsFit f reps defs i × (LevelFits f reps defs i → ⊥)
Stands kind f n all (fault.Value v) =
    let defs = defs_in kind f n all in
    HasBuffers kind f n all × LevelsFit f (reps_in kind f n all) defs n × ValuesStand f.values (value_count f defs) (values_in kind f all) v
Stands kind f n all fault.Extra =
    let defs = defs_in kind f n all in
    HasBuffers kind f n all × LevelsFit f (reps_in kind f n all) defs n × AreStored f.values (value_count f defs) (values_in kind f all)
    × (buffer_end kind all (values_buffer kind f all) ≢ length all)

-- why a chunk's buffers don't stand
abbrev pub BuffersStand : ChunkForm → ℕ → List ℕ → ChunkFault → Type 0
BuffersStand f n all fault.Header = Stands small_chunks f n all fault.Header
BuffersStand f n all fault.Count = Stands small_chunks f n all fault.Count
BuffersStand f n all (fault.Buffer k) = Stands small_chunks f n all (fault.Buffer k)
BuffersStand f n all _ = ⊥
