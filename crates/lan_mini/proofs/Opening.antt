-- A chunk whose parts stand.
use Rattle.std.proofs.Common.{◌≡◌, ◌∙◌, ℕ, List, length, ap, ap₂, sym, subst}
use Rattle.lan_levels.specs.PlainSlots.{PlainPiece, PlainSlot}
use Rattle.lan_levels.specs.Chunks.{small_chunks}
use Rattle.lan_levels.specs.ChunkForm.{ChunkForm}
use Rattle.lan_levels.specs.ChunkSlots.{woven, value_count, pieces_in, reps_in, defs_in, values_in, values_buffer, buffer_end, slots_in, HasBuffers, LevelsFit, AreStored, IsChunkOf, IsChunk}
use Rattle.lan_mini.proofs.Weaving.{woven_length}

-- what was found of the bytes of `n` slots
pub record Found (f : ChunkForm) (n : ℕ) (all reps defs bytes : List ℕ) (pieces : List PlainPiece) : Type 0 where
  pub has : HasBuffers small_chunks f n all
  pub reps_are : reps ≡ reps_in small_chunks f n all
  pub defs_are : defs ≡ defs_in small_chunks f n all
  pub bytes_are : bytes ≡ values_in small_chunks f all
  pub reps_count : length reps ≡ n
  pub defs_count : length defs ≡ n
  pub fit : LevelsFit f reps defs n
  pub stored : AreStored f.values (value_count f defs) bytes
  pub pieces_are : pieces ≡ pieces_in f.values (value_count f defs) bytes
  pub whole : buffer_end small_chunks all (values_buffer small_chunks f all) ≡ length all

chunk_of : (f : ChunkForm) (n : ℕ) (all : List ℕ) (slots : List PlainSlot) → n ≡ length slots → slots ≡ slots_in small_chunks f n all → IsChunkOf small_chunks f n all → IsChunk small_chunks f all slots
chunk_of f n all slots e are is = record {
  is = subst (λ (k : ℕ). IsChunkOf small_chunks f k all) e is;
  are = are ∙ ap (λ (k : ℕ). slots_in small_chunks f k all) e;
}

pub count_is : (f : ChunkForm) (n : ℕ) (all reps defs bytes : List ℕ) (pieces : List PlainPiece) → Found f n all reps defs bytes pieces → length (woven f reps defs pieces) ≡ n
count_is f n all reps defs bytes pieces h = woven_length f reps defs pieces (h.reps_count ∙ sym h.defs_count) ∙ h.reps_count

pub chunk_is : (f : ChunkForm) (n : ℕ) (all reps defs bytes : List ℕ) (pieces : List PlainPiece) → Found f n all reps defs bytes pieces → IsChunk small_chunks f all (woven f reps defs pieces)
chunk_is f n all reps defs bytes pieces h =
    let P : List ℕ → List ℕ → Type 0 = λ ds bs. AreStored f.values (value_count f ds) bs in
    let V : List ℕ → List ℕ → List PlainPiece = λ ds bs. pieces_in f.values (value_count f ds) bs in
    let fit = subst (λ (rs : List ℕ). LevelsFit f rs (defs_in small_chunks f n all) n) h.reps_are (subst (λ (ds : List ℕ). LevelsFit f reps ds n) h.defs_are h.fit) in
    let stored = subst (P (defs_in small_chunks f n all)) h.bytes_are (subst (λ (ds : List ℕ). P ds bytes) h.defs_are h.stored) in
    let pieces_are = h.pieces_are ∙ ap₂ V h.defs_are h.bytes_are in
    let is : IsChunkOf small_chunks f n all = record { buffers = h.has; levels = fit; values = stored; whole = h.whole } in
    chunk_of f n all (woven f reps defs pieces) (sym (count_is f n all reps defs bytes pieces h))
    (ap₂ (λ (rs ds : List ℕ). woven f rs ds pieces) h.reps_are h.defs_are ∙ ap (woven f (reps_in small_chunks f n all) (defs_in small_chunks f n all)) pieces_are) is
