-- Chunks of a leaf that are written are read.
use Rattle.std.proofs.Common.{ℕ, ◌+◌, ◌*◌, ◌^◌, ◌<◌, ◌≤◌, true, false, cond, List, [], ◌∷◌, length, map, refl, arith, length-append}
use Rattle.lan_bytes.specs.Padding.{padded}
use Rattle.lan_model.specs.declared.tree.Layer.{Layer}
use Rattle.lan_model.specs.declared.tree.Layer.TheVariants as layer
use Rattle.lan_model.specs.Leaves.{plain_leaf}
use Rattle.lan_levels.specs.SlotsOf.{lists_in}
use Rattle.lan_levels.specs.Codes.{layer_code, code_states, states_from}
use Rattle.lan_levels.specs.PlainSlots.{PlainSlot}
use Rattle.lan_levels.specs.Values.{flat, bools, variable}
use Rattle.lan_levels.specs.Chunks.{small_chunks}
use Rattle.lan_levels.specs.ChunkForm.{ChunkForm, Storing, buffered, always, has_buffer, written_chunk_form}
use Rattle.lan_levels.specs.MiniWritten.{carried, values_len, buffer_size, stored_size, chunk_size}
use Rattle.lan_mini.specs.Inverse.{ChunksAreRead}
use Rattle.lan_mini.proofs.ChunkBack.{chunk_back}
use Rattle.lan_mini.proofs.Leaves.{can_chunks}

pub lists_few : (ls : List Layer) → lists_in ls ≤ length ls
lists_few [] = omega arith
lists_few (layer.Item n ∷ ls) = let more = lists_few ls in omega arith
lists_few (layer.Struct n m ∷ ls) = let more = lists_few ls in omega arith
lists_few (layer.List n ∷ ls) = let more = lists_few ls in omega arith

code_few : (l : Layer) (k : ℕ) → length (code_states (layer_code l) k) ≤ 2
code_few (layer.Item true) k = omega arith
code_few (layer.Item false) k = omega arith
code_few (layer.Struct true m) k = omega arith
code_few (layer.Struct false m) k = omega arith
code_few (layer.List true) k = omega arith
code_few (layer.List false) k = omega arith

pub states_few : (ls : List Layer) (k : ℕ) → length (states_from (map layer_code ls) k) ≤ 2 * length ls
states_few [] k = omega arith
states_few (l ∷ ls) k = let one = code_few l k in let more = states_few ls (k + 1) in omega (arith, length-append (code_states (layer_code l) k) (states_from (map layer_code ls) (k + 1)))

buffer_few : (st : Storing) (n len : ℕ) → buffer_size st n len ≤ cond (has_buffer st) (padded (buffer_size st n len)) 0
buffer_few (buffered (flat w)) n len = omega arith
buffer_few (buffered bools) n len = omega arith
buffer_few (buffered variable) n len = omega arith
buffer_few (always p) n len = omega arith

pub stored_few : (f : ChunkForm) (slots : List PlainSlot) → chunk_size small_chunks f slots ≤ 32768 → stored_size f slots < 2 ^ 16
stored_few f slots fits = let few = buffer_few f.values (length (carried f slots)) (values_len f.values (carried f slots)) in omega arith

pub chunks_read : ChunksAreRead
chunks_read leaf slots all layers can short few fits h =
    let f = written_chunk_form leaf in
    let lists = lists_few leaf.layers in
    let states = states_few leaf.layers 0 in
    chunk_back f slots all (omega arith) (omega arith) (can_chunks (plain_leaf leaf) f slots refl can short) few (stored_few f slots fits) h
