-- The words of a page that is written.
use Rattle.std.proofs.Common.{◌≡◌, ◌∙◌, ℕ, ◌+◌, ◌-◌, ◌*◌, ◌^◌, ◌<◌, ◌≤◌, List, [], ◌∷◌, length, map, cond, All, refl, ap, subst, sym, arith, ltb-true, ltb-false, Bool, true, false}
use Rattle.std.specs.Int.{w16}
use Rattle.std.proofs.lemmas.List.{length-map}
use Rattle.std.proofs.lemmas.List.Folds.{flat_map-map}
use Rattle.lan_bytes.specs.Numbers.{low_first, numbers_of}
use Rattle.lan_model.specs.Leaves.{plain_leaf}
use Rattle.lan_levels.specs.PlainSlots.{PlainSlot}
use Rattle.lan_levels.specs.Chunks.{small_chunks, slots_ahead, bytes_ahead, AreChunks, AreWhole}
use Rattle.lan_levels.specs.ChunkRows.{slots_of_chunk, SaysRows}
use Rattle.lan_levels.specs.ChunkForm.{ChunkForm, has_reps, written_chunk_form}
use Rattle.lan_levels.specs.ChunkSlots.{IsChunk}
use Rattle.lan_levels.specs.MiniSlots.{bytes_of_chunk, AreChunkSlots, HasIndex}
use Rattle.lan_levels.specs.MiniWritten.{ChunkPart, AreParts, word_of, words_bytes, content_bytes, index_bytes, number_bytes}
use Rattle.lan_mini.specs.Building.{CanChunk}
use Rattle.lan_mini.specs.Inverse.{PagesAreRead}
use Rattle.lan_mini.proofs.HeaderBack.{numbers_back}
use Rattle.lan_mini.proofs.Sizes.{numbers_len}
use Rattle.lan_mini.proofs.ChunkBack.{chunk_back}
use Rattle.lan_mini.proofs.Inverse.{lists_few, states_few, stored_few}
use Rattle.lan_mini.proofs.Leaves.{can_chunks}
use Rattle.lan_mini.proofs.PartsBack.{found, worded}
use Rattle.lan_mini.proofs.IndexBack.{index_says, index_len}
use lib.Dec.{ltb}

-- parts of some slots
parts_some : (f : ChunkForm) (ps : List ChunkPart) (slots : List PlainSlot) → AreParts small_chunks f slots ps → 0 < length slots → 0 < length ps
parts_some f [] slots h some = let none = ap (length {A = PlainSlot}) h in absurd (omega arith)
parts_some f (p ∷ ps) slots h some = omega arith

cut_by_words : (f : ChunkForm) (ps : List ChunkPart) (slots : List PlainSlot) → f.lists < 2 ^ 16 → length f.states ≤ 2 ^ 16 → All (CanChunk f) slots → 0 < length slots → AreParts small_chunks f slots ps
    → AreWhole small_chunks (words_bytes small_chunks ps) × AreChunkSlots small_chunks f (numbers_of w16 (words_bytes small_chunks ps)) (content_bytes ps) slots
cut_by_words f [] slots lists states can some h = let none = ap (length {A = PlainSlot}) h in absurd (omega arith)
cut_by_words f (p ∷ ps) slots lists states can some h =
    let all = p ∷ ps in
    let ws = map word_of all in
    let w = worded f p ps slots h can in
    let bytes : words_bytes small_chunks all ≡ number_bytes 2 ws = sym (flat_map-map (low_first 2) word_of all) in
    let len = numbers_len ws in
    let count : length ws ≡ length all = length-map all word_of in
    let back : numbers_of w16 (words_bytes small_chunks all) ≡ ws = ap (numbers_of w16) bytes ∙ numbers_back ws w.small len in
    let size = ap (length {A = ℕ}) bytes in
    let some_words = ap (length {A = ℕ}) back in
    let ahead = ap (λ (k : ℕ). slots_ahead ws (k - 1)) count in
    let some_left : slots_ahead ws (length ws - 1) < length slots = omega (arith, w.some) in
    let few_left : length slots ≤ slots_ahead ws (length ws - 1) + 2 ^ 12 = omega (arith, w.few) in
    let chunks : AreChunks small_chunks (length slots) (length (content_bytes all)) ws = record {
      some = omega arith;
      slots_are = record { logs = λ n lt. w.logs n (omega arith); some = some_left; few = few_left };
      bytes_are = record { each = λ n lt. w.each n (omega arith); all = ap (bytes_ahead ws) count ∙ w.all };
    } in
    let each : (n : ℕ) → n < length ws → IsChunk small_chunks f (bytes_of_chunk ws (content_bytes all) n) (slots_of_chunk ws slots n) = λ n lt.
    let one = found f all slots n h can (omega arith) in
    let is = one.is in
    let chunk = chunk_back f one.part.slots one.part.bytes lists states is.can is.few (stored_few f one.part.slots is.fits) is.written in
    subst (λ (bs : List ℕ). IsChunk small_chunks f bs (slots_of_chunk ws slots n)) (sym one.bytes_are) (subst (IsChunk small_chunks f one.part.bytes) (sym one.slots_are) chunk) in
    let cut : AreChunkSlots small_chunks f ws (content_bytes all) slots = record { chunks = chunks; each = each } in
    let whole : AreWhole small_chunks (words_bytes small_chunks all) = record { whole = omega arith; some = omega arith } in
    (whole, subst (λ (ns : List ℕ). AreChunkSlots small_chunks f ns (content_bytes all) slots) (sym back) cut)

first_is : (a b c d : List ℕ) (m n : List (List ℕ)) → a ∷ c ∷ m ≡ b ∷ d ∷ n → a ≡ b
first_is a b c d m n e = cc

second_is : (a b c d : List ℕ) (m n : List (List ℕ)) → a ∷ c ∷ m ≡ b ∷ d ∷ n → c ≡ d
second_is a b c d m n e = cc

third_is : (a b c d : List ℕ) (m n : List (List ℕ)) → a ∷ c ∷ m ≡ b ∷ d ∷ n → m ≡ n
third_is a b c d m n e = cc

-- the index stands where there are list layers
has_index : (stored : Bool) (lists : ℕ) (ws index : List ℕ) (slots : List PlainSlot) → stored ≡ ltb 0 lists → length index ≡ 16 * length ws → SaysRows lists ws index slots → HasIndex lists ws slots (cond stored (index ∷ []) [])
has_index true lists ws index slots e size says = (ltb-true 0 lists (sym e), size, says)
has_index false lists ws index slots e size says = let none = ltb-false 0 lists (sym e) in omega arith

words_back : (f : ChunkForm) (ps : List ChunkPart) (slots : List PlainSlot) → All (CanChunk f) slots → 0 < length slots → AreParts small_chunks f slots ps → numbers_of w16 (words_bytes small_chunks ps) ≡ map word_of ps
words_back f [] slots can some h = let none = ap (length {A = PlainSlot}) h in absurd (omega arith)
words_back f (p ∷ ps) slots can some h =
    let w = worded f p ps slots h can in
    let ws = map word_of (p ∷ ps) in
    ap (numbers_of w16) (sym (flat_map-map (low_first 2) word_of (p ∷ ps))) ∙ numbers_back ws w.small (numbers_len ws)

pub pages_read : PagesAreRead
pages_read leaf slots rows words content more layers can short some starts h =
    let f = written_chunk_form leaf in
    let lists = lists_few leaf.layers in
    let states = states_few leaf.layers 0 in
    let chunk = can_chunks (plain_leaf leaf) f slots refl can short in
    let cut = cut_by_words f h.parts slots (omega arith) (omega arith) chunk some h.are in
    let w = first_is _ _ _ _ _ _ h.whole in
    let c = second_is _ _ _ _ _ _ h.whole in
    let m = third_is _ _ _ _ _ _ h.whole in
    let ws = map word_of h.parts in
    let back = ap (numbers_of w16) w ∙ words_back f h.parts slots chunk some h.are in
    let size : length (index_bytes f.lists h.parts) ≡ 16 * length ws = omega (arith, index_len f.lists h.parts, length-map h.parts word_of) in
    let index = has_index (has_reps f) f.lists ws (index_bytes f.lists h.parts) slots refl size (index_says f h.parts slots h.are chunk) in
    record {
      whole = subst (AreWhole small_chunks) (sym w) cut.0;
      chunks = subst (λ (ns : List ℕ). AreChunkSlots small_chunks f (numbers_of w16 ns) content slots) (sym w) (subst (λ (cs : List ℕ). AreChunkSlots small_chunks f (numbers_of w16 (words_bytes small_chunks h.parts)) cs slots) (sym c) cut.1);
      index = subst (λ (ns : List ℕ). HasIndex f.lists ns slots more) (sym back) (subst (HasIndex f.lists ws slots) (sym m) index);
      rows_are = starts;
    }
