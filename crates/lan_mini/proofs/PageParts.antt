-- A page that grows chunk by chunk.
use Rattle.std.proofs.Common.{◌≡◌, ◌∙◌, ℕ, ◌+◌, ◌<◌, ◌≤◌, Bool, true, false, cond, IsTrue, List, [], ◌∷◌, ◌++◌, length, All, refl, ap, ap₂, subst, sym, arith, append_assoc}
use Rattle.std.specs.Prelude.{flat_map}
use Rattle.std.proofs.lemmas.List.{append-nil}
use Rattle.std.proofs.lemmas.Grind.{flat_map-append}
use Rattle.lan_bytes.specs.Numbers.{low_first}
use Rattle.lan_levels.specs.PlainSlots.{PlainSlot}
use Rattle.lan_levels.specs.ZipSlots.{starts}
use Rattle.lan_levels.specs.ZipRows.{slots_before}
use Rattle.lan_levels.specs.Chunks.{small_chunks}
use Rattle.lan_levels.specs.ChunkForm.{ChunkForm, has_reps}
use Rattle.lan_levels.specs.MiniWritten.{ChunkPart, IsWrittenChunk, IsNext, AreParts, word_of, words_bytes, content_bytes, index_bytes, chunk_size, IsWrittenMini}
use Rattle.lan_mini.specs.declared.cutting.Cut.{Cut}
use Rattle.lan_mini.specs.declared.page.Page.{Page}
use Rattle.lan_mini.specs.Building.{CanChunk, IsCut, range}
use Rattle.lan_mini.specs.Pages.{Built, IsEmpty, PutPart}
use Rattle.lan_mini.proofs.Places.{header_is}
use Rattle.lan_mini.proofs.Ranges.{range_join, range_length, range_none}
use Rattle.lan_mini.proofs.Sizes.{written_size}

pub chunk_len : (f : ChunkForm) (slots : List PlainSlot) (bytes : List ℕ) → All (CanChunk f) slots → IsWrittenChunk small_chunks f slots bytes → length bytes ≡ chunk_size small_chunks f slots
chunk_len f slots bytes h w = ap (length {A = ℕ}) w.is ∙ written_size f slots w.defs h w.numbered

pub chunk_some : (f : ChunkForm) (slots : List PlainSlot) → 8 ≤ chunk_size small_chunks f slots
chunk_some f slots = let head = header_is f in omega arith

pub none_built : (f : ChunkForm) (slots : List PlainSlot) (p : Page) → IsEmpty p → Built f slots slots p
none_built f slots p e = record { parts = []; are = λ later h. h; words = e.words; content = e.content; index = λ _. e.index }

-- what each part gives, and one part more
each_more : (g : ChunkPart → List ℕ) (parts : List ChunkPart) (p : ChunkPart) (old new : List ℕ) → old ≡ flat_map g parts → new ≡ old ++ g p → new ≡ flat_map g (parts ++ p ∷ [])
each_more g parts p old new o n = n ∙ ap (λ (bs : List ℕ). bs ++ g p) o ∙ ap (λ (bs : List ℕ). flat_map g parts ++ bs) (sym (append-nil (g p))) ∙ sym (flat_map-append g parts (p ∷ []))

pub built_more : (f : ChunkForm) (xs : List PlainSlot) (from at to : ℕ) (cut : Cut) (old new : Page) → at ≤ to → to ≤ length xs → IsCut f (range xs at to) cut → PutPart f (range xs at (at + cut.count)) cut.log old new
    → Built f (range xs from to) (range xs at to) old → Built f (range xs from to) (range xs (at + cut.count) to) new
built_more f xs from at to cut old new le end c put b =
    let n = cut.count in
    let size = range_length xs at to le end in
    let within : at + n ≤ to = omega (arith, c.within) in
    let count : length (range xs at (at + n)) ≡ n = range_length xs at (at + n) (omega arith) (omega arith) ∙ omega arith in
    let some : 0 < length (range xs at (at + n)) = omega (arith, c.some) in
    let part : ChunkPart = record { slots = range xs at (at + n); log = cut.log; bytes = put.bytes } in
    let next : IsNext small_chunks f (range xs at to) cut.log (length (range xs at (at + n))) = subst (IsNext small_chunks f (range xs at to) cut.log) (sym count) c.next in
    let split : range xs at to ≡ range xs at (at + n) ++ range xs (at + n) to = sym (range_join xs at (at + n) to (omega arith) within) in
    let entry : ChunkPart → List ℕ = λ p. low_first 8 (starts f.lists p.slots) ++ low_first 8 (length (slots_before f.lists 0 p.slots)) in
    let word : ChunkPart → List ℕ = λ p. low_first 2 (word_of p) in
    let content : ChunkPart → List ℕ = λ p. p.bytes in
    record {
      parts = b.parts ++ part ∷ [];
      are = λ later h. subst (AreParts small_chunks f (range xs from to)) (sym (append_assoc b.parts (part ∷ []) later)) (b.are (part ∷ later) (some, next, put.is, (range xs (at + n) to, split, h)));
      words = each_more word b.parts part old.words new.words b.words put.words;
      content = each_more content b.parts part old.content new.content b.content put.content;
      index = λ t. each_more entry b.parts part old.index new.index (b.index t) (put.index t);
    }

pub all_built : (f : ChunkForm) (xs : List PlainSlot) (from at to : ℕ) (p : Page) → at ≡ to → Built f (range xs from to) (range xs at to) p → Built f (range xs from to) [] p
all_built f xs from at to p e b = subst (λ (left : List PlainSlot). Built f (range xs from to) left p) (ap (λ (k : ℕ). range xs k to) e ∙ range_none xs to) b

indexed : (b : Bool) (xs ys : List ℕ) → (IsTrue b → xs ≡ ys) → cond b (xs ∷ []) [] ≡ cond b (ys ∷ []) []
indexed true xs ys e = ap (λ (zs : List ℕ). zs ∷ []) (e refl)
indexed false xs ys e = refl

pub mini_is : (f : ChunkForm) (slots : List PlainSlot) (p : Page) (buffers : List (List ℕ)) → Built f slots [] p → buffers ≡ p.words ∷ p.content ∷ cond (has_reps f) (p.index ∷ []) [] → IsWrittenMini small_chunks f slots buffers
mini_is f slots p buffers b e = record {
  parts = b.parts;
  are = subst (AreParts small_chunks f slots) (append-nil b.parts) (b.are [] refl);
  whole = e ∙ ap₂ (λ (w c : List ℕ). w ∷ c ∷ cond (has_reps f) (p.index ∷ []) []) b.words b.content ∙ ap (λ (more : List (List ℕ)). words_bytes small_chunks b.parts ∷ content_bytes b.parts ∷ more) (indexed (has_reps f) p.index (index_bytes f.lists b.parts) b.index);
}
