-- A page's buffers as they are built.
use Rattle.std.specs.Prelude.{◌≡◌, ℕ, IsTrue, List, [], ◌++◌, length}
use Rattle.lan_bytes.specs.Numbers.{low_first}
use Rattle.lan_levels.specs.PlainSlots.{PlainSlot}
use Rattle.lan_levels.specs.ZipSlots.{starts}
use Rattle.lan_levels.specs.ZipRows.{slots_before}
use Rattle.lan_levels.specs.Chunks.{small_chunks}
use Rattle.lan_levels.specs.ChunkForm.{ChunkForm, has_reps}
use Rattle.lan_levels.specs.MiniWritten.{ChunkPart, IsWrittenChunk, AreParts, word_of, words_bytes, content_bytes, index_bytes}
use Rattle.lan_mini.specs.declared.page.Page.{Page}

pub record IsEmpty (p : Page) : Type 0 where
  pub words : p.words ≡ []
  pub content : p.content ≡ []
  pub index : p.index ≡ []

-- the bytes have grown by the two numbers of a chunk with these slots
abbrev pub PutEntry : ℕ → List PlainSlot → List ℕ → List ℕ → Type 0
PutEntry lists slots old new = new ≡ old ++ (low_first 8 (starts lists slots) ++ low_first 8 (length (slots_before lists 0 slots)))

-- the page has grown by the chunk of the slots
pub record PutPart (f : ChunkForm) (slots : List PlainSlot) (log : ℕ) (old new : Page) : Type 0 where
  pub bytes : List ℕ
  pub is : IsWrittenChunk small_chunks f slots bytes
  pub content : new.content ≡ old.content ++ bytes
  pub words : new.words ≡ old.words ++ low_first 2 (word_of (record { slots = slots; log = log; bytes = bytes }))
  pub index : IsTrue (has_reps f) → PutEntry f.lists slots old.index new.index

-- the page has the first chunks of the slots, of which `left` are left
pub record Built (f : ChunkForm) (slots left : List PlainSlot) (p : Page) : Type 0 where
  pub parts : List ChunkPart
  pub are : (later : List ChunkPart) → AreParts small_chunks f left later → AreParts small_chunks f slots (parts ++ later)
  pub words : p.words ≡ words_bytes small_chunks parts
  pub content : p.content ≡ content_bytes parts
  pub index : IsTrue (has_reps f) → p.index ≡ index_bytes f.lists parts
