-- The index of rows of a page that is written.
use Rattle.std.proofs.Common.{◌≡◌, ◌∙◌, ℕ, zero, suc, ◌+◌, ◌*◌, ◌^◌, ◌<◌, ◌≤◌, ◌==◌, Bool, true, false, cond, List, [], ◌∷◌, ◌++◌, length, map, drop, All, refl, ap, subst, sym, arith, append_assoc, length-append}
use Rattle.std.specs.Prelude.{slice_get, Some}
use Rattle.std.specs.Int.{w64}
use Rattle.std.proofs.lemmas.List.{drop-drop, drop_at, length-map}
use Rattle.std.proofs.lemmas.Nat.{from_le_bytes-to_le_bytes_8}
use Rattle.lan_bytes.specs.Numbers.{low_first, number_at}
use Rattle.lan_levels.specs.PlainSlots.{PlainSlot}
use Rattle.lan_levels.specs.ZipSlots.{starts}
use Rattle.lan_levels.specs.ZipRows.{slots_before}
use Rattle.lan_levels.specs.Chunks.{small_chunks, starts_at, lead_at}
use Rattle.lan_levels.specs.ChunkRows.{SaysRows}
use Rattle.lan_levels.specs.ChunkForm.{ChunkForm}
use Rattle.lan_levels.specs.MiniWritten.{ChunkPart, AreParts, word_of, index_bytes}
use Rattle.lan_mini.specs.Building.{CanChunk}
use Rattle.lan_mini.proofs.PartsBack.{found}

-- the two numbers of a chunk
abbrev pub entry : ℕ → ChunkPart → List ℕ
entry lists p = low_first 8 (starts lists p.slots) ++ low_first 8 (length (slots_before lists 0 p.slots))

num8_here : (n : ℕ) (rest : List ℕ) → n < 2 ^ 64 → number_at w64 (low_first 8 n ++ rest) 0 ≡ n
num8_here n rest lt = from_le_bytes-to_le_bytes_8 n lt

eight : (n : ℕ) → length (low_first 8 n) ≡ 8
eight n = refl

one_few : (b : Bool) → cond b 1 0 ≤ 1
one_few true = omega arith
one_few false = omega arith

starts_few : (lists : ℕ) (xs : List PlainSlot) → starts lists xs ≤ length xs
starts_few lists [] = omega arith
starts_few lists (s ∷ xs) = let more = starts_few lists xs in let one = one_few (s.rep == lists) in omega arith

before_one : (b : Bool) (s : PlainSlot) (xs : List PlainSlot) (n : ℕ) → length xs ≤ n → length (cond b [] (s ∷ xs)) ≤ suc n
before_one true s xs n le = omega arith
before_one false s xs n le = omega arith

before_few : (lists : ℕ) (xs : List PlainSlot) → length (slots_before lists 0 xs) ≤ length xs
before_few lists [] = omega arith
before_few lists (s ∷ xs) = before_one (s.rep == lists) s (slots_before lists 0 xs) (length xs) (before_few lists xs)

-- the number in eight bytes from a place on, behind others
behind : (pre rest : List ℕ) (at k : ℕ) → length pre ≡ at → number_at w64 (pre ++ rest) (at + k) ≡ number_at w64 rest k
behind pre rest at k e = ap (λ (bs : List ℕ). number_at w64 bs 0) (sym (drop-drop k at (pre ++ rest)) ∙ ap (drop k) (drop_at pre rest at e))

entry_len : (lists : ℕ) (p : ChunkPart) → length (entry lists p) ≡ 16
entry_len lists p = refl

starts_first : (lists : ℕ) (p : ChunkPart) (rest : List ℕ) → length p.slots ≤ 4096 → starts_at (entry lists p ++ rest) 0 ≡ starts lists p.slots
unfolding starts_at
starts_first lists p rest few =
    let s = starts lists p.slots in
    let b = low_first 8 (length (slots_before lists 0 p.slots)) in
    let le = starts_few lists p.slots in
    ap (λ (bs : List ℕ). number_at w64 bs 0) (append_assoc (low_first 8 s) b rest) ∙ num8_here s (b ++ rest) (omega arith)

lead_first : (lists : ℕ) (p : ChunkPart) (rest : List ℕ) → length p.slots ≤ 4096 → lead_at (entry lists p ++ rest) 0 ≡ length (slots_before lists 0 p.slots)
unfolding lead_at
lead_first lists p rest few =
    let s = low_first 8 (starts lists p.slots) in
    let n = length (slots_before lists 0 p.slots) in
    let le = before_few lists p.slots in
    ap (λ (bs : List ℕ). number_at w64 bs 8) (append_assoc s (low_first 8 n) rest) ∙ behind s (low_first 8 n ++ rest) 8 0 refl ∙ num8_here n rest (omega arith)

starts_later : (lists : ℕ) (p : ChunkPart) (rest : List ℕ) (n : ℕ) → starts_at (entry lists p ++ rest) (suc n) ≡ starts_at rest n
unfolding starts_at
starts_later lists p rest n =
    let place : 16 * suc n ≡ 16 + 16 * n = omega arith in
    ap (number_at w64 (entry lists p ++ rest)) place ∙ behind (entry lists p) rest 16 (16 * n) (entry_len lists p)

lead_later : (lists : ℕ) (p : ChunkPart) (rest : List ℕ) (n : ℕ) → lead_at (entry lists p ++ rest) (suc n) ≡ lead_at rest n
unfolding lead_at
lead_later lists p rest n =
    let place : 16 * suc n + 8 ≡ 16 + (16 * n + 8) = omega arith in
    ap (number_at w64 (entry lists p ++ rest)) place ∙ behind (entry lists p) rest 16 (16 * n + 8) (entry_len lists p)

pub index_len : (lists : ℕ) (ps : List ChunkPart) → length (index_bytes lists ps) ≡ 16 * length ps
index_len lists [] = refl
index_len lists (p ∷ ps) = omega (arith, length-append (entry lists p) (index_bytes lists ps), entry_len lists p, index_len lists ps)

-- what the index says of the chunk of a number
pub record Entered (lists : ℕ) (ps : List ChunkPart) (n : ℕ) (part : ChunkPart) : Type 0 where
  pub begin : starts_at (index_bytes lists ps) n ≡ starts lists part.slots
  pub before : lead_at (index_bytes lists ps) n ≡ length (slots_before lists 0 part.slots)

same_part : (p q : ChunkPart) → Some p ≡ Some q → p ≡ q
same_part p q e = cc

entered : (lists : ℕ) (ps : List ChunkPart) (n : ℕ) (part : ChunkPart) → slice_get ps n ≡ Some part → length part.slots ≤ 4096 → Entered lists ps n part
entered lists [] n part e few = absurd (cc)
entered lists (p ∷ ps) zero part e few =
    let same = same_part p part e in
    let fits : length p.slots ≤ 4096 = subst (λ (q : ChunkPart). length q.slots ≤ 4096) (sym same) few in
    record {
      begin = starts_first lists p (index_bytes lists ps) fits ∙ ap (λ (q : ChunkPart). starts lists q.slots) same;
      before = lead_first lists p (index_bytes lists ps) fits ∙ ap (λ (q : ChunkPart). length (slots_before lists 0 q.slots)) same;
    }
entered lists (p ∷ ps) (suc n) part e few =
    let later = entered lists ps n part e few in
    record { begin = starts_later lists p (index_bytes lists ps) n ∙ later.begin; before = lead_later lists p (index_bytes lists ps) n ∙ later.before }

-- the index says of each chunk what its slots do
pub index_says : (f : ChunkForm) (ps : List ChunkPart) (slots : List PlainSlot) → AreParts small_chunks f slots ps → All (CanChunk f) slots → SaysRows f.lists (map word_of ps) (index_bytes f.lists ps) slots
index_says f ps slots h can =
    let count = length-map ps word_of in
    record {
      begin = λ n lt.
          let one = found f ps slots n h can (omega arith) in
          (entered f.lists ps n one.part one.place one.is.few).begin ∙ ap (starts f.lists) (sym one.slots_are);
      before = λ n lt.
          let one = found f ps slots n h can (omega arith) in
          (entered f.lists ps n one.part one.place one.is.few).before ∙ ap (λ (xs : List PlainSlot). length (slots_before f.lists 0 xs)) (sym one.slots_are);
    }
