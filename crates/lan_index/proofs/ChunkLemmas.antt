-- What the words of chunks give, one chunk more at a time.
use Rattle.std.proofs.Common.{◌≡◌, sym, ◌∙◌, ℕ, zero, suc, ◌+◌, ◌-◌, ◌<◌, ◌≤◌, Bool, cond, List, [], ◌∷◌, Some, inl, inr, ◌⊎◌, length, slice_get, refl, ap, add-one, arith}
use Rattle.std.specs.Prelude.{slice_index}
use Rattle.std.proofs.lemmas.Bool.{lt-ltb, le-ltb}
use Rattle.lan_model.specs.declared.range.Span.{Span}
use Rattle.std.proofs.lemmas.Nat.{pow_pos}
use Rattle.lan_index.specs.Runs.{EndsAt}
use Rattle.lan_index.proofs.PastLemmas.{either}
use Rattle.lan_index.proofs.Climbs.{climbs}
use Rattle.lan_levels.specs.Chunks.{ChunkKind, small_chunks, slots_log, so_far, word_slots, word_bytes, slots_ahead, bytes_ahead, chunk_slots, chunk_of, AreChunks, rows_before, starts_at}

flip : {A B : Type 0} → A ⊎ B → B ⊎ A
flip (inl a) = inr a
flip (inr b) = inl b

pub so_none : (f : ℕ → ℕ) (words : List ℕ) → so_far f words 0 ≡ 0
unfolding so_far
so_none f words = refl

pub so_more : (f : ℕ → ℕ) (words : List ℕ) (n : ℕ) → so_far f words (n + 1) ≡ so_far f words n + f (slice_index words n)
unfolding so_far
so_more f words n = ap (so_far f words) (add-one n)

-- more words give no less
pub so_rises : (f : ℕ → ℕ) (words : List ℕ) (a b : ℕ) → a ≤ b → so_far f words a ≤ so_far f words b
so_rises f words a b le = climbs (so_far f words) b a b (λ n less. let more = so_more f words n in omega arith) le (omega arith)

pub rows_none : (index : List ℕ) → rows_before index 0 ≡ 0
unfolding rows_before
rows_none index = refl

pub rows_more : (index : List ℕ) (n : ℕ) → rows_before index (n + 1) ≡ rows_before index n + starts_at index n
unfolding rows_before
rows_more index n = ap (rows_before index) (add-one n)

-- in more chunks begin no fewer rows
pub rows_rise : (index : List ℕ) (a b : ℕ) → a ≤ b → rows_before index a ≤ rows_before index b
rows_rise index a b le = climbs (rows_before index) b a b (λ n less. let more = rows_more index n in omega arith) le (omega arith)

-- the number that a list has at a place
pub index_is : (xs : List ℕ) (i x : ℕ) → slice_get xs i ≡ Some x → x ≡ slice_index xs i
index_is [] i x e = absurd (cc)
index_is (y ∷ xs) zero x e = cc
index_is (y ∷ xs) (suc i) x e = index_is xs i x e

-- a chunk but the last, and the last
pub not_last : (words : List ℕ) (slots n : ℕ) → n + 1 < length words → chunk_slots words slots n ≡ word_slots (slice_index words n)
not_last words slots n less = ap (λ (b : Bool). cond b (word_slots (slice_index words n)) (slots - slots_ahead words n)) (lt-ltb (n + 1) (length words) less)

pub is_last : (words : List ℕ) (slots n : ℕ) → length words ≤ n + 1 → chunk_slots words slots n ≡ slots - slots_ahead words n
is_last words slots n le = ap (λ (b : Bool). cond b (word_slots (slice_index words n)) (slots - slots_ahead words n)) (le-ltb (n + 1) (length words) le)

-- where a chunk lies
pub record InChunks (words : List ℕ) (slots bytes n : ℕ) : Type 0 where
  pub bytes_fit : bytes_ahead words n + word_bytes (slice_index words n) ≤ bytes
  pub slots_left : slots_ahead words n < slots

pub in_chunks : (kind : ChunkKind) (words : List ℕ) (slots bytes n : ℕ) → AreChunks kind slots bytes words → n < length words → InChunks words slots bytes n
in_chunks kind words slots bytes n h less =
    let more = so_more word_bytes words n in
    let rise = so_rises word_bytes words (n + 1) (length words) (omega arith) in
    let all = h.bytes_are.all in
    let front = so_rises word_slots words n (length words - 1) (omega arith) in
    let some = h.slots_are.some in
    record { bytes_fit = omega arith; slots_left = omega arith }

-- the next chunk begins where one but the last ends
pub next_slot : (words : List ℕ) (slots n : ℕ) → n + 1 < length words → slots_ahead words n + chunk_slots words slots n ≡ slots_ahead words (n + 1)
next_slot words slots n less = let more = so_more word_slots words n in let here = not_last words slots n less in omega arith

-- and the last ends where all do
pub last_slot : (words : List ℕ) (slots n : ℕ) → slots_ahead words n < slots → length words ≤ n + 1 → slots_ahead words n + chunk_slots words slots n ≡ slots
last_slot words slots n some le = let here = is_last words slots n le in omega arith

-- the slots don't fit, since those of some chunks leave none
pub too_many : (words : List ℕ) (slots n left : ℕ) → left + slots_ahead words n ≡ slots → n + 1 < length words → left ≤ word_slots (slice_index words n) → slots ≤ slots_ahead words (length words - 1)
too_many words slots n left e less le =
    let more = so_more word_slots words n in
    let rise = so_rises word_slots words (n + 1) (length words - 1) (omega arith) in
    omega arith

pub too_long : (words : List ℕ) (bytes n left : ℕ) → left + bytes_ahead words n ≡ bytes → n < length words → left < word_bytes (slice_index words n) → bytes_ahead words (length words) ≡ bytes → ⊥
too_long words bytes n left e less lt all =
    let more = so_more word_bytes words n in
    let rise = so_rises word_bytes words (n + 1) (length words) (omega arith) in
    omega arith

-- behind a chunk but the last slots are left
pub later_slot : (kind : ChunkKind) (words : List ℕ) (slots bytes n : ℕ) → AreChunks kind slots bytes words → n + 1 < length words → slots_ahead words n + word_slots (slice_index words n) < slots
later_slot kind words slots bytes n h less =
    let more = so_more word_slots words n in
    let left = (in_chunks kind words slots bytes (n + 1) h less).slots_left in
    omega arith

within_case : (kind : ChunkKind) (words : List ℕ) (slots bytes n : ℕ) → AreChunks kind slots bytes words → n < length words → (n + 1 < length words) ⊎ (length words ≤ n + 1) → slots_ahead words n + chunk_slots words slots n ≤ slots
within_case kind words slots bytes n h less (inl more) =
    let here = not_last words slots n more in
    let left = later_slot kind words slots bytes n h more in
    omega arith
within_case kind words slots bytes n h less (inr last) =
    let all = last_slot words slots n (in_chunks kind words slots bytes n h less).slots_left last in
    omega arith

-- a chunk's slots are among all
pub chunk_within : (kind : ChunkKind) (words : List ℕ) (slots bytes n : ℕ) → AreChunks kind slots bytes words → n < length words → slots_ahead words n + chunk_slots words slots n ≤ slots
chunk_within kind words slots bytes n h less = within_case kind words slots bytes n h less (flip (either (length words) (n + 1)))

-- the rows aren't so many, since those of some chunks are more
pub too_many_rows : (index : List ℕ) (count n left rows : ℕ) → left + rows_before index n ≡ rows → n < count → left < starts_at index n → rows_before index count ≡ rows → ⊥
too_many_rows index count n left rows e less lt all =
    let more = rows_more index n in
    let rise = rows_rise index (n + 1) count (omega arith) in
    omega arith

-- where the chunk behind another lies
pub record Following (words : List ℕ) (slots bytes n : ℕ) (span : Span) : Type 0 where
  pub first_is : span.first + span.slots ≡ slots_ahead words (n + 1)
  pub at_is : span.at + span.len ≡ bytes_ahead words (n + 1)
  pub there : InChunks words slots bytes (n + 1)

pub following : (kind : ChunkKind) (words : List ℕ) (slots bytes n : ℕ) (span : Span) → AreChunks kind slots bytes words → n + 1 < length words → span ≡ chunk_of words slots n → Following words slots bytes n span
following kind words slots bytes n span h less e =
    let first = ap (λ (s : Span). s.first + s.slots) e in
    let at = ap (λ (s : Span). s.at + s.len) e in
    record { first_is = first ∙ next_slot words slots n less; at_is = at ∙ sym (so_more word_bytes words n); there = in_chunks kind words slots bytes (n + 1) h less }

-- in the chunks behind the first, but the last, no row begins
bare_by : (index : List ℕ) (count first past d : ℕ) → EndsAt index count first past → first + 1 + d + 1 ≤ past → rows_before index (first + 1 + d) ≡ rows_before index (first + 1)
bare_by index count first past zero e le = let same : first + 1 + 0 ≡ first + 1 = omega arith in ap (rows_before index) same
bare_by index count first past (suc d) e le =
    let before = bare_by index count first past d e (omega arith) in
    let none = e.bare (first + 1 + d) (omega arith) (omega arith) in
    let more = rows_more index (first + 1 + d) in
    let same : first + 1 + d + 1 ≡ first + 1 + suc d = omega arith in
    let at = ap (rows_before index) same in
    omega arith

pub bare_all : (index : List ℕ) (count first past : ℕ) → EndsAt index count first past → first + 1 < past → rows_before index (past - 1) ≡ rows_before index (first + 1)
bare_all index count first past e more =
    let d = past - 1 - (first + 1) in
    let same : first + 1 + d ≡ past - 1 = omega arith in
    ap (rows_before index) (sym same) ∙ bare_by index count first past d e (omega arith)

-- a chunk has slots
pub some_slots : (words : List ℕ) (total bytes n : ℕ) → AreChunks small_chunks total bytes words → n < length words → (length words ≤ n + 1) ⊎ (n + 1 < length words) → 0 < chunk_slots words total n
some_slots words total bytes n h less (inl last) = let here = is_last words total n last in let left = (in_chunks small_chunks words total bytes n h less).slots_left in omega arith
some_slots words total bytes n h less (inr more) = let here = not_last words total n more in let some = pow_pos (slots_log (slice_index words n)) in omega arith
