-- The chunks of a page, found by their words.
use Rattle.std.proofs.Common.{◌≡◌, ◌∙◌, ℕ, zero, suc, ◌+◌, ◌-◌, ◌*◌, ◌/◌, ◌%◌, ◌<◌, ◌≤◌, ◌^◌, inl, inr, Bool, true, false, cond, List, [], ◌∷◌, ◌++◌, length, map, take, drop, All, refl, ap, ap₂, subst, sym, arith, length-append, lt-ltb, le-ltb}
use Rattle.std.specs.Prelude.{slice_get, slice_index, Some, nat_lt}
use Rattle.std.proofs.lemmas.List.{append-nil, take_at, drop_at, drop-drop, take_all}
use Rattle.std.proofs.lemmas.List.Elements.{All-nil, All-cons}
use Rattle.std.proofs.Math.Nat.{pow-le-pow_right}
use Rattle.lan_bytes.specs.Padding.{padded}
use Rattle.lan_levels.specs.PlainSlots.{PlainSlot}
use Rattle.lan_levels.specs.Chunks.{small_chunks, so_far, slots_log, word_slots, word_bytes, slots_ahead, bytes_ahead, chunk_slots}
use Rattle.lan_levels.specs.ChunkRows.{slots_of_chunk}
use Rattle.lan_levels.specs.ChunkForm.{ChunkForm, has_reps, has_defs, has_values}
use Rattle.lan_levels.specs.MiniSlots.{bytes_of_chunk}
use Rattle.lan_levels.specs.MiniWritten.{ChunkPart, IsWrittenChunk, IsNext, AreParts, word_of, content_bytes, chunk_size, stored_size}
use Rattle.lan_mini.specs.Building.{CanChunk}
use Rattle.lan_mini.proofs.PageParts.{chunk_len, chunk_some}
use Rattle.lan_mini.proofs.Places.{header_is}
use Rattle.lan_mini.proofs.HeaderBack.{EachBelow}
use Rattle.lan_mini.proofs.Totals.{le_cases}

far_none : (g : ℕ → ℕ) (ws : List ℕ) → so_far g ws 0 ≡ 0
unfolding so_far
far_none g ws = refl

far_suc : (g : ℕ → ℕ) (ws : List ℕ) (n : ℕ) → so_far g ws (suc n) ≡ so_far g ws n + g (slice_index ws n)
unfolding so_far
far_suc g ws n = refl

pub far_cons : (g : ℕ → ℕ) (w : ℕ) (ws : List ℕ) (n : ℕ) → so_far g (w ∷ ws) (suc n) ≡ g w + so_far g ws n
far_cons g w ws zero = let a = far_suc g (w ∷ ws) zero in let b = far_none g (w ∷ ws) in let d = far_none g ws in omega arith
far_cons g w ws (suc n) =
    let a = far_suc g (w ∷ ws) (suc n) in
    let b = far_cons g w ws n in
    let d = far_suc g ws n in
    omega arith

all_first : (P : PlainSlot → Type 0) (xs ys : List PlainSlot) → All P (xs ++ ys) → All P xs
all_first P [] ys h = All-nil P
all_first P (x ∷ xs) ys h = All-cons P x xs (h 0 x (omega arith)) (all_first P xs ys (λ k d lt. h (suc k) d (omega arith)))

all_later : (P : PlainSlot → Type 0) (xs ys : List PlainSlot) → All P (xs ++ ys) → All P ys
all_later P [] ys h = h
all_later P (x ∷ xs) ys h = all_later P xs ys (λ k d lt. h (suc k) d (omega arith))

if_eights : (b : Bool) (n : ℕ) → cond b (padded n) 0 % 8 ≡ 0
if_eights true n = omega arith
if_eights false n = omega arith

size_eights : (f : ChunkForm) (slots : List PlainSlot) → chunk_size small_chunks f slots % 8 ≡ 0
size_eights f slots =
    let head = header_is f in
    let a = if_eights (has_reps f) (2 * length slots) in
    let b = if_eights (has_defs f) (2 * length slots) in
    let c = if_eights (has_values f) (stored_size f slots) in
    omega arith

-- what is known of one chunk that is written
pub record IsPart (f : ChunkForm) (p : ChunkPart) : Type 0 where
  pub can : All (CanChunk f) p.slots
  pub written : IsWrittenChunk small_chunks f p.slots p.bytes
  pub some : 0 < length p.slots
  pub few : length p.slots ≤ 4096
  pub log : p.log ≤ 12
  pub fits : chunk_size small_chunks f p.slots ≤ 32768
  pub bytes : word_bytes (word_of p) ≡ length p.bytes
  pub slots_log_is : slots_log (word_of p) ≡ p.log
  pub small : word_of p < 2 ^ 16

word_facts : (len log : ℕ) → 8 ≤ len → len ≤ 32768 → len % 8 ≡ 0 → log ≤ 12 → (8 * ((16 * (len / 8 - 1) + log) / 16 + 1) ≡ len) × ((16 * (len / 8 - 1) + log) % 16 ≡ log) × (16 * (len / 8 - 1) + log < 65536)
word_facts len log some few eights small = (omega arith, omega arith, omega arith)

take_whole : (p rest : List PlainSlot) → take (length p) (p ++ rest) ≡ p
take_whole p rest = take_at p rest (length p) refl

part_of_next : (f : ChunkForm) (p : ChunkPart) (slots rest : List PlainSlot) → slots ≡ p.slots ++ rest → All (CanChunk f) slots → 0 < length p.slots → IsNext small_chunks f slots p.log (length p.slots) → IsWrittenChunk small_chunks f p.slots p.bytes → IsPart f p
part_of_next f p slots rest e h some next written =
    let can = all_first (CanChunk f) p.slots rest (subst (All (CanChunk f)) e h) in
    let len = chunk_len f p.slots p.bytes can written in
    let count = ap (length {A = PlainSlot}) e in
    let sums = length-append p.slots rest in
    let head = chunk_some f p.slots in
    let eights = size_eights f p.slots in
    let bounds : (length p.slots ≤ 4096) × (p.log ≤ 12) × (chunk_size small_chunks f p.slots ≤ 32768) = elim next [
      | inl l ↦
          let few = l.0.few in
          let zero = l.1 in
          let all : take (length p.slots) slots ≡ p.slots = ap (take (length p.slots)) e ∙ take_whole p.slots rest in
          let whole : take (length p.slots) slots ≡ slots = take_all (length p.slots) slots (omega (arith, l.2)) in
          let fits = subst (λ (ys : List PlainSlot). chunk_size small_chunks f ys ≤ 32768) (sym whole ∙ all) l.0.fits in
          (omega (arith, l.2), omega arith, fits)
      | inr r ↦
          let small = r.1.small in
          let top : 2 ^ p.log ≤ 2 ^ 12 = pow-le-pow_right {n = 2} (omega arith) {i = p.log} {j = 12} small in
          let all : take (2 ^ p.log) slots ≡ p.slots = ap (λ (k : ℕ). take k slots) (sym r.3) ∙ ap (take (length p.slots)) e ∙ take_whole p.slots rest in
          (omega (arith, r.3), small, subst (λ (ys : List PlainSlot). chunk_size small_chunks f ys ≤ 32768) all r.1.fits)
    ] in
    let fits = bounds.2 in
    let w = word_facts (length p.bytes) p.log (omega arith) (omega arith) (omega arith) bounds.1 in
    record { can = can; written = written; some = some; few = bounds.0; log = bounds.1; fits = fits; bytes = w.0; slots_log_is = w.1; small = w.2 }

-- a chunk that others follow has a power of two of slots
power_of_next : (f : ChunkForm) (p : ChunkPart) (slots rest : List PlainSlot) → slots ≡ p.slots ++ rest → 0 < length rest → IsNext small_chunks f slots p.log (length p.slots) → length p.slots ≡ 2 ^ p.log
power_of_next f p slots rest e some next =
    let count = ap (length {A = PlainSlot}) e in
    let sums = length-append p.slots rest in
    elim next [ inl l ↦ absurd (omega (arith, l.2)) | inr r ↦ r.3 ]

-- the slots of parts, where there are any
some_slots : (f : ChunkForm) (p : ChunkPart) (ps : List ChunkPart) (slots : List PlainSlot) → AreParts small_chunks f slots (p ∷ ps) → 0 < length slots
some_slots f p ps slots h = let count = ap (length {A = PlainSlot}) h.3.1 in let some = h.0 in omega (arith, length-append p.slots h.3.0)

-- the chunk of a number, by the words
pub record Found (f : ChunkForm) (ps : List ChunkPart) (slots : List PlainSlot) (n : ℕ) : Type 0 where
  pub part : ChunkPart
  pub is : IsPart f part
  pub place : slice_get ps n ≡ Some part
  pub bytes_are : bytes_of_chunk (map word_of ps) (content_bytes ps) n ≡ part.bytes
  pub slots_are : slots_of_chunk (map word_of ps) slots n ≡ part.slots

first_bytes : (p : ChunkPart) (ps : List ChunkPart) → word_bytes (word_of p) ≡ length p.bytes → bytes_of_chunk (word_of p ∷ map word_of ps) (p.bytes ++ content_bytes ps) 0 ≡ p.bytes
first_bytes p ps e =
    ap₂ (λ (k j : ℕ). take k (drop j (p.bytes ++ content_bytes ps))) e (far_none word_bytes (word_of p ∷ map word_of ps)) ∙ take_at p.bytes (content_bytes ps) (length p.bytes) refl

later_bytes : (p : ChunkPart) (ps : List ChunkPart) (n : ℕ) → word_bytes (word_of p) ≡ length p.bytes → bytes_of_chunk (word_of p ∷ map word_of ps) (p.bytes ++ content_bytes ps) (suc n) ≡ bytes_of_chunk (map word_of ps) (content_bytes ps) n
later_bytes p ps n e =
    let ws = map word_of ps in
    let k = word_bytes (slice_index ws n) in
    let place = far_cons word_bytes (word_of p) ws n ∙ ap (λ (j : ℕ). j + bytes_ahead ws n) e in
    ap (λ (j : ℕ). take k (drop j (p.bytes ++ content_bytes ps))) place
    ∙ ap (take k) (sym (drop-drop (bytes_ahead ws n) (length p.bytes) (p.bytes ++ content_bytes ps)) ∙ ap (drop (bytes_ahead ws n)) (drop_at p.bytes (content_bytes ps) (length p.bytes) refl))

last_slots : (p : ChunkPart) (slots rest : List PlainSlot) → slots ≡ p.slots ++ rest → rest ≡ [] → slots_of_chunk (word_of p ∷ []) slots 0 ≡ p.slots
last_slots p slots rest e none =
    let w = word_of p in
    let same : slots ≡ p.slots = e ∙ ap (λ (ys : List PlainSlot). p.slots ++ ys) none ∙ append-nil p.slots in
    let zero = far_none word_slots (w ∷ []) in
    ap₂ (λ (k j : ℕ). take k (drop j slots)) (ap (λ (j : ℕ). length slots - j) zero) zero ∙ take_all (length slots - 0) slots (omega arith) ∙ same

first_slots : (p : ChunkPart) (v : ℕ) (vs : List ℕ) (slots rest : List PlainSlot) → slots ≡ p.slots ++ rest → word_slots (word_of p) ≡ length p.slots → slots_of_chunk (word_of p ∷ v ∷ vs) slots 0 ≡ p.slots
first_slots p v vs slots rest e size =
    let ws = word_of p ∷ v ∷ vs in
    let more : 0 + 1 < length ws = omega arith in
    let here : chunk_slots ws (length slots) 0 ≡ length p.slots = ap (λ (b : Bool). cond b (word_slots (word_of p)) (length slots - slots_ahead ws 0)) (lt-ltb (0 + 1) (length ws) more) ∙ size in
    ap₂ (λ (k j : ℕ). take k (drop j slots)) here (far_none word_slots ws) ∙ ap (take (length p.slots)) e ∙ take_whole p.slots rest

less_same : (n len : ℕ) → nat_lt (suc n + 1) (suc len) ≡ nat_lt (n + 1) len
less_same n len = elim (le_cases len (n + 1)) [
  | inl le ↦ le-ltb (suc n + 1) (suc len) (omega arith) ∙ sym (le-ltb (n + 1) len le)
  | inr lt ↦ lt-ltb (suc n + 1) (suc len) (omega arith) ∙ sym (lt-ltb (n + 1) len lt)
]

later_slots : (p : ChunkPart) (ws : List ℕ) (slots rest : List PlainSlot) (n : ℕ) → slots ≡ p.slots ++ rest → word_slots (word_of p) ≡ length p.slots → slots_of_chunk (word_of p ∷ ws) slots (suc n) ≡ slots_of_chunk ws rest n
later_slots p ws slots rest n e size =
    let w = word_of p in
    let ahead = far_cons word_slots w ws n in
    let place : slots_ahead (w ∷ ws) (suc n) ≡ length p.slots + slots_ahead ws n = ahead ∙ ap (λ (j : ℕ). j + slots_ahead ws n) size in
    let count = ap (length {A = PlainSlot}) e in
    let left : length slots - slots_ahead (w ∷ ws) (suc n) ≡ length rest - slots_ahead ws n = omega (arith, length-append p.slots rest) in
    let here : chunk_slots (w ∷ ws) (length slots) (suc n) ≡ chunk_slots ws (length rest) n = ap₂ (λ (b : Bool) (k : ℕ). cond b (word_slots (slice_index ws n)) k) (less_same n (length ws)) left in
    ap₂ (λ (k j : ℕ). take k (drop j slots)) here place
    ∙ ap (take (chunk_slots ws (length rest) n)) (ap (drop (length p.slots + slots_ahead ws n)) e ∙ sym (drop-drop (slots_ahead ws n) (length p.slots) (p.slots ++ rest)) ∙ ap (drop (slots_ahead ws n)) (drop_at p.slots rest (length p.slots) refl))

-- a chunk's words say how many slots it has, unless it is the last
slots_said : (f : ChunkForm) (p : ChunkPart) → IsPart f p → length p.slots ≡ 2 ^ p.log → word_slots (word_of p) ≡ length p.slots
slots_said f p is e = ap (λ (k : ℕ). 2 ^ k) is.slots_log_is ∙ sym e

pub found : (f : ChunkForm) (ps : List ChunkPart) (slots : List PlainSlot) (n : ℕ) → AreParts small_chunks f slots ps → All (CanChunk f) slots → n < length ps → Found f ps slots n
found f [] slots n h can less = absurd (omega arith)
found f (p ∷ []) slots zero h can less =
    let rest = h.3.0 in
    let is = part_of_next f p slots rest h.3.1 can h.0 h.1 h.2 in
    record { part = p; is = is; place = refl; bytes_are = first_bytes p [] is.bytes; slots_are = last_slots p slots rest h.3.1 h.3.2 }
found f (p ∷ []) slots (suc n) h can less = absurd (omega arith)
found f (p ∷ q ∷ ps) slots zero h can less =
    let rest = h.3.0 in
    let is = part_of_next f p slots rest h.3.1 can h.0 h.1 h.2 in
    let power = power_of_next f p slots rest h.3.1 (some_slots f q ps rest h.3.2) h.1 in
    record { part = p; is = is; place = refl; bytes_are = first_bytes p (q ∷ ps) is.bytes; slots_are = first_slots p (word_of q) (map word_of ps) slots rest h.3.1 (slots_said f p is power) }
found f (p ∷ q ∷ ps) slots (suc n) h can less =
    let rest = h.3.0 in
    let is = part_of_next f p slots rest h.3.1 can h.0 h.1 h.2 in
    let power = power_of_next f p slots rest h.3.1 (some_slots f q ps rest h.3.2) h.1 in
    let can_rest = all_later (CanChunk f) p.slots rest (subst (All (CanChunk f)) h.3.1 can) in
    let later = found f (q ∷ ps) rest n h.3.2 can_rest (omega arith) in
    record {
      part = later.part;
      is = later.is;
      place = later.place;
      bytes_are = later_bytes p (q ∷ ps) n is.bytes ∙ later.bytes_are;
      slots_are = later_slots p (map word_of (q ∷ ps)) slots rest n h.3.1 (slots_said f p is power) ∙ later.slots_are;
    }

one_index : (P : ℕ → Type 0) (w n : ℕ) → n < 1 → P w → P (slice_index (w ∷ []) n)
one_index P w zero lt h = h
one_index P w (suc n) lt h = absurd (omega arith)

next_index : (P : ℕ → Type 0) (w : ℕ) (ws : List ℕ) (n m : ℕ) → P w → ((k : ℕ) → k < m → P (slice_index ws k)) → n < suc m → P (slice_index (w ∷ ws) n)
next_index P w ws zero m h later lt = h
next_index P w ws (suc n) m h later lt = later n (omega arith)

-- the words are those of chunks
pub record Worded (f : ChunkForm) (ps : List ChunkPart) (slots : List PlainSlot) : Type 0 where
  pub logs : (n : ℕ) → n < length ps → slots_log (slice_index (map word_of ps) n) ≤ 12
  pub each : (n : ℕ) → n < length ps → word_bytes (slice_index (map word_of ps) n) ≤ 32768
  pub some : slots_ahead (map word_of ps) (length ps - 1) < length slots
  pub few : length slots ≤ slots_ahead (map word_of ps) (length ps - 1) + 4096
  pub all : bytes_ahead (map word_of ps) (length ps) ≡ length (content_bytes ps)
  pub small : EachBelow (2 ^ 16) (map word_of ps)

pub worded : (f : ChunkForm) (p : ChunkPart) (ps : List ChunkPart) (slots : List PlainSlot) → AreParts small_chunks f slots (p ∷ ps) → All (CanChunk f) slots → Worded f (p ∷ ps) slots
worded f p [] slots h can =
    let rest = h.3.0 in
    let is = part_of_next f p slots rest h.3.1 can h.0 h.1 h.2 in
    let w = word_of p in
    let none = far_none word_slots (w ∷ []) in
    let bytes = far_cons word_bytes w [] 0 in
    let zero = far_none word_bytes [] in
    let count = ap (length {A = PlainSlot}) h.3.1 in
    let last = ap (length {A = PlainSlot}) h.3.2 in
    let sums = length-append p.slots rest in
    let some = is.some in
    let few = is.few in
    let log = is.slots_log_is in
    let top = is.log in
    let size = is.bytes in
    let len = chunk_len f p.slots p.bytes is.can is.written in
    let fits = is.fits in
    record {
      logs = λ n lt. one_index (λ (k : ℕ). slots_log k ≤ 12) w n lt (omega arith);
      each = λ n lt. one_index (λ (k : ℕ). word_bytes k ≤ 32768) w n lt (omega arith);
      some = omega arith;
      few = omega arith;
      all = omega (arith, length-append p.bytes []);
      small = (is.small, tt);
    }
worded f p (q ∷ ps) slots h can =
    let rest = h.3.0 in
    let is = part_of_next f p slots rest h.3.1 can h.0 h.1 h.2 in
    let power = power_of_next f p slots rest h.3.1 (some_slots f q ps rest h.3.2) h.1 in
    let said = slots_said f p is power in
    let can_rest = all_later (CanChunk f) p.slots rest (subst (All (CanChunk f)) h.3.1 can) in
    let later = worded f q ps rest h.3.2 can_rest in
    let w = word_of p in
    let ws = map word_of (q ∷ ps) in
    let slots_more = far_cons word_slots w ws (length ps) in
    let bytes_more = far_cons word_bytes w ws (suc (length ps)) in
    let count = ap (length {A = PlainSlot}) h.3.1 in
    let sums = length-append p.slots rest in
    let inner : length (q ∷ ps) - 1 ≡ length ps = omega arith in
    let outer : length (p ∷ q ∷ ps) - 1 ≡ suc (length ps) = omega arith in
    let inner_ahead = ap (slots_ahead ws) inner in
    let outer_ahead = ap (slots_ahead (w ∷ ws)) outer in
    let some : slots_ahead ws (length ps) < length rest = omega (arith, later.some) in
    let few : length rest ≤ slots_ahead ws (length ps) + 4096 = omega (arith, later.few) in
    let all : bytes_ahead ws (suc (length ps)) ≡ length (content_bytes (q ∷ ps)) = later.all in
    let log = is.slots_log_is in
    let top = is.log in
    let size = is.bytes in
    let len = chunk_len f p.slots p.bytes is.can is.written in
    let fits = is.fits in
    record {
      logs = λ n lt. next_index (λ (k : ℕ). slots_log k ≤ 12) w ws n (suc (length ps)) (omega arith) (λ m. later.logs m) lt;
      each = λ n lt. next_index (λ (k : ℕ). word_bytes k ≤ 32768) w ws n (suc (length ps)) (omega arith) (λ m. later.each m) lt;
      some = omega arith;
      few = omega arith;
      all = omega (arith, length-append p.bytes (content_bytes (q ∷ ps)));
      small = (is.small, later.small);
    }
