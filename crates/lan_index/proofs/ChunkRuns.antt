-- The chunks that hold a row, as the greatest that pass a test.
use Rattle.std.proofs.Common.{◌≡◌, ℕ, ◌+◌, ◌-◌, ◌<◌, ◌≤◌, ◌⊎◌, inl, inr, Bool, true, false, ◌||◌, ◌&&◌, List, length, refl, ap, ap₂, ◌∙◌, arith}
use Rattle.std.specs.Prelude.{nat_le, nat_lt}
use Rattle.std.proofs.lemmas.Bool.{leb-true, le-leb, ltb-true, lt-ltb}
use Rattle.lan_levels.specs.Chunks.{small_chunks, bytes_ahead, chunk_slots, AreChunks, rows_before, starts_at, lead_at, LeadsFit}
use Rattle.lan_levels.specs.Runs.{is_reached, is_held, first_chunk, last_chunk, chunked, run}
use Rattle.lan_index.specs.declared.run.Run.{Run}
use Rattle.lan_levels.specs.Stretch.{Stretch}
use Rattle.lan_index.specs.Runs.{EndsAt, RowEnds, IsRowRun, extent}
use Rattle.lan_index.proofs.PastLemmas.{IsGreatest, either, greatest_found, or_right}
use Rattle.lan_index.proofs.ChunkLemmas.{rows_none, rows_more, rows_rise, some_slots, bare_all}

reached_true : (index : List ℕ) (row n : ℕ) → is_reached index row n ≡ true → rows_before index n ≤ row
unfolding is_reached
reached_true index row n e = leb-true (rows_before index n) row e

true_reached : (index : List ℕ) (row n : ℕ) → rows_before index n ≤ row → is_reached index row n ≡ true
unfolding is_reached
true_reached index row n le = le-leb (rows_before index n) row le

-- what the test of a chunk that has slots of the row says
abbrev pub Held : List ℕ → ℕ → ℕ → Type 0
Held index row n = (rows_before index n ≤ row) ⊎ ((rows_before index n ≤ row + 1) × (0 < lead_at index n))

either_true : (a b c : Bool) → a || (b && c) ≡ true → (a ≡ true) ⊎ ((b ≡ true) × (c ≡ true))
either_true true b c e = inl refl
either_true false true true e = inr (refl, refl)
either_true false true false e = absurd (cc)
either_true false false c e = absurd (cc)

held_cases : (index : List ℕ) (row n : ℕ) → (nat_le (rows_before index n) row ≡ true) ⊎ ((nat_le (rows_before index n) (row + 1) ≡ true) × (nat_lt 0 (lead_at index n) ≡ true)) → Held index row n
held_cases index row n (inl e) = inl (leb-true (rows_before index n) row e)
held_cases index row n (inr e) = inr (leb-true (rows_before index n) (row + 1) e.0, ltb-true 0 (lead_at index n) e.1)

held_true : (index : List ℕ) (row n : ℕ) → is_held index row n ≡ true → Held index row n
unfolding is_held
held_true index row n e = held_cases index row n (either_true (nat_le (rows_before index n) row) (nat_le (rows_before index n) (row + 1)) (nat_lt 0 (lead_at index n)) e)

true_held : (index : List ℕ) (row n : ℕ) → Held index row n → is_held index row n ≡ true
unfolding is_held
true_held index row n (inl le) = ap (λ (b : Bool). b || (nat_le (rows_before index n) (row + 1) && nat_lt 0 (lead_at index n))) (le-leb (rows_before index n) row le)
true_held index row n (inr h) =
    or_right (nat_le (rows_before index n) row) (nat_le (rows_before index n) (row + 1) && nat_lt 0 (lead_at index n))
    (ap₂ (λ (a b : Bool). a && b) (le-leb (rows_before index n) (row + 1) h.0) (lt-ltb 0 (lead_at index n) h.1))

later_case : (index : List ℕ) (a b n : ℕ) → a ≤ b → rows_before index n ≤ a + 1 → 0 < lead_at index n → (rows_before index n ≤ b) ⊎ (b < rows_before index n) → Held index b n
later_case index a b n le few some (inl h) = inl h
later_case index a b n le few some (inr h) = inr (omega arith, some)

held_later : (index : List ℕ) (a b n : ℕ) → a ≤ b → Held index a n → Held index b n
held_later index a b n le (inl h) = inl (omega arith)
held_later index a b n le (inr h) = let few = h.0 in later_case index a b n le h.0 h.1 (either (rows_before index n) b)

-- the first chunk passes both tests
zero_reached : (index : List ℕ) (row : ℕ) → rows_before index 0 ≤ row
zero_reached index row = let none = rows_none index in omega arith

first_is : (words index : List ℕ) (row : ℕ) → IsGreatest (is_reached index row) (length words - 1) (first_chunk words index row)
first_is words index row = greatest_found (is_reached index row) (length words - 1) 0 (omega arith) (true_reached index row 0 (zero_reached index row))

last_is : (words index : List ℕ) (row : ℕ) → IsGreatest (is_held index row) (length words - 1) (last_chunk words index row)
last_is words index row = greatest_found (is_held index row) (length words - 1) 0 (omega arith) (true_held index row 0 (inl (zero_reached index row)))

-- a later row begins in no earlier chunk, and ends in none
pub first_later : (words index : List ℕ) (a b : ℕ) → a ≤ b → first_chunk words index a ≤ first_chunk words index b
first_later words index a b le =
    let f = first_is words index a in
    let r = reached_true index a (first_chunk words index a) f.passes in
    (first_is words index b).above (first_chunk words index a) f.within (true_reached index b (first_chunk words index a) (omega arith))

pub last_later : (words index : List ℕ) (a b : ℕ) → a ≤ b → last_chunk words index a ≤ last_chunk words index b
last_later words index a b le =
    let f = last_is words index a in
    (last_is words index b).above (last_chunk words index a) f.within (true_held index b (last_chunk words index a) (held_later index a b (last_chunk words index a) le (held_true index a (last_chunk words index a) f.passes)))

pub first_last : (words index : List ℕ) (row : ℕ) → first_chunk words index row ≤ last_chunk words index row
first_last words index row =
    let f = first_is words index row in
    (last_is words index row).above (first_chunk words index row) f.within (true_held index row (first_chunk words index row) (inl (reached_true index row (first_chunk words index row) f.passes)))

-- a number that passes and above which none does is the greatest
only_greatest : (test : ℕ → Bool) (n found x : ℕ) → IsGreatest test n found → x ≤ n → test x ≡ true → ((k : ℕ) → k ≤ n → test k ≡ true → k ≤ x) → x ≡ found
only_greatest test n found x g le e h =
    let up = g.above x le e in
    let down = h found g.within g.passes in
    omega arith

below_next : (index : List ℕ) (first row k : ℕ) → row < rows_before index (first + 1) → rows_before index k ≤ row → (k ≤ first) ⊎ (first < k) → k ≤ first
below_next index first row k less le (inl h) = h
below_next index first row k less le (inr h) = let rise = rows_rise index (first + 1) k (omega arith) in absurd (omega arith)

-- the chunk in which a row begins is the greatest that is reached
pub first_of_row : (words index : List ℕ) (row first : ℕ) → first < length words → rows_before index first ≤ row → row < rows_before index (first + 1) → first ≡ first_chunk words index row
first_of_row words index row first less from before =
    only_greatest (is_reached index row) (length words - 1) (first_chunk words index row) first (first_is words index row) (omega arith) (true_reached index row first from)
    (λ k le e. below_next index first row k before (reached_true index row k e) (either k first))

begun : (starts slots lead : ℕ) → (starts ≡ 0 → lead ≡ slots) → lead < slots → starts ≡ 0 → ⊥
begun starts slots lead bare less none = let all = bare none in omega arith

beyond : (words index : List ℕ) (slots bytes row first past k : ℕ) → AreChunks small_chunks slots bytes words → LeadsFit words slots index (length words) → rows_before index (first + 1) ≡ row + 1 → EndsAt index (length words) first past → past ≤ k → k < length words
    → rows_before index k ≤ row + 1 → 0 < lead_at index k → lead_at index past ≡ 0 → (k ≤ past) ⊎ (past < k) → ⊥
beyond words index slots bytes row first past k h f e t le within few some none (inl same) = let here : k ≡ past = omega arith in let at = ap (lead_at index) here in omega arith
beyond words index slots bytes row first past k h f e t le within few some none (inr more) =
    let fit = f past (omega arith) in
    let size = some_slots words slots bytes past h (omega arith) (either (length words) (past + 1)) in
    let next = rows_more index past in
    let up = rows_rise index (past + 1) k (omega arith) in
    let behind = t.behind in
    let front = rows_rise index (first + 1) past (omega arith) in
    begun (starts_at index past) (chunk_slots words slots past) (lead_at index past) fit.bare (omega arith) (omega arith)

stopped : (words index : List ℕ) (slots bytes row first past k : ℕ) → AreChunks small_chunks slots bytes words → LeadsFit words slots index (length words) → rows_before index (first + 1) ≡ row + 1 → EndsAt index (length words) first past → past ≤ k → k < length words
    → rows_before index k ≤ row + 1 → 0 < lead_at index k → (past ≡ length words) ⊎ ((lead_at index past ≡ 0) ⊎ ((first + 1 < past) × (0 < starts_at index (past - 1)))) → (past ≤ k) ⊎ (k < past) → ⊥
stopped words index slots bytes row first past k h f e t le within few some (inl all) c = omega arith
stopped words index slots bytes row first past k h f e t le within few some (inr (inl none)) c = beyond words index slots bytes row first past k h f e t le within few some none (either k past)
stopped words index slots bytes row first past k h f e t le within few some (inr (inr (more, starts))) c =
    let rows = bare_all index (length words) first past t more in
    let last : past - 1 + 1 ≡ past = omega arith in
    let next = rows_more index (past - 1) in
    let at = ap (rows_before index) last in
    let rise = rows_rise index past k le in
    omega arith

-- no chunk behind the last has slots of the row
none_behind : (words index : List ℕ) (slots bytes row first past k : ℕ) → AreChunks small_chunks slots bytes words → LeadsFit words slots index (length words) → row < rows_before index (first + 1) → RowEnds index (length words) first row past → first < past → past ≤ k → k < length words
    → Held index row k → ⊥
none_behind words index slots bytes row first past k h f before ends less le within (inl few) = let rise = rows_rise index (first + 1) k (omega arith) in omega arith
none_behind words index slots bytes row first past k h f before (inl (more, e)) less le within (inr held) = let rise = rows_rise index (first + 1) k (omega arith) in let few = held.0 in omega arith
none_behind words index slots bytes row first past k h f before (inr (e, t)) less le within (inr held) = stopped words index slots bytes row first past k h f e t le within held.0 held.1 t.stop (either past k)

past_of : (index : List ℕ) (count first row past : ℕ) → first < count → RowEnds index count first row past → (first < past) × (past ≤ count)
past_of index count first row past less (inl (more, e)) = (omega arith, omega arith)
past_of index count first row past less (inr (e, t)) = (t.behind, t.within)

held_case : (index : List ℕ) (count first row past : ℕ) → rows_before index first ≤ row → RowEnds index count first row past → (past ≤ first + 1) ⊎ (first + 1 < past) → first < past → Held index row (past - 1)
held_case index count first row past from ends (inl one) less =
    let same : past - 1 ≡ first = omega arith in
    let at = ap (rows_before index) same in
    inl (omega arith)
held_case index count first row past from (inl (more, e)) (inr far) less = absurd (omega arith)
held_case index count first row past from (inr (e, t)) (inr far) less =
    let rows = bare_all index count first past t far in
    let lead = t.leads (past - 1) (omega arith) (omega arith) in
    inr (omega arith, lead)

not_behind : (d k : ℕ) → (d + 1 ≤ k → ⊥) → (k ≤ d) ⊎ (d < k) → k ≤ d
not_behind d k h (inl le) = le
not_behind d k h (inr less) = absurd (h (omega arith))

-- the last chunk that has slots of the row is the greatest that does
pub last_of_row : (words index : List ℕ) (slots bytes row first past : ℕ) → AreChunks small_chunks slots bytes words → LeadsFit words slots index (length words) → first < length words → rows_before index first ≤ row → row < rows_before index (first + 1)
    → RowEnds index (length words) first row past → past - 1 ≡ last_chunk words index row
last_of_row words index slots bytes row first past h f less from before ends =
    let p = past_of index (length words) first row past less ends in
    let behind = p.0 in
    let within = p.1 in
    only_greatest (is_held index row) (length words - 1) (last_chunk words index row) (past - 1) (last_is words index row) (omega arith)
    (true_held index row (past - 1) (held_case index (length words) first row past from ends (either past (first + 1)) behind))
    (λ k le e. not_behind (past - 1) k (λ far. none_behind words index slots bytes row first past k h f before ends behind (omega arith) (omega arith) (held_true index row k e)) (either k (past - 1)))

same_stretch : (from past from2 past2 : ℕ) → from ≡ from2 → past ≡ past2 → ◌≡◌ {A = Stretch} (record { from = from; past = past }) (record { from = from2; past = past2 })
same_stretch from past from2 past2 e h = cc

-- the chunks of a row are its run
pub run_is : (words index : List ℕ) (slots bytes row : ℕ) (r : Run) → AreChunks small_chunks slots bytes words → LeadsFit words slots index (length words) → IsRowRun words index row r → extent r ≡ run (chunked slots words index) row
run_is words index slots bytes row r h f k =
    let first = first_of_row words index row r.first k.within k.from k.before in
    let last = last_of_row words index slots bytes row r.first r.past h f k.within k.from k.before k.ends in
    let behind = (past_of index (length words) r.first row r.past k.within k.ends).0 in
    let past : r.past ≡ last_chunk words index row + 1 = omega arith in
    same_stretch r.at (r.at + r.len) (bytes_ahead words (first_chunk words index row)) (bytes_ahead words (last_chunk words index row + 1)) (k.at ∙ ap (bytes_ahead words) first) (k.len ∙ ap (bytes_ahead words) past)
