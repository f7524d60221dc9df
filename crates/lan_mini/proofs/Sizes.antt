-- How many bytes a chunk that is written has.
use Rattle.std.proofs.Common.{◌≡◌, ◌∙◌, ℕ, zero, suc, ◌+◌, ◌-◌, ◌*◌, ◌/◌, Bool, true, false, cond, List, [], ◌∷◌, ◌++◌, length, map, drop, All, refl, ap, arith, length-append}
use Rattle.std.specs.Prelude.{flat_map}
use Rattle.std.specs.List.{concat}
use Rattle.std.proofs.lemmas.List.{length-map, length-replicate}
use Rattle.lan_bytes.specs.Numbers.{low_first}
use Rattle.lan_bytes.specs.Padding.{padded}
use Rattle.lan_levels.specs.declared.slot.State.{State}
use Rattle.lan_levels.specs.declared.slot.State.TheVariants as state
use Rattle.lan_levels.specs.PlainSlots.{PlainSlot, PlainPiece, nothing, bit, bytes}
use Rattle.lan_levels.specs.Values.{flat, bools, variable}
use Rattle.lan_levels.specs.BuiltValues.{bool_bytes, ends_bytes, four_bytes, variable_bytes}
use Rattle.lan_levels.specs.ZipSlots.{is_bare}
use Rattle.lan_levels.specs.Chunks.{small_chunks}
use Rattle.lan_levels.specs.ChunkForm.{ChunkForm, Storing, buffered, always, has_reps, has_defs, has_values}
use Rattle.lan_levels.specs.ChunkSlots.{one_if}
use Rattle.lan_levels.specs.MiniWritten.{carried, fixed_bytes, text_bytes, truth, stored_values, values_len, buffer_size, stored_size, number_bytes, zeros_behind, zero_padded, AreNumbered, rep_bytes, header_bytes, chunk_bytes, chunk_size}
use Rattle.lan_mini.specs.Building.{CanChunk, FitsStoring}
use Rattle.lan_mini.proofs.Grown.{texts_len}

-- a value that is stored so has that many bytes
abbrev pub FitsPiece : Storing → PlainPiece → Type 0
FitsPiece (buffered (flat width)) v = length (fixed_bytes width v) ≡ width
FitsPiece (buffered bools) v = Unit {0}
FitsPiece (buffered variable) v = Unit {0}
FitsPiece (always p) v = Unit {0}

abbrev pub EachFits : Storing → List PlainPiece → Type 0
EachFits st [] = Unit {0}
EachFits st (v ∷ vs) = FitsPiece st v × EachFits st vs

fits_piece : (st : Storing) (s : State) (v : PlainPiece) → FitsStoring st s v → FitsPiece st v
fits_piece (buffered (flat w)) s nothing h = length-replicate {A = ℕ} w 0
fits_piece (buffered (flat w)) s (bit b) h = length-replicate {A = ℕ} w 0
fits_piece (buffered (flat w)) state.Here (bytes bs) h = h
fits_piece (buffered (flat w)) (state.Null k) (bytes bs) h = absurd h
fits_piece (buffered (flat w)) (state.Empty k) (bytes bs) h = absurd h
fits_piece (buffered bools) s v h = tt
fits_piece (buffered variable) s v h = tt
fits_piece (always p) s v h = tt

if_fits : (st : Storing) (b : Bool) (v : PlainPiece) (vs : List PlainPiece) → FitsPiece st v → EachFits st vs → EachFits st (cond b vs (v ∷ vs))
if_fits st true v vs h hs = hs
if_fits st false v vs h hs = (h, hs)

pub each_fits : (f : ChunkForm) (slots : List PlainSlot) → All (CanChunk f) slots → EachFits f.values (carried f slots)
each_fits f [] h = tt
each_fits f (s ∷ slots) h =
    let one : CanChunk f s = h 0 s (omega arith) in
    if_fits f.values (is_bare f.layers s.state) s.value (carried f slots) (fits_piece f.values s.state s.value one.value) (each_fits f slots (λ k d lt. h (suc k) d (omega arith)))

flat_len : (w : ℕ) (vs : List PlainPiece) → EachFits (buffered (flat w)) vs → length (flat_map (fixed_bytes w) vs) ≡ values_len (buffered (flat w)) vs
flat_len w [] h = refl
flat_len w (v ∷ vs) h = let one = h.0 in let more = flat_len w vs h.1 in omega (arith, length-append (fixed_bytes w v) (flat_map (fixed_bytes w) vs))

bools_len : (n : ℕ) (bs : List Bool) → length (bool_bytes n bs) ≡ n
unfolding bool_bytes
bools_len zero bs = refl
bools_len (suc n) bs = ap suc (bools_len n (drop 8 bs))

four_len : (n : ℕ) → length (four_bytes n) ≡ 4
unfolding four_bytes
four_len n = refl

ends_len : (at : ℕ) (ns : List ℕ) → length (ends_bytes at ns) ≡ 4 * length ns
unfolding ends_bytes
ends_len at [] = refl
ends_len at (n ∷ ns) = omega (arith, length-append (four_bytes (at + n)) (ends_bytes (at + n) ns), four_len (at + n), ends_len (at + n) ns)

variable_len : (ts : List (List ℕ)) → length (variable_bytes ts) ≡ 4 * (length ts + 1) + length (concat ts)
variable_len ts =
    let first = 4 * (length ts + 1) in
    let ends = ends_bytes first (map (λ (v : List ℕ). length v) ts) in
    omega (arith, length-append (four_bytes first ++ ends) (concat ts), length-append (four_bytes first) ends, four_len first, ends_len first (map (λ (v : List ℕ). length v) ts), length-map ts (λ (v : List ℕ). length v))

values_size : (st : Storing) (vs : List PlainPiece) → EachFits st vs → length (stored_values st vs) ≡ buffer_size st (length vs) (values_len st vs)
values_size (buffered (flat w)) vs h = flat_len w vs h
values_size (buffered bools) vs h = bools_len ((length vs + 7) / 8) (map truth vs)
values_size (buffered variable) vs h = omega (arith, variable_len (map text_bytes vs), length-map vs text_bytes, texts_len vs)
values_size (always p) vs h = refl

pub stored_len : (f : ChunkForm) (slots : List PlainSlot) → All (CanChunk f) slots → length (stored_values f.values (carried f slots)) ≡ stored_size f slots
stored_len f slots h = values_size f.values (carried f slots) (each_fits f slots h)

pub numbers_len : (ns : List ℕ) → length (number_bytes 2 ns) ≡ 2 * length ns
numbers_len [] = refl
numbers_len (n ∷ ns) = let two : length (low_first 2 n) ≡ 2 = refl in omega (arith, length-append (low_first 2 n) (number_bytes 2 ns), numbers_len ns)

pub numbered_count : (states : List State) (xs : List PlainSlot) (ds : List ℕ) → AreNumbered states xs ds → length ds ≡ length xs
numbered_count states [] [] h = refl
numbered_count states [] (d ∷ ds) h = absurd h
numbered_count states (x ∷ xs) [] h = absurd h
numbered_count states (x ∷ xs) (d ∷ ds) h = ap suc (numbered_count states xs ds h.1)

pub reps_len : (xs : List PlainSlot) → length (rep_bytes xs) ≡ 2 * length xs
reps_len xs = omega (arith, numbers_len (map (λ (s : PlainSlot). s.rep) xs), length-map xs (λ (s : PlainSlot). s.rep))

pub zeros_len : (n : ℕ) → n + length (zeros_behind n) ≡ padded n
zeros_len n = omega (arith, length-replicate {A = ℕ} (padded n - n) 0)

pub padded_len : (bs : List ℕ) (n : ℕ) → length bs ≡ n → length (zero_padded bs) ≡ padded n
padded_len bs n e = length-append bs (zeros_behind (length bs)) ∙ zeros_len (length bs) ∙ ap padded e

if_len : (b : Bool) (bs : List ℕ) (n : ℕ) → length bs ≡ n → length (cond b (zero_padded bs) []) ≡ cond b (padded n) 0
if_len true bs n e = padded_len bs n e
if_len false bs n e = refl

two_if : (b : Bool) (n : ℕ) → length (cond b (low_first 2 n) []) ≡ 2 * one_if b
two_if true n = refl
two_if false n = refl

pub header_bytes_len : (f : ChunkForm) (slots : List PlainSlot) → length (header_bytes small_chunks f slots) ≡ 2 * (one_if (has_reps f) + one_if (has_defs f) + one_if (has_values f) + 1)
header_bytes_len f slots =
    let n = length slots in
    let a = low_first 2 n in
    let r = cond (has_reps f) (low_first 2 (2 * n)) [] in
    let d = cond (has_defs f) (low_first 2 (2 * n)) [] in
    let v = cond (has_values f) (low_first 2 (stored_size f slots)) [] in
    let two : length a ≡ 2 = refl in
    omega (arith, length-append (a ++ r ++ d) v, length-append (a ++ r) d, length-append a r, two_if (has_reps f) (2 * n), two_if (has_defs f) (2 * n), two_if (has_values f) (stored_size f slots))

pub written_size : (f : ChunkForm) (slots : List PlainSlot) (defs : List ℕ) → All (CanChunk f) slots → AreNumbered f.states slots defs → length (chunk_bytes small_chunks f slots defs) ≡ chunk_size small_chunks f slots
written_size f slots defs h numbered =
    let w = 2 * (one_if (has_reps f) + one_if (has_defs f) + one_if (has_values f) + 1) in
    let head = header_bytes small_chunks f slots in
    let z = zeros_behind w in
    let r = cond (has_reps f) (zero_padded (rep_bytes slots)) [] in
    let d = cond (has_defs f) (zero_padded (number_bytes 2 defs)) [] in
    let v = cond (has_values f) (zero_padded (stored_values f.values (carried f slots))) [] in
    let count = numbered_count f.states slots defs numbered in
    let defs_len : length (number_bytes 2 defs) ≡ 2 * length slots = omega (arith, numbers_len defs) in
    let rl = if_len (has_reps f) (rep_bytes slots) (2 * length slots) (reps_len slots) in
    let dl = if_len (has_defs f) (number_bytes 2 defs) (2 * length slots) defs_len in
    let vl = if_len (has_values f) (stored_values f.values (carried f slots)) (stored_size f slots) (stored_len f slots h) in
    omega (arith, length-append (head ++ z ++ r ++ d) v, length-append (head ++ z ++ r) d, length-append (head ++ z) r, length-append head z, header_bytes_len f slots, zeros_len w)
