-- Bools, read where they were put.
use Rattle.std.proofs.Common.{◌≡◌, ◌==◌, ℕ, zero, suc, ◌+◌, ◌*◌, ◌/◌, ◌%◌, ◌^◌, ◌<◌, Bool, true, false, List, [], ◌∷◌, Some, length, take, drop, map, slice_get, refl, ap, sym, ◌∙◌, arith}
use Rattle.std.specs.Prelude.{slice_index}
use Rattle.std.proofs.lemmas.List.{drop-drop, length-map}
use Rattle.std.proofs.Math.Nat.{div-div-eq-div-mul}
use Rattle.lan_levels.specs.PlainSlots.{bit}
use Rattle.lan_levels.specs.Values.{bools, value_at, bit_at, ValuesOf}
use Rattle.lan_levels.specs.BuiltValues.{digit_of, byte_of, bool_bytes}
use Rattle.lan_values.proofs.Each.{each_map}

lowest : (b : Bool) (n : ℕ) → ((digit_of b + 2 * n) / 2 ^ 0 % 2 == 1) ≡ b
lowest true n = let e : (1 + 2 * n) / 2 ^ 0 % 2 ≡ 1 = omega arith in ap (λ (m : ℕ). m == 1) e
lowest false n = let e : (0 + 2 * n) / 2 ^ 0 % 2 ≡ 0 = omega arith in ap (λ (m : ℕ). m == 1) e

half : (b : Bool) (n : ℕ) → (digit_of b + 2 * n) / 2 ≡ n
half true n = omega arith
half false n = omega arith

byte_bit : (bs : List Bool) (j : ℕ) (b : Bool) → slice_get bs j ≡ Some b → (byte_of bs / 2 ^ j % 2 == 1) ≡ b
byte_bit [] j b e = absurd (cc)
byte_bit (x ∷ bs) zero b e = let same : x ≡ b = cc in lowest x (byte_of bs) ∙ same
byte_bit (x ∷ bs) (suc j) b e =
    let double : 2 ^ suc j ≡ 2 * 2 ^ j = omega arith in
    let shift : byte_of (x ∷ bs) / 2 ^ suc j ≡ byte_of bs / 2 ^ j =
    ap (λ (n : ℕ). byte_of (x ∷ bs) / n) double ∙ sym (div-div-eq-div-mul (byte_of (x ∷ bs)) 2 (2 ^ j)) ∙ ap (λ (n : ℕ). n / 2 ^ j) (half x (byte_of bs)) in
    ap (λ (n : ℕ). n % 2 == 1) shift ∙ byte_bit bs j b e

byte_at : (n : ℕ) (values : List Bool) (q : ℕ) → q < n → slice_index (bool_bytes n values) q ≡ byte_of (take 8 (drop (8 * q) values))
unfolding bool_bytes
byte_at zero values q lt = absurd (omega arith)
byte_at (suc n) values zero lt = refl
byte_at (suc n) values (suc q) lt =
    let e : 8 + 8 * q ≡ 8 * suc q = omega arith in
    byte_at n (drop 8 values) q (omega arith) ∙ ap (λ (bs : List Bool). byte_of (take 8 bs)) (drop-drop (8 * q) 8 values ∙ ap (λ (k : ℕ). drop k values) e)

pub bools_size : (n : ℕ) (values : List Bool) → length (bool_bytes n values) ≡ n
unfolding bool_bytes
bools_size zero values = refl
bools_size (suc n) values = ap suc (bools_size n (drop 8 values))

get_taken : (n : ℕ) (xs : List Bool) (j : ℕ) → j < n → slice_get (take n xs) j ≡ slice_get xs j
get_taken zero xs j lt = absurd (omega arith)
get_taken (suc n) [] j lt = refl
get_taken (suc n) (x ∷ xs) zero lt = refl
get_taken (suc n) (x ∷ xs) (suc j) lt = get_taken n xs j (omega arith)

get_dropped : (n : ℕ) (xs : List Bool) (j : ℕ) → slice_get (drop n xs) j ≡ slice_get xs (n + j)
get_dropped zero xs j = let e : j ≡ 0 + j = omega arith in ap (slice_get xs) e
get_dropped (suc n) [] j = refl
get_dropped (suc n) (x ∷ xs) j = get_dropped n xs j ∙ (let e : suc (n + j) ≡ suc n + j = omega arith in ap (slice_get (x ∷ xs)) e)

bool_is : (values : List Bool) (k : ℕ) (b : Bool) → k < length values → slice_get values k ≡ Some b → bit_at (bool_bytes ((length values + 7) / 8) values) k ≡ b
bool_is values k b lt e =
    let room : k / 8 < (length values + 7) / 8 = omega arith in
    let low : k % 8 < 8 = omega arith in
    let place : 8 * (k / 8) + k % 8 ≡ k = omega arith in
    let here : slice_get (take 8 (drop (8 * (k / 8)) values)) (k % 8) ≡ Some b =
    get_taken 8 (drop (8 * (k / 8)) values) (k % 8) low ∙ get_dropped (8 * (k / 8)) values (k % 8) ∙ ap (slice_get values) place ∙ e in
    ap (λ (n : ℕ). n / 2 ^ (k % 8) % 2 == 1) (byte_at ((length values + 7) / 8) values (k / 8) room) ∙ byte_bit (take 8 (drop (8 * (k / 8)) values)) (k % 8) b here

pub bools_read : (values : List Bool) → ValuesOf bools (length values) (bool_bytes ((length values + 7) / 8) values) (map bit values)
bools_read values =
    let all = bool_bytes ((length values + 7) / 8) values in
    record {
      buffer = bools_size ((length values + 7) / 8) values;
      are = each_map bit (value_at bools all) 0 values (λ k b lt e. let z : 0 + k ≡ k = omega arith in ap (value_at bools all) z ∙ ap bit (bool_is values k b lt e));
      count = length-map values bit;
    }
