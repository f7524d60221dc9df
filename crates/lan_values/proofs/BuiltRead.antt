-- What is built is read.
use Rattle.std.proofs.Common.{◌≡◌, ℕ, zero, suc, ◌+◌, ◌-◌, ◌*◌, ◌^◌, ◌<◌, ◌≤◌, List, [], ◌∷◌, ◌++◌, Some, length, take, drop, map, slice_get, refl, ap, ap₂, sym, ◌∙◌, arith, append_assoc, length-append}
use Rattle.std.proofs.lemmas.List.{take_at, drop_at, drop-drop, length-map, take_all}
use Rattle.std.proofs.lemmas.Nat.{from_le_bytes-to_le_bytes_4}
use Rattle.std.specs.Int.{w32}
use Rattle.std.specs.List.{concat}
use Rattle.lan_bytes.specs.Numbers.{number_at}
use Rattle.lan_levels.specs.PlainSlots.{bytes}
use Rattle.lan_levels.specs.Values.{variable, offset, value_at, IsVariable, ValuesOf}
use Rattle.lan_levels.specs.BuiltValues.{four_bytes, ends_bytes, variable_bytes}
use Rattle.lan_values.proofs.Each.{each_map}
use Rattle.lan_values.proofs.Ends.{ends_step}

four_length : (n : ℕ) → length (four_bytes n) ≡ 4
unfolding four_bytes
four_length n = refl

four_back : (n : ℕ) (rest : List ℕ) → n < 2 ^ 32 → number_at w32 (four_bytes n ++ rest) 0 ≡ n
unfolding four_bytes
four_back n rest lt = from_le_bytes-to_le_bytes_4 n lt

ends_length : (at : ℕ) (ns : List ℕ) → length (ends_bytes at ns) ≡ 4 * length ns
unfolding ends_bytes
ends_length at [] = refl
ends_length at (n ∷ ns) = omega (arith, length-append (four_bytes (at + n)) (ends_bytes (at + n) ns), four_length (at + n), ends_length (at + n) ns)

-- how many bytes the first values have
abbrev before : ℕ → List (List ℕ) → ℕ
before k values = length (concat (take k values))

next_offsets : (at : ℕ) (v : List ℕ) (vs : List (List ℕ)) (rest : List ℕ)
    → ends_bytes at (map (λ (x : List ℕ). length x) (v ∷ vs)) ++ rest ≡ four_bytes (at + length v) ++ (ends_bytes (at + length v) (map (λ (x : List ℕ). length x) vs) ++ rest)
next_offsets at v vs rest =
    let ns = map (λ (x : List ℕ). length x) vs in
    ap (λ (bs : List ℕ). bs ++ rest) (ends_step at (length v) ns) ∙ append_assoc (four_bytes (at + length v)) (ends_bytes (at + length v) ns) rest

offsets_back : (k at : ℕ) (vs : List (List ℕ)) (rest : List ℕ) → k ≤ length vs → at + length (concat vs) < 2 ^ 32
    → number_at w32 (four_bytes at ++ (ends_bytes at (map (λ (x : List ℕ). length x) vs) ++ rest)) (4 * k) ≡ at + before k vs
offsets_back zero at vs rest le lt =
    let e : at ≡ at + 0 = omega arith in
    four_back at (ends_bytes at (map (λ (x : List ℕ). length x) vs) ++ rest) (omega arith) ∙ e
offsets_back (suc k) at [] rest le lt = absurd (omega arith)
offsets_back (suc k) at (v ∷ vs) rest le lt =
    let X = ends_bytes at (map (λ (x : List ℕ). length x) (v ∷ vs)) ++ rest in
    let place : 4 * suc k ≡ 4 + 4 * k = omega arith in
    let few : at + length v + length (concat vs) < 2 ^ 32 = omega (arith, length-append v (concat vs)) in
    let sum : at + length v + before k vs ≡ at + length (v ++ concat (take k vs)) = omega (arith, length-append v (concat (take k vs))) in
    ap (λ (j : ℕ). number_at w32 (four_bytes at ++ X) j) place
    ∙ ap (λ (bs : List ℕ). number_at w32 bs 0) (sym (drop-drop (4 * k) 4 (four_bytes at ++ X)) ∙ ap (drop (4 * k)) (drop_at (four_bytes at) X 4 (four_length at) ∙ next_offsets at v vs rest))
    ∙ offsets_back k (at + length v) vs rest (omega arith) few
    ∙ sum

offset_is : (values : List (List ℕ)) (k : ℕ) → k ≤ length values → 4 * (length values + 1) + length (concat values) < 2 ^ 32 → offset (variable_bytes values) k ≡ 4 * (length values + 1) + before k values
unfolding offset
offset_is values k le lt =
    let first = 4 * (length values + 1) in
    ap (λ (bs : List ℕ). number_at w32 bs (4 * k)) (append_assoc (four_bytes first) (ends_bytes first (map (λ (x : List ℕ). length x) values)) (concat values))
    ∙ offsets_back k first values (concat values) le lt

cut_at : (values : List (List ℕ)) (k : ℕ) (v : List ℕ) → slice_get values k ≡ Some v → take (before (suc k) values - before k values) (drop (before k values) (concat values)) ≡ v
cut_at [] k v e = absurd (cc)
cut_at (x ∷ vs) zero v e =
    let same : x ≡ v = cc in
    take_at x (concat vs) (length (x ++ []) - 0) (omega (arith, length-append x [])) ∙ same
cut_at (x ∷ vs) (suc k) v e =
    let a = length-append x (concat (take (suc k) vs)) in
    let b = length-append x (concat (take k vs)) in
    let count : length (x ++ concat (take (suc k) vs)) - length (x ++ concat (take k vs)) ≡ before (suc k) vs - before k vs = omega arith in
    let later : drop (length (x ++ concat (take k vs))) (x ++ concat vs) ≡ drop (before k vs) (concat vs) =
    ap (λ (j : ℕ). drop j (x ++ concat vs)) b ∙ sym (drop-drop (before k vs) (length x) (x ++ concat vs)) ∙ ap (drop (before k vs)) (drop_at x (concat vs) (length x) refl) in
    ap₂ (λ (n : ℕ) (bs : List ℕ). take n bs) count later ∙ cut_at vs k v e

pub head_length : (values : List (List ℕ)) → length (four_bytes (4 * (length values + 1)) ++ ends_bytes (4 * (length values + 1)) (map (λ (x : List ℕ). length x) values)) ≡ 4 * (length values + 1)
head_length values =
    let first = 4 * (length values + 1) in
    let ns = map (λ (x : List ℕ). length x) values in
    omega (arith, length-append (four_bytes first) (ends_bytes first ns), four_length first, ends_length first ns, length-map values (λ (x : List ℕ). length x))

value_is : (values : List (List ℕ)) (k : ℕ) (v : List ℕ) → k < length values → slice_get values k ≡ Some v → 4 * (length values + 1) + length (concat values) < 2 ^ 32 → value_at variable (variable_bytes values) k ≡ bytes v
value_is values k v lt e few =
    let first = 4 * (length values + 1) in
    let head = four_bytes first ++ ends_bytes first (map (λ (x : List ℕ). length x) values) in
    let all = variable_bytes values in
    let one : k + 1 ≡ suc k = omega arith in
    let here = offset_is values k (omega arith) few in
    let past : offset all (k + 1) ≡ first + before (suc k) values = ap (offset all) one ∙ offset_is values (suc k) (omega arith) few in
    let count : (first + before (suc k) values) - (first + before k values) ≡ before (suc k) values - before k values = omega arith in
    let from : drop (first + before k values) all ≡ drop (before k values) (concat values) = sym (drop-drop (before k values) first all) ∙ ap (drop (before k values)) (drop_at head (concat values) first (head_length values)) in
    ap₂ (λ (p a : ℕ). bytes (take (p - a) (drop a all))) past here
    ∙ ap₂ (λ (n : ℕ) (bs : List ℕ). bytes (take n bs)) count from
    ∙ ap bytes (cut_at values k v e)

before_rises : (values : List (List ℕ)) (k : ℕ) → before k values ≤ before (suc k) values
before_rises [] zero = omega arith
before_rises [] (suc k) = omega arith
before_rises (x ∷ vs) zero = omega arith
before_rises (x ∷ vs) (suc k) = omega (arith, length-append x (concat (take (suc k) vs)), length-append x (concat (take k vs)), before_rises vs k)

is_variable : (values : List (List ℕ)) → 4 * (length values + 1) + length (concat values) < 2 ^ 32 → IsVariable (length values) (variable_bytes values)
is_variable values few =
    let first = 4 * (length values + 1) in
    let head = four_bytes first ++ ends_bytes first (map (λ (x : List ℕ). length x) values) in
    let size : length (variable_bytes values) ≡ first + length (concat values) = omega (arith, length-append head (concat values), head_length values) in
    let zeroth : offset (variable_bytes values) 0 ≡ first + 0 = offset_is values 0 (omega arith) few in
    let whole : before (length values) values ≡ length (concat values) = ap (λ (vs : List (List ℕ)). length (concat vs)) (take_all (length values) values (omega arith)) in
    record {
      begins = record { room = omega arith; first = omega arith };
      rises = λ k lt.
          let one : k + 1 ≡ suc k = omega arith in
          let here = offset_is values k (omega arith) few in
          let past : offset (variable_bytes values) (k + 1) ≡ first + before (suc k) values = ap (offset (variable_bytes values)) one ∙ offset_is values (suc k) (omega arith) few in
          omega (arith, before_rises values k);
      last = offset_is values (length values) (omega arith) few ∙ ap (λ (n : ℕ). first + n) whole ∙ sym size;
    }

-- the buffer that values of any length are put into is a buffer of them
pub variable_read : (values : List (List ℕ)) → 4 * (length values + 1) + length (concat values) < 2 ^ 32 → ValuesOf variable (length values) (variable_bytes values) (map bytes values)
variable_read values few = record {
  buffer = is_variable values few;
  are = each_map bytes (value_at variable (variable_bytes values)) 0 values (λ k v lt e. let z : 0 + k ≡ k = omega arith in ap (value_at variable (variable_bytes values)) z ∙ value_is values k v lt e few);
  count = length-map values bytes;
}
