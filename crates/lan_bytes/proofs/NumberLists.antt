-- The length and the items of a list of numbers.
use Rattle.std.proofs.Common.{◌≡◌, ℕ, zero, suc, ◌+◌, ◌*◌, ◌/◌, ◌<◌, List, length, drop, refl, ap, ◌∙◌, arith}
use Rattle.std.specs.Prelude.{slice_get, Some}
use Rattle.std.proofs.lemmas.List.{drop-drop}
use Rattle.std.specs.Int.{Width, byte_len, from_le_bytes}
use Rattle.lan_bytes.specs.Numbers.{numbers_from, numbers_of, number_at}

length-numbers_from : (w : Width) (n : ℕ) (bytes : List ℕ) → length (numbers_from w n bytes) ≡ n
unfolding numbers_from
length-numbers_from w zero bytes = refl
length-numbers_from w (suc n) bytes = ap suc (length-numbers_from w n (drop (byte_len w) bytes))

pub length-numbers_of : (w : Width) (bytes : List ℕ) → length (numbers_of w bytes) ≡ length bytes / byte_len w
unfolding numbers_of
length-numbers_of w bytes = length-numbers_from w (length bytes / byte_len w) bytes

slice_get-numbers_from : (w : Width) (n : ℕ) (bytes : List ℕ) (i : ℕ) → i < n → slice_get (numbers_from w n bytes) i ≡ Some (number_at w bytes (byte_len w * i))
unfolding numbers_from
slice_get-numbers_from w zero bytes i within = absurd (omega arith)
slice_get-numbers_from w (suc n) bytes zero within =
    let e : byte_len w * zero ≡ 0 = omega arith in
    rw e refl
slice_get-numbers_from w (suc n) bytes (suc i) within =
    let below : i < n = omega arith in
    let e : byte_len w + byte_len w * i ≡ byte_len w * suc i = omega arith in
    let later : drop (byte_len w * i) (drop (byte_len w) bytes) ≡ drop (byte_len w * suc i) bytes = drop-drop (byte_len w * i) (byte_len w) bytes ∙ ap (λ (k : ℕ). drop k bytes) e in
    slice_get-numbers_from w n (drop (byte_len w) bytes) i below ∙ ap (λ (bs : List ℕ). Some (from_le_bytes w bs)) later

-- the i-th number lies i numbers behind the front
pub slice_get-numbers_of : (w : Width) (bytes : List ℕ) (i : ℕ) → i < length bytes / byte_len w → slice_get (numbers_of w bytes) i ≡ Some (number_at w bytes (byte_len w * i))
unfolding numbers_of
slice_get-numbers_of w bytes i within = slice_get-numbers_from w (length bytes / byte_len w) bytes i within

pub ruleset number_lists = (length-numbers_of, slice_get-numbers_of)
