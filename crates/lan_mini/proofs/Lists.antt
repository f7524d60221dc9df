-- Lists of numbers that a level has.
use Rattle.std.proofs.Common.{◌≡◌, ℕ, zero, suc, ◌+◌, ◌*◌, ◌/◌, ◌<◌, ◌≤◌, List, length, replicate, refl, arith}
use Rattle.std.specs.Prelude.{slice_index}
use Rattle.std.specs.Int.{w16}
use Rattle.std.proofs.lemmas.Option.{get_or_from_slice_get}
use Rattle.std.proofs.lemmas.List.{get_or_past}
use Rattle.lan_bytes.specs.Numbers.{number_at, numbers_of}
use Rattle.lan_bytes.proofs.NumberLists.{length-numbers_of, slice_get-numbers_of}

pub number_within : (bs : List ℕ) (i : ℕ) → 2 * i + 2 ≤ length bs → slice_index (numbers_of w16 bs) i ≡ number_at w16 bs (2 * i)
number_within bs i le =
    let less : i < length bs / 2 = omega arith in
    get_or_from_slice_get (numbers_of w16 bs) i (number_at w16 bs (2 * i)) 0 (slice_get-numbers_of w16 bs i less)

pub number_past : (bs : List ℕ) (i : ℕ) → length bs < 2 * i + 2 → slice_index (numbers_of w16 bs) i ≡ 0
number_past bs i gt =
    let past : length (numbers_of w16 bs) ≤ i = omega (arith, length-numbers_of w16 bs) in
    get_or_past (numbers_of w16 bs) i 0 past

pub zero_at : (n i : ℕ) → slice_index (replicate n 0) i ≡ 0
zero_at zero i = refl
zero_at (suc n) zero = refl
zero_at (suc n) (suc i) = zero_at n i
