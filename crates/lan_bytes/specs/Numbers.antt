-- Numbers as bytes, the lowest byte first.
use Rattle.std.specs.Prelude.{ℕ, zero, suc, ◌/◌, List, [], ◌∷◌, length, take, drop}
use Rattle.std.specs.Int.{Width, w64, byte_len, from_le_bytes, to_le_bytes}

-- the number of a width in the bytes from a place on
abbrev pub number_at : Width → List ℕ → ℕ → ℕ
number_at width bytes at = from_le_bytes width (drop at bytes)

-- the lowest bytes of a number, so many of them
abbrev pub low_first : ℕ → ℕ → List ℕ
low_first width n = take width (to_le_bytes w64 n)

-- so many numbers, one after the other from the front
unfoldable pub numbers_from : Width → ℕ → List ℕ → List ℕ
numbers_from width zero bytes = []
numbers_from width (suc more) bytes = from_le_bytes width bytes ∷ numbers_from width more (drop (byte_len width) bytes)

-- the numbers that bytes are
unfoldable pub numbers_of : Width → List ℕ → List ℕ
numbers_of width bytes = numbers_from width (length bytes / byte_len width) bytes
