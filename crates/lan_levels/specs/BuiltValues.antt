-- The bytes of value buffers that are built.
use Rattle.std.specs.Prelude.{ℕ, zero, suc, ◌+◌, ◌*◌, Bool, true, false, List, [], ◌∷◌, ◌++◌, length, map, take, drop}
use Rattle.std.specs.List.{concat}
use Rattle.lan_bytes.specs.Numbers.{low_first}

abbrev pub digit_of : Bool → ℕ
digit_of true = 1
digit_of false = 0

-- the number whose binary digits the bools are, the lowest first
abbrev pub byte_of : List Bool → ℕ
byte_of [] = 0
byte_of (b ∷ bs) = digit_of b + 2 * byte_of bs

-- the first so many bytes of bools, eight in a byte from its lowest bit on
unfoldable pub bool_bytes : ℕ → List Bool → List ℕ
bool_bytes zero values = []
bool_bytes (suc n) values = byte_of (take 8 values) ∷ bool_bytes n (drop 8 values)

-- a number in four bytes, the lowest first
unfoldable pub four_bytes : ℕ → List ℕ
four_bytes n = low_first 4 n

-- where values of these lengths end, the first of them beginning at `at`, as numbers of four bytes
unfoldable pub ends_bytes : ℕ → List ℕ → List ℕ
ends_bytes at [] = []
ends_bytes at (n ∷ ns) = four_bytes (at + n) ++ ends_bytes (at + n) ns

-- the buffer of values of any length: the offsets from the buffer's front, then the values
abbrev pub variable_bytes : List (List ℕ) → List ℕ
variable_bytes values =
    let first = 4 * (length values + 1) in
    four_bytes first ++ ends_bytes first (map (λ (v : List ℕ). length v) values) ++ concat values
