-- What values the bytes of a buffer stand for.
use Rattle.std.specs.Prelude.{◌≡◌, ℕ, zero, suc, ◌+◌, ◌-◌, ◌*◌, ◌/◌, ◌%◌, ◌^◌, ◌<◌, ◌≤◌, ◌==◌, Bool, List, [], ◌∷◌, length, take, drop, slice_index}
use Rattle.std.specs.Int.{w32}
use Rattle.lan_bytes.specs.Numbers.{number_at}
use Rattle.lan_levels.specs.PlainSlots.{PlainPiece, bit, bytes}

-- values of so many bytes each; bools; values of any length
pub data Encoding : Type 0 where
  flat : ℕ → Encoding
  bools : Encoding
  variable : Encoding

-- the bit of that number, eight in a byte from its lowest on
abbrev pub bit_at : List ℕ → ℕ → Bool
bit_at all i = slice_index all (i / 8) / 2 ^ (i % 8) % 2 == 1

-- the offset of that number, counted from 0
unfoldable pub offset : List ℕ → ℕ → ℕ
offset all i = number_at w32 all (4 * i)

-- the value of that number, counted from 0
abbrev pub value_at : Encoding → List ℕ → ℕ → PlainPiece
value_at (flat width) all i = bytes (take width (drop (width * i) all))
value_at bools all i = bit (bit_at all i)
value_at variable all i = bytes (take (offset all (i + 1) - offset all i) (drop (offset all i) all))

-- what the numbers from `i` on give, so many of them
unfoldable pub each_from : (ℕ → PlainPiece) → ℕ → ℕ → List PlainPiece
each_from f i zero = []
each_from f i (suc n) = f i ∷ each_from f (i + 1) n

-- the first `n` values
abbrev pub values_of : Encoding → ℕ → List ℕ → List PlainPiece
values_of encoding n all = each_from (value_at encoding all) 0 n

-- so many values that are all the same piece
abbrev pub same_values : PlainPiece → ℕ → List PlainPiece
same_values piece n = each_from (λ _. piece) 0 n

-- none of the offsets up to that number is below the one before it
abbrev pub NoneFalls : List ℕ → ℕ → Type 0
NoneFalls all n = (i : ℕ) → i < n → offset all i ≤ offset all (i + 1)

-- the first offset is the end of `n + 1` offsets
pub record BeginsWell (n : ℕ) (all : List ℕ) : Type 0 where
  pub room : 4 * (n + 1) ≤ length all
  pub first : offset all 0 ≡ 4 * (n + 1)

pub record IsVariable (n : ℕ) (all : List ℕ) : Type 0 where
  pub begins : BeginsWell n all
  pub rises : NoneFalls all n
  pub last : offset all n ≡ length all

-- the bytes are a buffer of `n` values
abbrev pub IsBuffer : Encoding → ℕ → List ℕ → Type 0
IsBuffer (flat width) n all = length all ≡ width * n
IsBuffer bools n all = length all ≡ (n + 7) / 8
IsBuffer variable n all = IsVariable n all

-- the bytes are a buffer of `n` values, which are these
pub record ValuesOf (encoding : Encoding) (n : ℕ) (all : List ℕ) (values : List PlainPiece) : Type 0 where
  pub buffer : IsBuffer encoding n all
  pub are : values ≡ values_of encoding n all
  pub count : length values ≡ n
