-- The numbers of a file as bytes, the lowest byte first.
use Rattle.std.specs.Prelude.{ℕ, List}
use Rattle.std.specs.Int.{to_le_bytes, w16, w32, w64}

-- the two bytes of a number
unfoldable pub u16_bytes : ℕ → List ℕ
u16_bytes n = to_le_bytes w16 n

-- the four bytes of a number
unfoldable pub u32_bytes : ℕ → List ℕ
u32_bytes n = to_le_bytes w32 n

-- the eight bytes of a number
unfoldable pub u64_bytes : ℕ → List ℕ
u64_bytes n = to_le_bytes w64 n
