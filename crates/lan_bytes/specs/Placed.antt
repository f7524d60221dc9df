-- Bytes that lie somewhere in an object.
use Rattle.std.specs.Prelude.{ℕ, ◌+◌, List, take, drop}

pub record Placed : Type 0 where
  -- the place of the first byte in the object
  pub base : ℕ
  pub bytes : List ℕ

-- the `len` bytes from `at` on, which is counted from the first byte
abbrev pub part_of : Placed → ℕ → ℕ → Placed
part_of whole at len = record { base = whole.base + at; bytes = take len (drop at whole.bytes) }
