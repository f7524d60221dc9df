-- Zeros up to a multiple of 8.
use Rattle.std.specs.Prelude.{ℕ, ◌+◌, ◌*◌, ◌/◌}

-- the end of so many bytes once they are padded
abbrev pub padded : ℕ → ℕ
padded n = (n + 7) / 8 * 8
