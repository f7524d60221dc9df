-- Which paths data files have.
use Rattle.std.specs.Prelude.{◌≡◌, ℕ, ◌-◌, ◌<◌, ◌≤◌, List, length, drop, slice_index, codes, Bool, true, ◌&&◌, ◌||◌, nat_eq, nat_le, All, ◌≢◌}

-- a path has 1 to 200 letters, digits, dots, lines or dashes, and begins with no dot
abbrev pub is_path_byte : ℕ → Bool
is_path_byte b = (nat_le 48 b && nat_le b 57) || (nat_le 65 b && nat_le b 90) || (nat_le 97 b && nat_le b 122) || nat_eq b 45 || nat_eq b 46 || nat_eq b 95

pub record IsPath (path : List ℕ) : Type 0 where
  pub some : 0 < length path
  pub short : length path ≤ 200
  pub bytes : All (λ b. is_path_byte b ≡ true) path
  pub first : slice_index path 0 ≢ 46
  pub ends : drop (length path - 4) path ≢ codes ".tmp"
