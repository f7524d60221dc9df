-- The rows of a fragment that are deleted, and those that are kept.
use Rattle.std.specs.Prelude.{ℕ, ◌+◌, ◌<◌, ◌≤◌, List, Bool, length, slice_index, nat_eq, not}
use Rattle.std.specs.List.{list_any, filter, range_with_len}

-- the deleted rows of a fragment, rising, and how many physical rows it has
pub record Deleted : Type 0 where
  pub rows : List ℕ
  pub physical : ℕ

-- whether a row is one of these
abbrev pub is_in : List ℕ → ℕ → Bool
is_in rows row = list_any (nat_eq row) rows

-- the places below a number that aren't deleted, rising
abbrev pub kept_below : List ℕ → ℕ → List ℕ
kept_below rows n = filter (λ row. not (is_in rows row)) (range_with_len 0 n)

-- the kept rows of a fragment, rising
abbrev pub kept_of : Deleted → List ℕ
kept_of deleted = kept_below deleted.rows deleted.physical

-- all numbers are below a bound
abbrev pub AreBelow : ℕ → List ℕ → Type 0
AreBelow bound rows = (i : ℕ) → i < length rows → slice_index rows i < bound

-- a later number is above an earlier one by at least as many as there are places between
abbrev pub IsSpread : List ℕ → Type 0
IsSpread rows = (i j : ℕ) → i ≤ j → j < length rows → slice_index rows i + j ≤ slice_index rows j + i
