-- Rows that were seen.
use Rattle.std.specs.Prelude.{◌≡◌, ℕ, List}
use Rattle.std.specs.Ordering.{nat_cmp}
use Rattle.lan_arrow.specs.Kept.{is_in}
use Rattle.std.specs.BTreeSet.{BTreeSet, contains}

-- the set has just the numbers of the list
abbrev pub HasJust : BTreeSet ℕ → List ℕ → Type 0
HasJust seen rows = (x : ℕ) → contains nat_cmp seen x ≡ is_in rows x
