-- Parts of a page's content buffer, and what covers the parts of successive rows.
use Rattle.std.specs.Prelude.{ℕ, ◌-◌, ◌<◌, ◌≤◌, List, take, drop}

-- the bytes from a place to before another
pub record Stretch : Type 0 where
  pub from : ℕ
  pub past : ℕ

abbrev pub size : Stretch → ℕ
size s = s.past - s.from

-- the bytes of a stretch
abbrev pub bytes_in : List ℕ → Stretch → List ℕ
bytes_in all s = take (size s) (drop s.from all)

-- where the runs of rows lie, in the order of the rows: neither their fronts nor their ends fall
pub record IsRising (run : ℕ → Stretch) (rows : ℕ) : Type 0 where
  pub fronts : (a b : ℕ) → a ≤ b → b < rows → (run a).from ≤ (run b).from
  pub ends : (a b : ℕ) → a ≤ b → b < rows → (run a).past ≤ (run b).past

-- the part from the front of one row's run to the end of the run of the last row before `q`
unfoldable pub cover : (ℕ → Stretch) → ℕ → ℕ → Stretch
cover run row q = record { from = (run row).from; past = (run (q - 1)).past }

-- the part holds the other
pub record Has (whole part : Stretch) : Type 0 where
  pub front : whole.from ≤ part.from
  pub end : part.past ≤ whole.past
