-- Counts that never fall, and what an answer of a fault has to do with them.
use Rattle.std.specs.Prelude.{ℕ, ◌+◌, ◌-◌, ◌^◌, ◌≤◌, min}

-- the count rose, or stands at its last value
abbrev pub Rose : ℕ → ℕ → Type 0
Rose before now = min (before + 1) (2 ^ 64 - 1) ≤ now

-- the count didn't fall, and it rose where this was answered
pub record HasCause (Answered : Type 0) (before now : ℕ) : Type 0 where
  pub later : before ≤ now
  pub rose : Answered → Rose before now

-- the count rose by no more than this
pub record RoseAtMost (more before now : ℕ) : Type 0 where
  pub later : before ≤ now
  pub within : now ≤ before + more

-- the count rose by so much, or stands at its last value
abbrev pub RoseBy : ℕ → ℕ → ℕ → Type 0
RoseBy more before now = min (before + more) (2 ^ 64 - 1) ≤ now
