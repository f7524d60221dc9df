-- What may be asked of a store: so many ranges, and so many bytes in all.
use Rattle.std.specs.Prelude.{ℕ, ◌+◌, ◌*◌, ◌^◌, ◌≤◌, Result, Ok, Err}
use Rattle.lan_store.specs.Causes.{RoseAtMost, Rose, RoseBy}
use Rattle.lan_store.specs.Telling.{Telling}

pub record Budget : Type 0 where
  pub ranges : ℕ
  pub bytes : ℕ

abbrev pub nothing : Budget
nothing = record { ranges = 0; bytes = 0 }

-- one range of so many bytes
abbrev pub range : ℕ → Budget
range bytes = record { ranges = 1; bytes = bytes }

-- so many ranges of objects that are read, each of at most 2^30 bytes
abbrev pub ranges : ℕ → Budget
ranges n = record { ranges = n; bytes = n * 2 ^ 30 }

abbrev pub plus : Budget → Budget → Budget
plus a b = record { ranges = a.ranges + b.ranges; bytes = a.bytes + b.bytes }

-- no more is allowed than there
pub record IsWithin (a b : Budget) : Type 0 where
  pub ranges : a.ranges ≤ b.ranges
  pub bytes : a.bytes ≤ b.bytes

-- at most this was asked
pub record Asks (most : Budget) (before now : Telling) : Type 0 where
  pub ranges : RoseAtMost most.ranges before.gets now.gets
  pub bytes : RoseAtMost most.bytes before.got now.got

-- at least one range of so many bytes was asked, or the counts stand at their last values
pub record Counts (len : ℕ) (before now : Telling) : Type 0 where
  pub range : Rose before.gets now.gets
  pub bytes : RoseBy len before.got now.got

-- what was asked so far and what is still allowed are together no more than what was allowed before
pub record Spends (allowed left : Budget) (before now : Telling) : Type 0 where
  pub later_ranges : before.gets ≤ now.gets
  pub later_bytes : before.got ≤ now.got
  pub ranges : now.gets + left.ranges ≤ before.gets + allowed.ranges
  pub bytes : now.got + left.bytes ≤ before.got + allowed.bytes

-- after a refusal nothing more is asked
abbrev pub unless_refused : {A E : Type 0} → Result A E → Budget → Budget
unless_refused (Ok _) left = left
unless_refused (Err _) left = nothing
