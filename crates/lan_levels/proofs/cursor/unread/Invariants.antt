use Rattle.std.proofs.Common.{◌≡◌, ℕ, ◌<◌, []}
use Rattle.lan_levels.specs.Taken.{left_at}
use Rattle.lan_levels.proofs.cursor.unread.Given as goal

abbrev pub invariant-loop-leaf : goal.invariant-loop-leaf
invariant-loop-leaf l = (j : ℕ) → j < l.leaf → left_at l.runs l.places j ≡ []
