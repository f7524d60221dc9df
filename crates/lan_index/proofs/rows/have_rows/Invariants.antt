use Rattle.std.proofs.Common.{◌≡◌, ◌+◌}
use Rattle.lan_levels.specs.Chunks.{rows_before}
use Rattle.lan_index.proofs.rows.have_rows.Given as goal

abbrev pub invariant-loop-n : goal.invariant-loop-n
invariant-loop-n l = l.left + rows_before l.index l.n ≡ l.rows
