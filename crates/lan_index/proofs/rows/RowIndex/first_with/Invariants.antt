use Rattle.std.proofs.Common.{◌≡◌, ◌≤◌}
use Rattle.lan_levels.specs.Chunks.{rows_before}
use Rattle.lan_index.proofs.rows.RowIndex.first_with.Given as goal

abbrev pub invariant-loop-n : goal.invariant-loop-n
invariant-loop-n l = record { before_is : l.before ≡ rows_before l.self.index l.n; reached : l.before ≤ l.row }
