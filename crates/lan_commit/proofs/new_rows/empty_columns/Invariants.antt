use Rattle.std.proofs.Common.{◌≡◌, [], replicate}
use Rattle.lan_commit.proofs.new_rows.empty_columns.Given as goal

abbrev pub invariant-loop-column : goal.invariant-loop-column
invariant-loop-column l = l.columns ≡ replicate l._column []
