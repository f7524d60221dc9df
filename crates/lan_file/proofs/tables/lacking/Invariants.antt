use Rattle.std.proofs.Common.{◌<◌, take}
use Rattle.std.specs.Prelude.{All}
use Rattle.lan_file.specs.declared.head.ColumnPick.{ColumnPick}
use Rattle.lan_file.proofs.tables.lacking.Given as goal

abbrev pub invariant-loop-pick : goal.invariant-loop-pick
invariant-loop-pick l = All (λ (pick : ColumnPick). pick.column < l.columns) (take l.pick-index l.picks)
