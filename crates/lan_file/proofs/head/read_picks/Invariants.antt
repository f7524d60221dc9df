use Rattle.std.proofs.Common.{ℕ, List, take}
use Rattle.lan_file.specs.Heads.{picks_of, PickedColumns, KeepPicks}
use Rattle.lan_file.specs.HeadSteps.{pages_of}
use Rattle.lan_file.specs.Tables.{IsTablesOf}
use Rattle.lan_file.proofs.head.read_picks.Given as goal

abbrev pub invariant-loop-pick : goal.invariant-loop-pick
invariant-loop-pick l = record {
  picked : (bytes : List ℕ) → IsTablesOf bytes l.tables → PickedColumns bytes l.rows (picks_of (take l.pick-index l.picks)) (pages_of l.columns);
  keeps : KeepPicks l.rows (picks_of (take l.pick-index l.picks)) (pages_of l.columns);
}
