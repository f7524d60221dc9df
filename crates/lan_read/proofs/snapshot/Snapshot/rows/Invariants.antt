use Rattle.std.proofs.Common.{◌≡◌, take}
use Rattle.lan_read.specs.Opening.{rows_in}
use Rattle.lan_read.proofs.snapshot.Snapshot.rows.Given as goal

abbrev pub invariant-loop-fragment : goal.invariant-loop-fragment
invariant-loop-fragment l = l.rows ≡ rows_in (take l.fragment-index l.fragment-items)
