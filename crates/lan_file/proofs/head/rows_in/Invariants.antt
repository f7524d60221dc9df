use Rattle.std.proofs.Common.{◌≡◌, ◌+◌, drop}
use Rattle.lan_file.specs.Heads.{rows_in}
use Rattle.lan_file.proofs.head.rows_in.Given as goal

abbrev pub invariant-loop-page : goal.invariant-loop-page
invariant-loop-page l = l.rows + rows_in (drop l.page-index l.pages) ≡ rows_in l.pages
