use Rattle.std.proofs.Common.{◌≡◌, ◌++◌, drop}
use Rattle.lan_meta.specs.PageRules.{ranges_of}
use Rattle.lan_meta.proofs.rules.ranges.Given as goal

abbrev pub invariant-loop-i : goal.invariant-loop-i
invariant-loop-i l = l.list ++ ranges_of (drop l.i l.offsets) (drop l.i l.sizes) ≡ ranges_of l.offsets l.sizes
