use Rattle.std.proofs.Common.{◌≡◌, ◌≤◌, ◌^◌, max, drop}
use Rattle.lan_fresh.specs.Fresh.{greatest_of, above, numbers_of}
use Rattle.lan_fresh.proofs.fresh.above_files.Given as goal

abbrev pub invariant-loop-name : goal.invariant-loop-name
invariant-loop-name l = record {
  most : above (greatest_of (numbers_of l.names)) 1 ≡ max l.fresh (above (greatest_of (numbers_of (drop l.name-index l.names))) 1);
  low : 1 ≤ l.fresh;
  high : l.fresh ≤ 2 ^ 53;
}
