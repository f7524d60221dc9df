use Rattle.std.proofs.Common.{◌≡◌, ◌++◌, drop, length}
use Rattle.lan_read.specs.Dealt.{readers_of}
use Rattle.lan_read.proofs.opened.readers_of.Given as goal

abbrev pub invariant-loop-numbers : goal.invariant-loop-numbers
invariant-loop-numbers l = record {
  readers : l.readers ++ readers_of (drop l.numbers-index l.files) l.opened ≡ readers_of l.files l.initial.opened;
  long : length l.opened ≡ length l.initial.opened;
}
