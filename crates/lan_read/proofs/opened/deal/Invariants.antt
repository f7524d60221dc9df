use Rattle.std.proofs.Common.{◌≡◌, ◌++◌, drop, length}
use Rattle.lan_read.specs.Dealt.{dealt, left}
use Rattle.lan_read.proofs.opened.deal.Given as goal

abbrev pub invariant-loop-number : goal.invariant-loop-number
invariant-loop-number l = record {
  dealt : l.cursors ++ dealt (drop l.number-index l.numbers) l.opened ≡ dealt l.numbers l.initial.opened;
  left : left (drop l.number-index l.numbers) l.opened ≡ left l.numbers l.initial.opened;
  long : length l.opened ≡ length l.initial.opened;
}
