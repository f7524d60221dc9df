use Rattle.std.proofs.Common.{◌≡◌, ◌++◌, ◌-◌}
use Rattle.lan_rows.specs.Line.{parts_tokens}
use Rattle.lan_rows.proofs.printing.print_parts.Given as goal

abbrev pub invariant-loop : goal.invariant-loop
invariant-loop l = record {
  before : l.out.before ≡ l.initial.out.before;
  tokens : l.initial.out.tokens ++ parts_tokens l.prim l.count l.bytes ≡ l.out.tokens ++ parts_tokens l.prim (l.count - l.counter) l.rest;
}
