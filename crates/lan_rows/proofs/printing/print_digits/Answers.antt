use Rattle.lan_rows.proofs.PrintingLemmas.{digits_utf8}
use Rattle.lan_rows.proofs.printing.print_digits.Goals as goal

pub unreachable-requires-in-Err-from_utf8 : goal.unreachable-requires-in-Err-from_utf8
unreachable-requires-in-Err-from_utf8 c = c.in-Err-from_utf8.ensures.cases.0 (rw c.in-Ok.ensures.written (digits_utf8 c.args.bytes.now))
