use Rattle.lan_mini.specs.Form.{plain_form}
use Rattle.lan_mini.specs.Building.{Numbered, range}
use Rattle.lan_mini.proofs.writing.put_def_numbers.Given as goal

abbrev pub invariant-loop-i : goal.invariant-loop-i
invariant-loop-i l = Numbered (plain_form l.form) (range l.slots l.from l.i) l.fn.out l.out
