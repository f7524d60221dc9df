use Rattle.lan_mini.specs.Form.{plain_form}
use Rattle.lan_mini.specs.Building.{IsTotal, range}
use Rattle.lan_mini.proofs.measuring.Total.of.Given as goal

abbrev pub invariant-loop-i : goal.invariant-loop-i
invariant-loop-i l = IsTotal (plain_form l.form) (range l.slots l.from l.i) l.total
