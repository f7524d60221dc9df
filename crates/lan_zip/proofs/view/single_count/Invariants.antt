use Rattle.lan_zip.specs.Form.{plain_form}
use Rattle.lan_zip.proofs.Rows.{Walked}
use Rattle.lan_zip.proofs.view.single_count.Given as goal

abbrev pub invariant-loop-n : goal.invariant-loop-n
invariant-loop-n l = Walked (plain_form l.form) l.n l.bytes l.rest
