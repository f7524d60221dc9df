use Rattle.std.proofs.Common.{◌≡◌, map}
use Rattle.lan_levels.specs.MiniWritten.{carried, text_bytes}
use Rattle.lan_mini.specs.Form.{plain_form}
use Rattle.lan_mini.specs.Building.{range}
use Rattle.lan_mini.proofs.writing.put_texts.Given as goal

abbrev pub invariant-loop-i : goal.invariant-loop-i
invariant-loop-i l = l.texts ≡ map text_bytes (carried (plain_form l.form) (range l.slots l.from l.i))
