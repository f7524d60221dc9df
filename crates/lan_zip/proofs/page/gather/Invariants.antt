use Rattle.std.proofs.Common.{take}
use Rattle.lan_zip.specs.Form.{plain_form}
use Rattle.lan_levels.specs.ZipWritten.{Gathered}
use Rattle.lan_zip.proofs.page.gather.Given as goal

abbrev pub invariant-loop-i : goal.invariant-loop-i
invariant-loop-i l = Gathered (plain_form l.form) (take l.i l.slots) l.content l.starts
