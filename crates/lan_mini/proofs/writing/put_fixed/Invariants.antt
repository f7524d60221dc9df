use Rattle.std.proofs.Common.{◌≡◌, ◌++◌}
use Rattle.std.specs.Prelude.{flat_map}
use Rattle.lan_levels.specs.MiniWritten.{carried, fixed_bytes}
use Rattle.lan_mini.specs.Form.{plain_form}
use Rattle.lan_mini.specs.Building.{range}
use Rattle.lan_mini.proofs.writing.put_fixed.Given as goal

abbrev pub invariant-loop-i : goal.invariant-loop-i
invariant-loop-i l = l.out ≡ l.fn.out ++ flat_map (fixed_bytes l.width) (carried (plain_form l.form) (range l.slots l.from l.i))
