use Rattle.std.proofs.Common.{◌≡◌, ◌+◌, ◌≤◌, drop}
use Rattle.lan_levels.specs.ChunkSlots.{LevelsFit, value_count}
use Rattle.lan_mini.specs.Form.{plain_form}
use Rattle.lan_mini.specs.Cutting.{level_list}
use Rattle.lan_mini.proofs.levels.count_values.Given as goal

abbrev pub invariant-loop-i : goal.invariant-loop-i
invariant-loop-i l = record {
  all : l.count + value_count (plain_form l.form) (drop l.i (level_list l.slots l.defs)) ≡ value_count (plain_form l.form) (level_list l.slots l.defs);
  few : l.count ≤ l.i;
  fit : LevelsFit (plain_form l.form) (level_list l.slots l.reps) (level_list l.slots l.defs) l.i;
}
