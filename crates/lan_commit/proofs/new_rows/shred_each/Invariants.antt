use Rattle.std.proofs.Common.{◌≡◌, ◌^◌, ◌<◌, ◌++◌, length, drop, take}
use Rattle.std.specs.Prelude.{All}
use Rattle.lan_model.specs.Leaves.{plain_leaves}
use Rattle.lan_model.specs.Plain.{plain_values}
use Rattle.lan_commit.specs.Shredded.{with_row}
use Rattle.lan_commit.proofs.new_rows.shred_each.Given as goal

abbrev pub invariant-loop-i : goal.invariant-loop-i
invariant-loop-i l = record {
  long : length l.columns ≡ length l.initial.columns;
  rest : drop l.i l.columns ≡ drop l.i l.initial.columns;
  done : take l.i l.columns ++ with_row (plain_leaves (drop l.i l.leaves)) (plain_values l.row) (drop l.i l.initial.columns) ≡ with_row (plain_leaves l.leaves) (plain_values l.row) l.initial.columns;
  counted : All (λ slots. length slots < 2 ^ 64) (take l.i l.columns);
}
