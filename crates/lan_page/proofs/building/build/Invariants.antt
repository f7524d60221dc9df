use Rattle.std.proofs.Common.{◌≡◌, ◌-◌, ◌++◌, ◌≤◌, length, map, drop}
use Rattle.lan_model.specs.Leaves.{plain_leaf}
use Rattle.lan_levels.specs.PagesWritten.{cut_pages}
use Rattle.lan_levels.specs.ZipForm.{leaf_form}
use Rattle.lan_meta.specs.ColumnWritten.{page_written, written}
use Rattle.lan_page.proofs.building.build.Given as goal

abbrev pub invariant-loop-from : goal.invariant-loop-from
invariant-loop-from l = record {
  within : l.from ≤ length l.slots;
  all : written (plain_leaf l.leaf) l.slots ≡ l.pages ++ map (page_written (plain_leaf l.leaf)) (cut_pages (leaf_form (plain_leaf l.leaf)) (drop l.from l.slots));
}

abbrev pub decreases-loop-from : goal.decreases-loop-from
decreases-loop-from l = length l.slots - l.from
