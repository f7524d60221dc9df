use Rattle.std.proofs.Common.{◌≡◌, ◌-◌, ◌^◌, min, take, drop}
use Rattle.std.specs.Prelude.{sum_by}
use Rattle.lan_model.specs.Leaves.{plain_leaf}
use Rattle.lan_levels.specs.PagesWritten.{slot_size, pages_from, cut_pages}
use Rattle.lan_levels.specs.ZipForm.{leaf_form}
use Rattle.lan_page.proofs.cutting.page_end.Given as goal

abbrev pub invariant-loop-i : goal.invariant-loop-i
invariant-loop-i l = record {
  size : l.size ≡ min (2 ^ 20) (sum_by (slot_size (leaf_form (plain_leaf l.leaf))) (take (l.i - l.from) (drop l.from l.slots)));
  cut : cut_pages (leaf_form (plain_leaf l.leaf)) (drop l.from l.slots) ≡ pages_from (leaf_form (plain_leaf l.leaf)) (take (l.i - l.from) (drop l.from l.slots)) (drop l.i l.slots);
}
