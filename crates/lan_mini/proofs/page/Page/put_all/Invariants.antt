use Rattle.std.proofs.Common.{◌-◌, ◌≤◌}
use Rattle.lan_mini.specs.Form.{plain_form}
use Rattle.lan_mini.specs.Building.{range}
use Rattle.lan_mini.specs.Pages.{Built}
use Rattle.lan_mini.proofs.page.Page.put_all.Given as goal

abbrev pub invariant-loop-at : goal.invariant-loop-at
invariant-loop-at l = record {
  reached : l.from ≤ l.at;
  within : l.at ≤ l.to;
  built : Built (plain_form l.form) (range l.slots l.from l.to) (range l.slots l.at l.to) l.self;
}

abbrev pub decreases-loop-at : goal.decreases-loop-at
decreases-loop-at l = l.to - l.at
