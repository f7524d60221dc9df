use Rattle.std.proofs.Common.{◌≡◌, ◌-◌, ◌<◌, ◌≤◌}
use Rattle.lan_page.specs.Places.{place_in}
use Rattle.lan_page.proofs.places.Places.past.Given as goal

abbrev pub invariant-rows : goal.invariant-rows
invariant-rows l = record {
  ahead : l.row < l.past;
  near : l.past ≤ l.furthest;
  last_is : l.last ≡ place_in l.self l.past;
  order : l.from ≤ l.last;
  within : l.last ≤ l.self.content;
  short : l.last - l.from ≤ l.longest;
}

abbrev pub decreases-rows : goal.decreases-rows
decreases-rows l = l.furthest - l.past
