use Rattle.std.proofs.Common.{◌≡◌, ◌+◌, ◌-◌, ◌≤◌}
use Rattle.lan_page.proofs.RowPlaces.{place}
use Rattle.lan_page.proofs.piece_rows.PieceRows.places.Given as goal

abbrev pub invariant-rows : goal.invariant-rows
invariant-rows l = record {
  behind : l.self-inside.from ≤ l.at;
  before : l.at ≤ l.row;
  begin_is : l.begin ≡ place l.self-inside.lists (l.at - l.self-inside.from) l.self-inside.slots;
  end_is : l.end ≡ place l.self-inside.lists (l.at - l.self-inside.from + 1) l.self-inside.slots;
}

abbrev pub decreases-rows : goal.decreases-rows
decreases-rows l = l.row - l.at
