use Rattle.std.proofs.Common.{◌≡◌, ◌+◌, drop}
use Rattle.lan_page.proofs.RowPlaces.{place}
use Rattle.lan_page.proofs.piece_rows.row_end.Given as goal

abbrev pub invariant-loop-i : goal.invariant-loop-i
invariant-loop-i l = l.i + place l.lists 0 (drop l.i l.slots) ≡ l.at + 1 + place l.lists 0 (drop (l.at + 1) l.slots)
