use Rattle.std.proofs.Common.{◌≡◌, ◌-◌, take, drop}
use Rattle.lan_levels.specs.PlainSlots.{plain_slots}
use Rattle.lan_page.proofs.piece_rows.PieceRows.run.Given as goal

abbrev pub invariant-loop-i : goal.invariant-loop-i
invariant-loop-i l = plain_slots l.slots ≡ take (l.i - l.self-inside.begin) (drop l.self-inside.begin l.self-inside.slots)
