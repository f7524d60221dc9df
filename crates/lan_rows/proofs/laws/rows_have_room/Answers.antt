use Rattle.lan_rows.proofs.RowRoom.{rows_have_room}
use Rattle.lan_rows.proofs.laws.rows_have_room.Goals as goal

pub returns : goal.returns
returns c = rows_have_room
