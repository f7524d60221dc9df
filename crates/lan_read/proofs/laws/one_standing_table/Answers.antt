use Rattle.lan_read.proofs.SingleTable.{one_manifest_held, one_table_for, rows_given}
use Rattle.lan_read.proofs.laws.one_standing_table.Goals as goal

pub returns : goal.returns
returns c = record { table = one_table_for; manifest = one_manifest_held; rows = rows_given }
