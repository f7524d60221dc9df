use Rattle.lan_read.proofs.ChangedRows.{fragment_empty, fragment_more}
use Rattle.lan_read.proofs.WrittenFiles.{column_written}
use Rattle.lan_read.proofs.laws.added_files_add_their_values.Goals as goal

pub returns : goal.returns
returns c = record { file = fragment_more; written = column_written; none = fragment_empty }
