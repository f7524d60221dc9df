use Rattle.lan_file.proofs.WrittenRows.{rows_are_a_file}
use Rattle.lan_file.proofs.laws.files_of_rows_are_files.Goals as goal

pub returns : goal.returns
returns c = rows_are_a_file
