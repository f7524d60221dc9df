use Rattle.lan_file.proofs.FileStands.{file_stands}
use Rattle.lan_file.proofs.laws.written_files_have_their_slots.Goals as goal

pub returns : goal.returns
returns c = file_stands
