use Rattle.lan_file.proofs.WrittenFile.{slots_are_a_file}
use Rattle.lan_file.proofs.laws.files_of_slots_are_files.Goals as goal

pub returns : goal.returns
returns c = slots_are_a_file
