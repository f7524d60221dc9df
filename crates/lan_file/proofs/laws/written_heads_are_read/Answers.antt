use Rattle.lan_file.proofs.FileBack.{file_back}
use Rattle.lan_file.proofs.laws.written_heads_are_read.Goals as goal

pub returns : goal.returns
returns c = file_back
