use Rattle.lan_file.proofs.FileStands.{one_file}
use Rattle.lan_file.proofs.laws.one_file.Goals as goal

pub returns : goal.returns
returns c = one_file
