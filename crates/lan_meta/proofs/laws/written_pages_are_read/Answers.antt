use Rattle.lan_meta.proofs.KeptBack.{kept_back}
use Rattle.lan_meta.proofs.laws.written_pages_are_read.Goals as goal

pub returns : goal.returns
returns c = kept_back
