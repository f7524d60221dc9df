use Rattle.lan_meta.proofs.PageKept.{pages_keep}
use Rattle.lan_meta.proofs.laws.pages_keep_rules.Goals as goal

pub returns : goal.returns
returns c = pages_keep
