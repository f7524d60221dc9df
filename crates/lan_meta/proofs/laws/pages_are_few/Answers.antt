use Rattle.lan_meta.proofs.FewPages.{few_pages}
use Rattle.lan_meta.proofs.laws.pages_are_few.Goals as goal

pub returns : goal.returns
returns c = few_pages
