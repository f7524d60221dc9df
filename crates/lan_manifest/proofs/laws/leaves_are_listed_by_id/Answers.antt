use Rattle.lan_manifest.proofs.LawTerms.{leaves_listed}
use Rattle.lan_manifest.proofs.laws.leaves_are_listed_by_id.Goals as goal

pub returns : goal.returns
returns c = leaves_listed
