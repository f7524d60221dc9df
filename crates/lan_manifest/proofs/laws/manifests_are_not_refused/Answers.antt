use Rattle.lan_manifest.proofs.LawTerms.{object_refused}
use Rattle.lan_manifest.proofs.laws.manifests_are_not_refused.Goals as goal

pub returns : goal.returns
returns c = object_refused
