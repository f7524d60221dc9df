use Rattle.lan_manifest.proofs.LawTerms.{one_object}
use Rattle.lan_manifest.proofs.laws.objects_stand_for_one_manifest.Goals as goal

pub returns : goal.returns
returns c = one_object
