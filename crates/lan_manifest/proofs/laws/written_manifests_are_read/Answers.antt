use Rattle.lan_manifest.proofs.LawTerms.{written_again}
use Rattle.lan_manifest.proofs.laws.written_manifests_are_read.Goals as goal

pub returns : goal.returns
returns c = written_again
