use Rattle.lan_manifest.proofs.LawTerms.{few_fragments, few_files}
use Rattle.lan_manifest.proofs.laws.fragments_and_files_are_few.Goals as goal

pub returns : goal.returns
returns c = record { fragments = few_fragments; files = few_files }
