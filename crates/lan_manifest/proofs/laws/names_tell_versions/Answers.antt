use Rattle.lan_manifest.proofs.Listing.{manifest_name_injective}
use Rattle.lan_manifest.proofs.laws.names_tell_versions.Goals as goal

pub returns : goal.returns
returns c = manifest_name_injective
