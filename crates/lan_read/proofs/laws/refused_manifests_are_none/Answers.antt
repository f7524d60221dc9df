use Rattle.lan_read.proofs.OpenedVersions.{manifest_or_reason, table_or_reason}
use Rattle.lan_read.proofs.laws.refused_manifests_are_none.Goals as goal

pub returns : goal.returns
returns c = record { manifest = manifest_or_reason; table = table_or_reason }
