use Rattle.lan_read.proofs.ReadableFields.{manifest_columns, manifest_readable, manifest_undeleted}
use Rattle.lan_read.proofs.laws.manifests_can_be_read.Goals as goal

pub returns : goal.returns
returns c = record { columns = manifest_columns; undeleted = manifest_undeleted; readable = manifest_readable }
