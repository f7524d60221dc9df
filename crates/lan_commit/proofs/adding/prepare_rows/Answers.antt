use Rattle.lan_manifest.specs.Manifests.{plain_manifest}
use Rattle.lan_commit.proofs.Snapshots.{snapshot_columns}
use Rattle.lan_commit.proofs.adding.prepare_rows.Goals as goal

pub rows_objects-requires-clause-columns : goal.rows_objects-requires-clause-columns
rows_objects-requires-clause-columns g c = snapshot_columns (plain_manifest c.args.base) c.requires.snapshot
