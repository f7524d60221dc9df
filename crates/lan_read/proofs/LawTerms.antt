-- The laws' terms: what a proof of another crate cites of this one.
pub use Rattle.lan_read.proofs.ChangedRows.{fragment_empty, fragment_more}
pub use Rattle.lan_read.proofs.ChangedTables.{add_column_stands, add_null_stands, agreement_stays, append_stands, create_stands, drop_column_stands, restore_stands}
pub use Rattle.lan_read.proofs.JoinedRows.{fragment_joins, join_fragment, row_joined, value_joined, version_joins, version_stands}
pub use Rattle.lan_read.proofs.KeptTables.{fragments_stay, table_stays}
pub use Rattle.lan_read.proofs.LeafReasons.{no_leaf_fragment, no_leaf_rows, no_leaf_table}
pub use Rattle.lan_read.proofs.Newest.{newest_is, none_is, last_is}
pub use Rattle.lan_read.proofs.OneScanDue.{one_scan_due}
pub use Rattle.lan_read.proofs.OpenedVersions.{manifest_or_reason, table_or_reason}
pub use Rattle.lan_read.proofs.ReadableFields.{columns_at, manifest_columns, manifest_readable, manifest_undeleted, readable_at}
pub use Rattle.lan_read.proofs.RowRuns.{no_fragment, no_rows, no_table}
pub use Rattle.lan_read.proofs.ScanBudgets.{scan_due}
pub use Rattle.lan_read.proofs.ScanReasons.{no_scan_fragment, no_scan_table, no_scan_value}
pub use Rattle.lan_read.proofs.ScannedTables.{scanned_front, scanned_table, table_fits}
pub use Rattle.lan_read.proofs.SingleTable.{front_of_rows, one_manifest_held, one_table_for, rows_given}
pub use Rattle.lan_read.proofs.WholeFields.{manifest_fields, manifest_whole}
pub use Rattle.lan_read.proofs.WrittenFiles.{column_written, fragment_written}
