-- The laws' terms: what a proof of another crate cites of this one.
pub use Rattle.lan_file.proofs.FileBack.{file_back}
pub use Rattle.lan_file.proofs.FileStands.{file_stands, one_file}
pub use Rattle.lan_file.proofs.HeadLaws.{one_head, no_head_reason}
pub use Rattle.lan_file.proofs.WrittenFile.{slots_are_a_file}
pub use Rattle.lan_file.proofs.WrittenRows.{rows_are_a_file}
