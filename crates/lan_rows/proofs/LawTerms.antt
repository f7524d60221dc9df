-- The laws' terms: what a proof of another crate cites of this one.
pub use Rattle.lan_rows.proofs.FewRows.{few_lines, few_rows}
pub use Rattle.lan_rows.proofs.LineTells.{line_tells}
pub use Rattle.lan_rows.proofs.RowRoom.{rows_have_room}
pub use Rattle.lan_rows.proofs.RowsStep.{rows_step, rows_begin, rows_on}
pub use Rattle.lan_rows.proofs.RowStands.{line_is}
