-- The laws' terms: what a proof of another crate cites of this one.
pub use Rattle.lan_page.proofs.Refutes.{reasons_refute}
pub use Rattle.lan_page.proofs.ColumnsRefute.{columns_refute}
