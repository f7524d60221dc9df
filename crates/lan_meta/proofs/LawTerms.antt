-- The laws' terms: what a proof of another crate cites of this one.
pub use Rattle.lan_meta.proofs.FewPages.{few_pages}
pub use Rattle.lan_meta.proofs.KeptBack.{kept_back}
pub use Rattle.lan_meta.proofs.OneColumn.{one_column, column_fails}
pub use Rattle.lan_meta.proofs.PagesBack.{column_back}
pub use Rattle.lan_meta.proofs.PageSlots.{one_list}
pub use Rattle.lan_meta.proofs.PageKept.{pages_keep}
