-- The laws' terms: what a proof of another crate cites of this one.
pub use Rattle.lan_form.proofs.ReadBack.{read_back}
pub use Rattle.lan_form.proofs.Unnumbered.{numbers_are_not_printed}
