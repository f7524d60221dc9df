-- The laws' terms: what a proof of another crate cites of this one.
pub use Rattle.lan_fresh.proofs.Files.{fresh_is_free}
pub use Rattle.lan_fresh.proofs.PathRules.{path_is_path}
pub use Rattle.lan_fresh.proofs.Paths.{number_of_path}
