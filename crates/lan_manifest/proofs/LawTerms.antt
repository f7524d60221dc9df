-- The laws' terms: what a proof of another crate cites of this one.
pub use Rattle.lan_manifest.proofs.Listing.{manifest_name_injective}
pub use Rattle.lan_manifest.proofs.FewFragments.{few_fragments, few_files}
pub use Rattle.lan_manifest.proofs.LeafIds.{leaves_listed}
pub use Rattle.lan_manifest.proofs.OneObject.{one_object, object_refused}
pub use Rattle.lan_manifest.proofs.WrittenAgain.{written_again}
