-- In each fragment of a manifest the leaves of a top field are given all or none.
pub use Rattle.lan_read.proofs.ReadableFields.{manifest_fields, manifest_whole}
