-- The laws' terms: what a proof of another crate cites of this one.
pub use Rattle.lan_schema.proofs.ForestLaws.{forest_again}
pub use Rattle.lan_schema.proofs.LeafNames.{names_leaf, named_once}
pub use Rattle.lan_schema.proofs.OneField.{one_field, no_field}
pub use Rattle.lan_schema.proofs.OneReading.{one_reading, no_reading}
pub use Rattle.lan_schema.proofs.ReadBack.{read_back}
pub use Rattle.lan_schema.proofs.TableColumns.{columns_same}
pub use Rattle.lan_schema.proofs.WrittenBack.{read_fields, written_back}
pub use Rattle.lan_schema.proofs.WrittenFields.{written_read, written_before, messages_of}
pub use Rattle.lan_schema.proofs.WrittenTrees.{field_says}
