-- The laws' terms: what a proof of another crate cites of this one.
pub use Rattle.lan_wire.proofs.FaultsHold.{no_item, no_items, one_fault}
pub use Rattle.lan_wire.proofs.ItemSizes.{few_parts}
pub use Rattle.lan_wire.proofs.MessageLaws.{front_not_nil, items_append, items_unique}
pub use Rattle.lan_wire.proofs.NumberLists.{numbers_are}
pub use Rattle.lan_wire.proofs.NumbersFit.{num_fits, nums_fit}
pub use Rattle.lan_wire.proofs.OneFault.{one_failure}
pub use Rattle.lan_wire.proofs.OneMember.{one_member, refused_part}
pub use Rattle.lan_wire.proofs.OneReading.{one_reading, no_reading}
pub use Rattle.lan_wire.proofs.SaidFits.{small_fits, signed_fits, text_fits, signeds_fit}
pub use Rattle.lan_wire.proofs.SpellingLaws.{one_item, same_read}
pub use Rattle.lan_wire.proofs.Varints.{length-varint}
pub use Rattle.lan_wire.proofs.WrittenItems.{written_read, all_short}
pub use Rattle.lan_wire.proofs.WrittenLaws.{number_spelled, part_spelled, list_spelled, below_64, signed_again, signed_only, text_again}
pub use Rattle.lan_wire.proofs.WrittenValues.{num_back, small_back, maybe_small_back, maybe_small_absent, signed_back, flag_back, text_back, part_back, part_absent, parts_back, nums_back, signeds_back}
