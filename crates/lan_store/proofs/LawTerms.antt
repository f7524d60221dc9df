-- The laws' terms: what a proof of another crate cites of this one.
pub use Rattle.lan_store.proofs.Calling.{looked_then, looked_within, looked_not, stored_then, stored_looked, stored_within, spends_step, spends_then, spends_beside, asks_of}
pub use Rattle.lan_store.proofs.Held.{listing_has, folder_has}
pub use Rattle.lan_store.proofs.HeldMore.{held_more, held_behind, held_either, first_held, not_first}
pub use Rattle.lan_store.proofs.Told.{and_then_bytes-twice}
