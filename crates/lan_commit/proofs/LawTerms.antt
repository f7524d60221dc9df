-- The laws' terms: what a proof of another crate cites of this one.
pub use Rattle.lan_commit.proofs.ChangeNames.{change_named}
pub use Rattle.lan_commit.proofs.ChangeStands.{change_agrees, change_stands, change_unseen}
pub use Rattle.lan_commit.proofs.Created.{first_not_held}
pub use Rattle.lan_commit.proofs.NumberedFields.{numbered_stored}
