use Rattle.lan_store.proofs.Held.{listing_has, folder_has}
use Rattle.lan_store.proofs.laws.listings_have_what_is_held.Goals as goal

pub returns : goal.returns
returns c = record { listing = listing_has; folder = folder_has }
