-- What a shelf of objects has counted.
use Rattle.std.specs.Prelude.{◌≡◌}
use Rattle.lan_store.specs.declared.shelf.Shelf.{Shelf}

-- nothing was asked between these two
pub record SameCounts (old new : Shelf) : Type 0 where
  pub gets : new.gets ≡ old.gets
  pub got : new.got ≡ old.got
  pub clashes : new.clashes ≡ old.clashes
