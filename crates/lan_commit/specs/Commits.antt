-- What becomes of the objects of a change.
use Rattle.std.specs.Prelude.{◌≡◌, ℕ, ◌+◌, ◌<◌, ◌⊎◌, List, length, slice_get, option_map, Option, Some, Result, Ok, Err}
use Rattle.std.specs.Option.{ForSome}
use Rattle.lan_store.specs.Objects.{and_then}
use Rattle.lan_store.specs.PutsAll.{HasFirst, IsHeldAt}
use Rattle.lan_store.specs.declared.name.Name.{Name}
use Rattle.lan_store.specs.declared.name.Object.{Object}
use Rattle.lan_commit.specs.declared.committing.CommitFault.{CommitFault}
use Rattle.lan_commit.specs.declared.committing.CommitFault.TheVariants.{AlreadyThere, Limit, Raced, Store, Memory}

abbrev pub IsNameAt : List Object → ℕ → Name → Type 0
IsNameAt puts k name = option_map (λ o. o.name) (slice_get puts k) ≡ Some name

-- all of the change's objects were put; or those before the place where it stopped, and at a failure maybe that one too
abbrev pub Commits : List Object → Option (List Object) → Option (List Object) → Result Unit CommitFault → Type 0
Commits puts before now (Ok _) = now ≡ and_then before puts
Commits puts before now (Err (AlreadyThere version)) = ⊥
Commits puts before now (Err (Limit which number)) = ⊥
Commits puts before now (Err (Raced name)) = (k : ℕ) × (k < length puts) × IsNameAt puts k name × HasFirst k puts before now × ForSome before (IsHeldAt k puts)
Commits puts before now (Err (Store name)) = (k : ℕ) × (k < length puts) × IsNameAt puts k name × (HasFirst k puts before now ⊎ HasFirst (k + 1) puts before now)
Commits puts before now (Err Memory) = (k : ℕ) × (k < length puts) × HasFirst k puts before now
