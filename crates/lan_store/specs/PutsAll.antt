-- What `put_all` answers, and leaves.
use Rattle.std.specs.Prelude.{◌≡◌, ℕ, ◌+◌, ◌<◌, ◌⊎◌, List, length, take, slice_get, ◌++◌, IsSome, IfSome, Option, Result, Ok, Err}
use Rattle.std.specs.Option.{ForSome}
use Rattle.lan_store.specs.Objects.{object, and_then}
use Rattle.lan_store.specs.declared.name.Object.{Object}
use Rattle.lan_store.specs.declared.putting.PutAllFault.{PutAllFault}
use Rattle.lan_store.specs.declared.putting.PutAllFault.TheVariants.{Exists, Failed, Memory}

-- exactly the first k of these objects were put
abbrev pub HasFirst : ℕ → List Object → Option (List Object) → Option (List Object) → Type 0
HasFirst k puts before now = now ≡ and_then before (take k puts)

-- the object at this place has a name that is held, by an object from before or by an earlier one of the list
abbrev pub IsHeldAt : ℕ → List Object → List Object → Type 0
IsHeldAt k puts old = IfSome (slice_get puts k) (λ o. IsSome (object (old ++ take k puts) o.name))

-- all were put; or those before the place where it stopped, and at a failure maybe that one too
abbrev pub PutsAll : List Object → Option (List Object) → Option (List Object) → Result Unit PutAllFault → Type 0
PutsAll puts before now (Ok _) = now ≡ and_then before puts
PutsAll puts before now (Err (Exists k)) = (k < length puts) × HasFirst k puts before now × ForSome before (IsHeldAt k puts)
PutsAll puts before now (Err (Failed k)) = (k < length puts) × (HasFirst k puts before now ⊎ HasFirst (k + 1) puts before now)
PutsAll puts before now (Err Memory) = (k : ℕ) × (k < length puts) × HasFirst k puts before now
