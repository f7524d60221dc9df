-- What creating a dataset answers, and leaves.
use Rattle.std.specs.Prelude.{◌≡◌, ℕ, ◌⊎◌, ⊤, List, [], ◌∷◌, Option, Some, None, Vec, Result, Ok, Err}
use Rattle.std.specs.Option.{ForSome}
use Rattle.std.specs.declared.alloc.Global.{Global}
use Rattle.lan_model.specs.Plain.{PlainField}
use Rattle.lan_store.specs.declared.name.Object.{Object}
use Rattle.lan_store.specs.Objects.{and_then}
use Rattle.lan_manifest.specs.Versions.{IsNewest, NoneListed, manifest_name}
use Rattle.lan_commit.specs.First.{first_object, first_limit}
use Rattle.lan_commit.specs.declared.committing.CommitFault.{CommitFault}
use Rattle.lan_commit.specs.declared.committing.CommitFault.TheVariants.{AlreadyThere, Limit, Raced, Store, Memory}

-- none was listed, no limit is reached, and the objects have exactly the new dataset's manifest more
pub record IsCreated (fields : List (PlainField ℕ)) (before now : Option (List Object)) : Type 0 where
  pub none : ForSome before NoneListed
  pub short : first_limit fields ≡ None
  pub grew : now ≡ and_then before (first_object fields ∷ [])

-- before and now are the store's objects, where it tells
abbrev pub Creates : List (PlainField ℕ) → Option (List Object) → Option (List Object) → Result ℕ CommitFault → Type 0
Creates fields before now (Ok version) = (version ≡ 1) × IsCreated fields before now
Creates fields before now (Err (AlreadyThere version)) = ForSome before (λ all. IsNewest all version) × (now ≡ before)
Creates fields before now (Err (Limit which number)) = ForSome before NoneListed × (first_limit fields ≡ Some (which, number)) × (now ≡ before)
Creates fields before now (Err (Raced name)) = (name ≡ manifest_name 1) × ForSome before (λ _. ⊥) × (now ≡ before)
Creates fields before now (Err (Store name)) = (now ≡ before) ⊎ IsCreated fields before now
Creates fields before now (Err Memory) = now ≡ before

-- the one object of a new dataset, where none is listed and no limit is reached
abbrev pub PreparesCreate : List (PlainField ℕ) → Option (List Object) → Result (Vec Object Global) CommitFault → Type 0
PreparesCreate fields before (Ok puts) = ForSome before NoneListed × (first_limit fields ≡ None) × (puts.items ≡ first_object fields ∷ [])
PreparesCreate fields before (Err (AlreadyThere version)) = ForSome before (λ all. IsNewest all version)
PreparesCreate fields before (Err (Limit which number)) = ForSome before NoneListed × (first_limit fields ≡ Some (which, number))
PreparesCreate fields before (Err (Raced name)) = ⊥
PreparesCreate fields before (Err (Store name)) = ⊤
PreparesCreate fields before (Err Memory) = ⊤
