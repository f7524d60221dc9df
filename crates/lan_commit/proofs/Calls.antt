-- Steps of a change that call no store.
use Rattle.std.proofs.Common.{◌≡◌, refl, ℕ, List}
use Rattle.std.specs.Prelude.{false, Option, None, Result, Ok, Err, IsErrOf}
use Rattle.lan_store.specs.Budget.{Budget}
use Rattle.lan_store.specs.Looked.{Looked}
use Rattle.lan_store.specs.Telling.{Telling}
use Rattle.lan_store.specs.declared.name.Name.{Name}
use Rattle.lan_store.specs.declared.name.Object.{Object}
use Rattle.lan_model.specs.Plain.{PlainField}
use Rattle.lan_commit.specs.Creates.{PreparesCreate}
use Rattle.lan_commit.specs.Failures.{change_failure, change_clashed}
use Rattle.lan_commit.specs.declared.committing.CommitFault.{CommitFault}
use Rattle.lan_commit.specs.declared.committing.CommitFault.TheVariants.{AlreadyThere, Limit, Raced, Store, Memory}

-- an answer that is no failure of the store leaves a look as it was
pub unfailed : {A : Type 0} (result : Result A CommitFault) (most : Budget) (s t : Telling) → ((name : Name) → IsErrOf result (Store name) → ⊥) → Looked None most s t → Looked (change_failure result) most s t
unfailed (Ok answer) most s t never looked = looked
unfailed (Err (AlreadyThere version)) most s t never looked = looked
unfailed (Err (Limit which number)) most s t never looked = looked
unfailed (Err (Raced name)) most s t never looked = looked
unfailed (Err (Store name)) most s t never looked = absurd (never name refl)
unfailed (Err Memory) most s t never looked = looked

-- what isn't prepared met no name that is held
pub unclashed : (fields : List (PlainField ℕ)) (before : Option (List Object)) (fault : CommitFault) → PreparesCreate fields before (Err fault) → change_clashed {A = ℕ} (Err fault) ≡ false
unclashed fields before (AlreadyThere version) prepares = refl
unclashed fields before (Limit which number) prepares = refl
unclashed fields before (Raced name) prepares = absurd prepares
unclashed fields before (Store name) prepares = refl
unclashed fields before Memory prepares = refl
