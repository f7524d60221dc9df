-- What the store has to do with the answer of a change.
use Rattle.std.specs.Prelude.{Bool, true, false, Option, Some, None, Result, Err}
use Rattle.lan_store.specs.declared.name.Name.{Name}
use Rattle.lan_commit.specs.declared.committing.CommitFault.{CommitFault}
use Rattle.lan_commit.specs.declared.committing.CommitFault.TheVariants.{Raced, Store}

-- the name at which the store failed
abbrev pub change_failure : {A : Type 0} → Result A CommitFault → Option Name
change_failure (Err (Store name)) = Some name
change_failure result = None

-- whether the name of an object to be put was held
abbrev pub change_clashed : {A : Type 0} → Result A CommitFault → Bool
change_clashed (Err (Raced name)) = true
change_clashed result = false
