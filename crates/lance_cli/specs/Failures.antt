-- What the store has to do with an answer.
use Rattle.std.specs.Prelude.{Bool, true, false, Option, Some, None, Result, Err}
use Rattle.lan_store.specs.declared.name.Name.{Name}
use Rattle.lance_cli.specs.declared.fault.Fault.{Fault}
use Rattle.lance_cli.specs.declared.fault.Fault.TheVariants.{Raced, StoreFault}

-- the name at which it failed
abbrev pub failure_of : {A : Type 0} → Result A Fault → Option Name
failure_of (Err (StoreFault name)) = Some name
failure_of result = None

-- whether the name of an object to be put was held
abbrev pub clashed : {A : Type 0} → Result A Fault → Bool
clashed (Err (Raced name)) = true
clashed result = false
