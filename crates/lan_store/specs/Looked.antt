-- What calls do to a store beside their answers.
use Rattle.std.specs.Prelude.{◌≡◌, ℕ, ◌≤◌, List, [], Bool, true, false, IsTrue, Option, Some, None, IsSome, Result, Ok, Err, slice_get, option_map}
use Rattle.std.specs.Option.{ForSome, option_or}
use Rattle.lan_store.specs.Budget.{Budget, Asks}
use Rattle.lan_store.specs.Causes.{Rose, HasCause}
use Rattle.lan_store.specs.Telling.{Telling}
use Rattle.lan_store.specs.declared.name.Dir.{Dir}
use Rattle.lan_store.specs.declared.name.Name.{Name}
use Rattle.lan_store.specs.declared.name.Object.{Object}
use Rattle.lan_store.specs.declared.putting.PutAllFault.{PutAllFault}
use Rattle.lan_store.specs.declared.putting.PutAllFault.TheVariants as all
use Rattle.lan_store.specs.declared.store.GetFault.{GetFault}
use Rattle.lan_store.specs.declared.store.GetFault.TheVariants as get
use Rattle.lan_store.specs.declared.store.ListFault.{ListFault}
use Rattle.lan_store.specs.declared.store.ListFault.TheVariants as list
use Rattle.lan_store.specs.declared.store.Put.{Put}
use Rattle.lan_store.specs.declared.store.Put.TheVariants.{Exists}
use Rattle.lan_store.specs.declared.store.PutFault.{PutFault}
use Rattle.lan_store.specs.declared.store.PutFault.TheVariants as put
use Rattle.lan_store.specs.declared.store.SizeFault.{SizeFault}
use Rattle.lan_store.specs.declared.store.SizeFault.TheVariants as size

-- the call failed at this name, or at none: the count of faults rose where it failed, and where the store tells, its last failed
-- name is this one, or as it was
pub record Fails (failure : Option Name) (before now : Telling) : Type 0 where
  pub later : before.faults ≤ now.faults
  pub rose : IsSome failure → Rose before.faults now.faults
  pub named : ForSome before.objects (λ _. now.failed ≡ option_or failure before.failed)

-- a call that looks: the objects stay, a store that tells goes on telling, and at most so much was asked
pub record Looked (failure : Option Name) (most : Budget) (before now : Telling) : Type 0 where
  pub kept : now.objects ≡ before.objects
  pub fails : Fails failure before now
  pub asks : Asks most before now
  pub clashes : before.clashes ≤ now.clashes

-- a call that may put objects: at most so much was asked, and the count of clashes rose where a name was held
pub record Stored (failure : Option Name) (most : Budget) (clashed : Bool) (before now : Telling) : Type 0 where
  pub fails : Fails failure before now
  pub asks : Asks most before now
  pub clash : HasCause (IsTrue clashed) before.clashes now.clashes

-- the name at which the store failed, by what was answered
abbrev pub size_failure : Name → Result ℕ SizeFault → Option Name
size_failure name (Err size.Failed) = Some name
size_failure name result = None

abbrev pub get_failure : Name → Result Unit GetFault → Option Name
get_failure name (Err get.Failed) = Some name
get_failure name result = None

-- of a folder it is that of no object in it
abbrev pub list_failure : {A : Type 0} → Dir → Result A ListFault → Option Name
list_failure dir (Err list.Failed) = Some (record { dir = dir; rest = [] })
list_failure dir result = None

abbrev pub put_failure : Name → Result Put PutFault → Option Name
put_failure name (Err put.Failed) = Some name
put_failure name result = None

abbrev pub put_all_failure : List Object → Result Unit PutAllFault → Option Name
put_all_failure puts (Err (all.Failed k)) = option_map (λ o. o.name) (slice_get puts k)
put_all_failure puts result = None

-- whether a name that was to be put was held
abbrev pub put_clashed : Result Put PutFault → Bool
put_clashed (Ok Exists) = true
put_clashed result = false

abbrev pub put_all_clashed : Result Unit PutAllFault → Bool
put_all_clashed (Err (all.Exists k)) = true
put_all_clashed result = false
