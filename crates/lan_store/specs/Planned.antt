-- Where stores in memory fail, and what they then leave.
use Rattle.std.specs.Prelude.{◌≡◌, ◌⊎◌, ◌==◌, List, find, Bool, true, false, IsTrue, IsSome, Option, Some, None, Result, Ok}
use Rattle.std.specs.List.{list_any}
use Rattle.lan_store.specs.Calls.{next_call}
use Rattle.lan_store.specs.InMemory.{memory_objects}
use Rattle.lan_store.specs.Objects.{object}
use Rattle.lan_store.specs.Puts.{Puts}
use Rattle.lan_store.specs.declared.blind.BlindStore.{BlindStore}
use Rattle.lan_store.specs.declared.memory.MemStore.{MemStore}
use Rattle.lan_store.specs.declared.memory.Plan.{Plan}
use Rattle.lan_store.specs.declared.name.Name.{Name}
use Rattle.lan_store.specs.declared.name.Object.{Object}
use Rattle.lan_store.specs.declared.store.Put.{Put}
use Rattle.lan_store.specs.declared.store.Put.TheVariants.{Exists}
use Rattle.lan_store.specs.declared.store.PutFault.{PutFault}

-- the plan of the next call
abbrev pub next_plan : MemStore → Option Plan
next_plan store = find (λ p. p.call == next_call store.calls) store.plans

-- the call is counted; where it was planned it failed, or memory was short, and where it wasn't it didn't fail
pub record AsPlanned (Failed Short : Type 0) (old new : MemStore) : Type 0 where
  pub counted : new.calls ≡ next_call old.calls
  pub plans : new.plans ≡ old.plans
  pub planned : IsSome (next_plan old) → Failed ⊎ Short
  pub unplanned : next_plan old ≡ None → Failed → ⊥

-- a put that fails after its effect leaves an object of the name, and one that fails before it leaves all as it was
abbrev pub LeavesPut : Bool → Name → List Object → List Object → Type 0
LeavesPut true name old new = IsSome (object new name)
LeavesPut false name old new = new ≡ old

-- a put that failed left what was planned
abbrev pub LeavesPlanned : Option Plan → Name → List Object → List Object → Type 0
LeavesPlanned None name old new = ⊥
LeavesPlanned (Some plan) name old new = LeavesPut plan.after name old new

-- the next put is one of those that are to find their names held
abbrev pub IsStated : BlindStore → Type 0
IsStated store = IsTrue (list_any (λ put. put == next_call store.puts) store.exists)

-- a stated put finds its name held, and changes nothing; any other is the store's own
pub record AsStated (more : Object) (result : Result Put PutFault) (old new : BlindStore) : Type 0 where
  pub counted : new.puts ≡ next_call old.puts
  pub exists : new.exists ≡ old.exists
  pub stated : IsStated old → (result ≡ Ok Exists) × (new.store ≡ old.store)
  pub others : (IsStated old → ⊥) → Puts more (Some (memory_objects old.store)) (Some (memory_objects new.store)) result
