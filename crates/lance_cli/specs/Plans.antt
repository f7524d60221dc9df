-- How a change is planned, and what becomes of its objects.
use Rattle.std.specs.Prelude.{◌≡◌, ◌⊎◌, ⊤, ℕ, ◌<◌, ◌≤◌, List, length, Option, Result, Ok, Err}
use Rattle.std.specs.Option.{ForSome}
use Rattle.lan_store.specs.Objects.{and_then}
use Rattle.lan_store.specs.PutsAll.{HasFirst, IsHeldAt}
use Rattle.lan_store.specs.Streams.{and_then_bytes}
use Rattle.lan_store.specs.declared.name.Object.{Object}
use Rattle.lance_cli.specs.Reports.{GotPart, version_text}
use Rattle.lance_cli.specs.Causes.{Cause}
use Rattle.lance_cli.specs.Changes.{Change}
use Rattle.lance_cli.specs.Commands.{Request}
use Rattle.lance_cli.specs.Puts.{IsAccepted}
use Rattle.lance_cli.specs.declared.change.Planned.{Planned}
use Rattle.lance_cli.specs.declared.fault.Fault.{Fault}
use Rattle.lance_cli.specs.declared.fault.Fault.TheVariants as fault

-- the request is accepted, and these are its objects and its version; or why it is refused
abbrev pub Plans : Option (List Object) → Request → Result Planned Fault → Type 0
Plans before r (Ok planned) = IsAccepted before r planned.objects.items (version_text planned.version)
Plans before r (Err (fault.StoreFault name)) = ⊤
Plans before r (Err fault.Memory) = ⊤
Plans before r (Err fault.WriteFault) = ⊥
Plans before r (Err (fault.Raced name)) = ⊥
Plans before r (Err f) = Cause before r f

-- the first of the objects were put, so many that the cut takes them
abbrev pub PutFirst : List Object → Change → (ℕ → ℕ → Type 0) → Type 0
PutFirst puts c cut = (k : ℕ) × cut k (length puts) × HasFirst k puts c.before c.now

-- all was put, and the version is printed; or where it stopped
abbrev pub Applies : List Object → ℕ → Change → Result Unit Fault → Type 0
Applies puts version c (Ok _) = (c.now ≡ and_then c.before puts) × (c.holds ≡ and_then_bytes c.held (version_text version))
Applies puts version c (Err (fault.Raced name)) = ((k : ℕ) × (k < length puts) × HasFirst k puts c.before c.now × ForSome c.before (IsHeldAt k puts)) × (c.holds ≡ c.held)
Applies puts version c (Err (fault.StoreFault name)) = PutFirst puts c (λ k n. k ≤ n) × (c.holds ≡ c.held)
Applies puts version c (Err fault.WriteFault) = (c.now ≡ and_then c.before puts) × GotPart (version_text version) c.held c.holds
Applies puts version c (Err fault.Memory) = ((c.now ≡ c.before) ⊎ PutFirst puts c (λ k n. k < n)) × (c.holds ≡ c.held)
Applies puts version c (Err f) = ⊥
