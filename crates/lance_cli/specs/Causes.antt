-- Why a command is refused, on the objects at its step: one word a fault.
use Rattle.std.specs.Prelude.{◌≡◌, ◌⊎◌, ℕ, ⊤, List, map, IsTrue, Option, Some, None, Err}
use Rattle.std.specs.Option.{ForSome}
use Rattle.lan_model.specs.After.{no_column}
use Rattle.lan_model.specs.Plain.{unnumbered}
use Rattle.lan_model.specs.Table.{Table}
use Rattle.lan_store.specs.declared.name.Name.{Name}
use Rattle.lan_store.specs.declared.name.Object.{Object}
use Rattle.lan_manifest.specs.Manifests.{PlainManifest}
use Rattle.lan_manifest.specs.Versions.{IsListed, IsNewest, NoneListed}
use Rattle.lan_rows.specs.Lines.{rows_of}
use Rattle.lan_rows.specs.declared.lines.LinesFault.{LinesFault}
use Rattle.lan_read.specs.Opening.{IsAskedFor, ManifestReasonStands}
use Rattle.lan_read.specs.Scans.{RefusesScan}
use Rattle.lan_read.specs.Snapshots.{IsNewestManifest}
use Rattle.lan_read.specs.Tables.{StandsFor}
use Rattle.lan_read.specs.declared.read_fault.Reason.{Reason}
use Rattle.lan_read.specs.declared.read_fault.ReadFault.TheVariants as unread
use Rattle.lan_commit.specs.Change.{Change}
use Rattle.lan_commit.specs.ChangePuts.{limit_of}
use Rattle.lan_commit.specs.Makes.{ComesAfter}
use Rattle.lan_commit.specs.declared.limits.Which.{Which}
use Rattle.lance_cli.specs.Commands.{Asked, create, append, restore, scan, schema, versions, needs_dataset, is_change, Request}
use Rattle.lance_cli.specs.Creates.{IsTaken, RefusesForm}
use Rattle.lance_cli.specs.Faults.{of_lines}
use Rattle.lance_cli.specs.Options.{Options}
use Rattle.lance_cli.specs.Puts.{AsksChange}
use Rattle.lance_cli.specs.Scanning.{IsAskedManifest, IsScanned, places_asked}
use Rattle.lance_cli.specs.declared.fault.Fault.{Fault}
use Rattle.lance_cli.specs.declared.fault.Fault.TheVariants as fault

-- ---- what each command brings

-- a version that the command reads; a restore reads two, where the one that it names is listed
abbrev pub Reads : List Object → Asked → ℕ → Type 0
Reads objects (create json) version = ⊥
Reads objects append version = IsNewest objects version
Reads objects (restore old) version = IsListed objects old × (IsNewest objects version ⊎ (version ≡ old))
Reads objects (scan options) version = IsAskedFor objects options.version version
Reads objects (schema asked) version = IsAskedFor objects asked version
Reads objects versions version = ⊥

-- the version that the command names by its number
abbrev pub named_version : Asked → Option ℕ
named_version (restore version) = Some version
named_version (scan options) = options.version
named_version (schema version) = version
named_version asked = None

-- the reason stands in what the rows of the version are read of
pub record StandsInRows (objects : List Object) (options : Options) (version : ℕ) (name : Name) (why : Reason) (place : ℕ) : Type 0 where
  pub manifest : PlainManifest
  pub numbered : manifest.version ≡ version
  pub places : List ℕ
  pub reads : IsScanned objects options.version options.columns manifest places
  pub refuses : RefusesScan objects manifest places (unread.Outside name why place)

-- the reason stands in what the command reads of the version: one that prints rows reads these too, and the others its manifest
abbrev pub StandsIn : Asked → List Object → ℕ → Name → Reason → ℕ → Type 0
StandsIn (scan options) objects version name why place = ManifestReasonStands objects version name why place ⊎ StandsInRows objects options version name why place
StandsIn asked objects version name why place = ManifestReasonStands objects version name why place

-- a line is no row of the newest manifest's fields, and the fault says which is the first, and why
abbrev pub RefusesLines : List (ℕ × List ℕ) → Fault → List Object → Type 0
RefusesLines lines f objects = (m : PlainManifest) × (why : LinesFault) × IsNewestManifest objects m × (rows_of (map unnumbered m.fields) lines ≡ Err why) × (f ≡ of_lines why)

-- the command's own words are outside of their form, and the fault says why, at the number of their line
abbrev pub BadWords : Asked → ℕ → Fault → Type 0
BadWords (create json) line f = RefusesForm json line f
BadWords asked line f = ⊥

-- its words or one of its lines are outside of their form
abbrev pub BadInput : Option (List Object) → Request → Asked → Fault → Type 0
BadInput objects r (create json) f = RefusesForm json r.line f
BadInput objects r append f = ForSome objects (RefusesLines r.lines f)
BadInput objects r asked f = ⊥

-- a new dataset is asked for
abbrev pub Makes : Asked → Type 0
Makes (create json) = IsTaken json
Makes asked = ⊥

-- the version that is named isn't listed, and the newest is
abbrev pub LacksVersion : Asked → ℕ → ℕ → List Object → Type 0
LacksVersion asked version newest objects = (named_version asked ≡ Some version) × (IsListed objects version → ⊥) × IsNewest objects newest

-- no column of the version that is asked for has the name
abbrev pub LacksColumn : Asked → List ℕ → List Object → Type 0
LacksColumn (scan options) name objects = (m : PlainManifest) × IsAskedManifest objects options.version m × (places_asked (map unnumbered m.fields) options.columns ≡ Err (no_column name))
LacksColumn asked name objects = ⊥

-- the change that is asked for reaches the limit
abbrev pub Limited : Request → Which → ℕ → List Object → Type 0
Limited r which number objects = (c : Change) × AsksChange objects r r.asked c × ComesAfter objects c × (limit_of objects c ≡ Some (which, number))

-- ---- the causes

-- a version that the command reads stands for no table, and the reason stands in what is read
abbrev pub IsOutside : Asked → Name → Reason → ℕ → List Object → Type 0
IsOutside asked name why place objects = (version : ℕ) × Reads objects asked version × ((t : Table) → StandsFor objects version t → ⊥) × StandsIn asked objects version name why place

-- why the requested command is refused on these objects
abbrev pub Cause : Option (List Object) → Request → Fault → Type 0
Cause objects r (fault.BadInput line why) = BadInput objects r r.asked (fault.BadInput line why)
Cause objects r fault.NoDataset = IsTrue (needs_dataset r.asked) × ForSome objects NoneListed
Cause objects r (fault.AlreadyThere version) = Makes r.asked × ForSome objects (λ all. IsNewest all version)
Cause objects r (fault.NoVersion version newest) = (named_version r.asked ≡ Some version) × ForSome objects (LacksVersion r.asked version newest)
Cause objects r (fault.NoColumn name) = ForSome objects (LacksColumn r.asked name)
Cause objects r (fault.Limit which number) = IsTrue (is_change r.asked) × ForSome objects (Limited r which number)
Cause objects r (fault.Outside name why place) = IsTrue (needs_dataset r.asked) × ForSome objects (IsOutside r.asked name why place)
Cause objects r (fault.Raced name) = IsTrue (is_change r.asked) × ForSome objects (λ all. ⊥)
Cause objects r (fault.StoreFault name) = ⊤
Cause objects r fault.WriteFault = ⊤
Cause objects r fault.Memory = ⊤
Cause objects r f = ⊥
