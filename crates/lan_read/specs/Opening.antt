-- What opening a version answers, and why a version isn't opened.
use Rattle.std.specs.Prelude.{◌≡◌, ◌≢◌, ℕ, ◌+◌, ◌-◌, ◌<◌, ◌≤◌, ◌^◌, ⊤, List, length, sum_by, IsSomeAnd, Option, Some, None, Result, Ok, Err}
use Rattle.lan_schema.specs.declared.fault.SchemaFault.{SchemaFault}
use Rattle.lan_schema.specs.declared.fault.SchemaFault.TheVariants as schema
use Rattle.lan_store.specs.declared.name.Name.{Name}
use Rattle.lan_store.specs.declared.name.Object.{Object}
use Rattle.lan_store.specs.Objects.{object}
use Rattle.lan_manifest.specs.declared.fault.ManifestFault.{ManifestFault}
use Rattle.lan_manifest.specs.declared.fault.ManifestFault.TheVariants as fault
use Rattle.lan_manifest.specs.Frame.{place_in}
use Rattle.lan_manifest.specs.ManifestObjects.{IsManifestObject, RefusesManifest}
use Rattle.lan_manifest.specs.Manifests.{plain_manifest}
use Rattle.lan_manifest.specs.Versions.{IsListed, IsNewest, NoneListed, manifest_name}
use Rattle.lan_manifest.specs.declared.manifest.Fragment.{Fragment}
use Rattle.lan_manifest.specs.declared.manifest.Manifest.{Manifest}
use Rattle.lan_read.specs.Scanned.{deleted_in}
use Rattle.lan_read.specs.Tables.{HasManifest}
use Rattle.lan_read.specs.declared.object.ObjectFault.{ObjectFault}
use Rattle.lan_read.specs.declared.object.ObjectFault.TheVariants as misread
use Rattle.lan_read.specs.declared.read_fault.Reason.{Reason}
use Rattle.lan_read.specs.declared.read_fault.Reason.TheVariants as reason
use Rattle.lan_read.specs.declared.read_fault.ReadFault.{ReadFault}
use Rattle.lan_read.specs.declared.read_fault.ReadFault.TheVariants as unread

-- the object's bytes, of which it has at most 2^30, or why they aren't read
abbrev pub ObjectIs : Option (List ℕ) → Result (List ℕ) ObjectFault → Type 0
ObjectIs held (Ok bytes) = (held ≡ Some bytes) × (length bytes ≤ 2 ^ 30)
ObjectIs held (Err misread.Missing) = held ≡ None
ObjectIs held (Err (misread.Size size)) = IsSomeAnd held (λ bytes. (2 ^ 30 < length bytes) × (size ≡ length bytes))
ObjectIs held (Err misread.Short) = ⊥
ObjectIs held (Err misread.Failed) = ⊤
ObjectIs held (Err misread.Memory) = ⊤

-- where a fault of the fields lies: at the key of what can't be read, and else at the message's front
abbrev pub schema_place : ℕ → SchemaFault → ℕ
schema_place message (schema.Wire broken) = broken.at
schema_place message why = message

-- the same of a fault in an object of so many bytes, whose message begins at a place
abbrev pub place_among : ℕ → ℕ → ManifestFault → ℕ
place_among size message fault.TooShort = size
place_among size message fault.Magic = size - 4
place_among size message fault.Region = size - 16
place_among size message (fault.Wire broken) = broken.at
place_among size message (fault.Schema why) = schema_place message why
place_among size message why = message

abbrev pub fault_place : List ℕ → ManifestFault → ℕ
fault_place bytes why = place_among (length bytes) (place_in bytes + 4) why

-- the bytes stand for no manifest of the version, and the fault is at the place
pub record RefusesBytes (version : ℕ) (why : ManifestFault) (place : ℕ) (bytes : List ℕ) : Type 0 where
  pub small : length bytes ≤ 2 ^ 30
  pub refuses : RefusesManifest (record { base = 0; bytes = bytes }) version why
  pub no_want : why ≢ fault.Memory
  pub at : place ≡ fault_place bytes why

-- the reason stands at the place in what is held as the manifest of a version
abbrev pub StandsInHeld : Option (List ℕ) → ℕ → Reason → ℕ → Type 0
StandsInHeld held version reason.Missing place = (held ≡ None) × (place ≡ 0)
StandsInHeld held version reason.Size place = IsSomeAnd held (λ bytes. (2 ^ 30 < length bytes) × (place ≡ length bytes))
StandsInHeld held version (reason.Manifest why) place = IsSomeAnd held (RefusesBytes version why place)
StandsInHeld held version why place = ⊥

-- the name is that of the version's manifest, and the reason stands at the place in what is held under it
pub record ManifestReasonStands (objects : List Object) (version : ℕ) (name : Name) (why : Reason) (place : ℕ) : Type 0 where
  pub named : name ≡ manifest_name version
  pub stands : StandsInHeld (object objects name) version why place

-- the version is listed and asked for: the newest, where none is asked by number
abbrev pub IsAskedFor : List Object → Option ℕ → ℕ → Type 0
IsAskedFor objects None version = IsNewest objects version
IsAskedFor objects (Some asked) version = IsListed objects version × (version ≡ asked)

-- the manifest of the version that is asked for, or why there is none
abbrev pub Opens : List Object → Option ℕ → Result Manifest ReadFault → Type 0
Opens objects asked (Ok m) = IsAskedFor objects asked m.version × HasManifest objects m.version (plain_manifest m)
Opens objects asked (Err unread.NoDataset) = NoneListed objects
Opens objects asked (Err (unread.NoVersion version newest)) = (asked ≡ Some version) × (IsListed objects version → ⊥) × IsNewest objects newest
Opens objects asked (Err (unread.Outside name why place)) = (version : ℕ) × IsAskedFor objects asked version × ManifestReasonStands objects version name why place
Opens objects asked (Err (unread.Store name)) = ⊤
Opens objects asked (Err unread.Memory) = ⊤

-- the same of a version that is listed
abbrev pub OpensListed : List Object → ℕ → Result Manifest ReadFault → Type 0
OpensListed objects version (Ok m) = (m.version ≡ version) × HasManifest objects version (plain_manifest m)
OpensListed objects version (Err (unread.Outside name why place)) = ManifestReasonStands objects version name why place
OpensListed objects version (Err (unread.Store name)) = ⊤
OpensListed objects version (Err unread.Memory) = ⊤
OpensListed objects version (Err fault) = ⊥

-- the manifest of the version that the bytes of the object of this name stand for, or why they stand for none
abbrev pub ReadsBytes : ℕ → Name → List ℕ → Result Manifest ReadFault → Type 0
ReadsBytes version name bytes (Ok m) = IsManifestObject (record { base = 0; bytes = bytes }) version (plain_manifest m)
ReadsBytes version name bytes (Err (unread.Outside object why place)) = (object ≡ name) × StandsInHeld (Some bytes) version why place
ReadsBytes version name bytes (Err unread.Memory) = ⊤
ReadsBytes version name bytes (Err fault) = ⊥

-- why no versions are listed
abbrev pub RefusesListing : List Object → ReadFault → Type 0
RefusesListing objects unread.NoDataset = NoneListed objects
RefusesListing objects (unread.Store name) = ⊤
RefusesListing objects unread.Memory = ⊤
RefusesListing objects fault = ⊥

-- how many rows fragments have in all that aren't deleted
abbrev pub rows_in : List Fragment → ℕ
rows_in fragments = sum_by (λ (f : Fragment). f.rows - deleted_in f.deletion) fragments
