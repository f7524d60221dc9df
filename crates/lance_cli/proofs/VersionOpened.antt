-- What it means for a command that a version isn't opened.
use Rattle.std.proofs.Common.{◌≡◌, inl, inr, refl, sym, subst, ℕ, List, true}
use Rattle.std.specs.Prelude.{Option, Some, None, Ok, Err}
use Rattle.std.specs.Option.{ForSome}
use Rattle.lan_store.specs.declared.name.Name.{Name}
use Rattle.lan_store.specs.declared.name.Object.{Object}
use Rattle.lan_manifest.specs.Manifests.{plain_manifest}
use Rattle.lan_manifest.specs.Versions.{IsListed}
use Rattle.lan_manifest.specs.declared.manifest.Manifest.{Manifest}
use Rattle.lan_read.specs.Opening.{IsAskedFor, ManifestReasonStands, Opens}
use Rattle.lan_read.specs.Snapshots.{IsNewestManifest}
use Rattle.lan_read.specs.declared.read_fault.ReadFault.{ReadFault}
use Rattle.lan_read.specs.declared.read_fault.ReadFault.TheVariants as unread
use Rattle.lan_read.specs.declared.read_fault.Reason.{Reason}
use Rattle.lan_read.proofs.LawTerms.{table_or_reason}
use Rattle.lance_cli.specs.Causes.{IsOutside, Reads, StandsIn, named_version}
use Rattle.lance_cli.specs.Commands.{Asked, create, append, restore, scan, schema, versions, needs_dataset, Request}
use Rattle.lance_cli.specs.Faults.{of_read}
use Rattle.lance_cli.specs.Plans.{Plans}

stands_in : (asked : Asked) (old : List Object) (version : ℕ) (name : Name) (why : Reason) (place : ℕ) → ManifestReasonStands old version name why place → StandsIn asked old version name why place
stands_in (create json) old version name why place stands = stands
stands_in append old version name why place stands = stands
stands_in (restore number) old version name why place stands = stands
stands_in (scan options) old version name why place stands = inl stands
stands_in (schema number) old version name why place stands = stands
stands_in versions old version name why place stands = stands

-- a version that the command reads has no manifest, and so no table
pub outside_of : (asked : Asked) (old : List Object) (name : Name) (why : Reason) (place version : ℕ) → Reads old asked version → ManifestReasonStands old version name why place → IsOutside asked name why place old
outside_of asked old name why place version reads stands = (version, reads, (λ t at. table_or_reason old version name why place t stands at), stands_in asked old version name why place stands)

-- a version that is asked for by number, or the newest, and isn't opened: so is the command answered that reads it
pub unopened_plans : (before : Option (List Object)) (r : Request) (asked : Option ℕ) (f : ReadFault) → needs_dataset r.asked ≡ true → ((number : ℕ) → asked ≡ Some number → named_version r.asked ≡ Some number)
    → ((number newest : ℕ) → f ≡ unread.NoVersion number newest → asked ≡ Some number) → ForSome before (λ all. (version : ℕ) → IsAskedFor all asked version → Reads all r.asked version)
    → ForSome before (λ all. Opens all asked (Err f)) → Plans before r (Err (of_read f))
unopened_plans before r asked unread.NoDataset needs names named reads opens = (needs, opens)
unopened_plans before r asked (unread.NoVersion number newest) needs names named reads opens =
    let is = names number (named number newest refl) in
    (is, λ old was. let (also, unlisted, last) = opens old was in (is, unlisted, last))
unopened_plans before r asked (unread.Outside name why place) needs names named reads opens =
    (needs, λ old was. let (version, at, stands) = opens old was in outside_of r.asked old name why place version (reads old was version at) stands)
unopened_plans before r asked (unread.Store name) needs names named reads opens = tt
unopened_plans before r asked unread.Memory needs names named reads opens = tt

-- the newest version's manifest was opened
pub newest_opened : (before : Option (List Object)) (m : Manifest) → ForSome before (λ all. Opens all None (Ok m)) → ForSome before (λ all. IsNewestManifest all (plain_manifest m))
newest_opened before m opens = λ old was. let (newest, has) = opens old was in record { newest = newest; has = has }

pub opened_as : (before : Option (List Object)) (asked : Option ℕ) (m s : Manifest) → m ≡ s → ForSome before (λ all. Opens all asked (Ok s)) → ForSome before (λ all. Opens all asked (Ok m))
opened_as before asked m s same opens = λ all told. subst (λ (n : Manifest). Opens all asked (Ok n)) (sym same) (opens all told)

pub refused_as : (before : Option (List Object)) (asked : Option ℕ) (f h : ReadFault) → f ≡ h → ForSome before (λ all. Opens all asked (Err f)) → ForSome before (λ all. Opens all asked (Err h))
refused_as before asked f h same opens = λ all told. subst (λ (e : ReadFault). Opens all asked (Err e)) same (opens all told)

-- an append reads the newest version
pub append_unopened : (before : Option (List Object)) (line : ℕ) (lines : List (ℕ × List ℕ)) (f : ReadFault) → ((number newest : ℕ) → f ≡ unread.NoVersion number newest → ◌≡◌ {A = Option ℕ} None (Some number)) → ForSome before (λ all. Opens all None (Err f))
    → Plans before (record { asked = append; line = line; lines = lines }) (Err (of_read f))
append_unopened before line lines f named opens =
    unopened_plans before (record { asked = append; line = line; lines = lines }) None f refl (λ n none. absurd (cc none)) named (λ all told v is. is) opens

-- and so does a restore, where the old version is listed
pub newest_unopened : (before : Option (List Object)) (version line : ℕ) (lines : List (ℕ × List ℕ)) (f : ReadFault) → ForSome before (λ all. IsListed all version) → ((number newest : ℕ) → f ≡ unread.NoVersion number newest → ◌≡◌ {A = Option ℕ} None (Some number))
    → ForSome before (λ all. Opens all None (Err f)) → Plans before (record { asked = restore version; line = line; lines = lines }) (Err (of_read f))
newest_unopened before version line lines f listed named opens =
    unopened_plans before (record { asked = restore version; line = line; lines = lines }) None f refl (λ n none. absurd (cc none)) named (λ all told v is. (listed all told, inl is)) opens

pub listed_old : (all : List Object) (version v : ℕ) → IsAskedFor all (Some version) v → IsListed all version
listed_old all version v is = subst (IsListed all) is.1 is.0

-- the old version has no manifest
pub old_outside : (before : Option (List Object)) (version line : ℕ) (lines : List (ℕ × List ℕ)) (name : Name) (why : Reason) (place : ℕ) → ForSome before (λ all. Opens all (Some version) (Err (unread.Outside name why place)))
    → Plans before (record { asked = restore version; line = line; lines = lines }) (Err (of_read (unread.Outside name why place)))
old_outside before version line lines name why place opens = (refl, λ all told. let (v, is, stands) = opens all told in outside_of (restore version) all name why place v (listed_old all version v is, inr is.1) stands)
