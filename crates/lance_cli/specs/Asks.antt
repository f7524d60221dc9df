-- How much a command asks of the store.
use Rattle.std.specs.Prelude.{ℕ, List, Option, Some, None}
use Rattle.std.specs.Option.{ForSome}
use Rattle.lan_store.specs.Budget.{Budget, nothing, ranges, plus, Asks}
use Rattle.lan_store.specs.Telling.{Telling}
use Rattle.lan_store.specs.declared.name.Object.{Object}
use Rattle.lan_manifest.specs.Manifests.{PlainManifest, plain_manifest}
use Rattle.lan_manifest.specs.declared.manifest.Manifest.{Manifest}
use Rattle.lan_read.specs.Scans.{ScanDue, scan_start}
use Rattle.lance_cli.specs.Commands.{Asked, create, append, restore, scan, schema, versions}
use Rattle.lance_cli.specs.Options.{Options}
use Rattle.lance_cli.specs.Scanning.{IsScanned}

-- where the version stands that is asked for, its manifest, and what its rows are due in the asked columns: of each fragment the heads of the
-- files that are used, and of each page of an asked leaf its index, and its pieces once
abbrev pub AsksDue : Options → Telling → Telling → List Object → Type 0
AsksDue options before now all = (m : Manifest) (places : List ℕ) (due : Budget) → IsScanned all options.version options.columns (plain_manifest m) places → ScanDue all (scan_start m places) due → Asks (plus (ranges 1) due) before now

-- where there is no such version, or it has no manifest or lacks a column that is asked for, no more than the manifest
abbrev pub AsksNoRow : Options → Telling → Telling → List Object → Type 0
AsksNoRow options before now all = ((m : PlainManifest) (places : List ℕ) → IsScanned all options.version options.columns m places → ⊥) → Asks (ranges 1) before now

abbrev pub AsksRows : Options → Telling → Telling → List Object → Type 0
AsksRows options before now all = AsksDue options before now all × AsksNoRow options before now all

-- what a command may ask: the manifests that it reads, and one that prints rows what these are due
abbrev pub AsksFor : Asked → Telling → Telling → Type 0
AsksFor (create json) before now = Asks nothing before now
AsksFor append before now = Asks (ranges 1) before now
AsksFor (restore version) before now = Asks (ranges 2) before now
AsksFor (scan options) before now = ForSome before.objects (AsksRows options before now)
AsksFor (schema version) before now = Asks (ranges 1) before now
AsksFor versions before now = Asks nothing before now

-- words that ask for no command ask nothing
abbrev pub AsksBy : Option Asked → Telling → Telling → Type 0
AsksBy None before now = Asks nothing before now
AsksBy (Some asked) before now = AsksFor asked before now
