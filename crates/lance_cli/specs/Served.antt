-- What a command that had its turn did: what it put and printed, and why it was refused.
use Rattle.std.specs.Prelude.{◌≡◌, ◌⊎◌, ℕ, ◌<◌, ◌≤◌, List, ◌++◌, length, take, map, Option, Some, Result, Ok, Err}
use Rattle.std.specs.Option.{ForSome}
use Rattle.lan_model.specs.Plain.{PlainValue, unnumbered}
use Rattle.lan_store.specs.Streams.{and_then_bytes}
use Rattle.lan_store.specs.declared.name.Object.{Object}
use Rattle.lan_manifest.specs.Manifests.{PlainManifest}
use Rattle.lan_read.specs.Scanned.{IsScanFront}
use Rattle.lance_cli.specs.Causes.{Cause}
use Rattle.lance_cli.specs.Changes.{Change}
use Rattle.lance_cli.specs.Commands.{Asked, scan, Request}
use Rattle.lance_cli.specs.Options.{Options}
use Rattle.lance_cli.specs.Puts.{Accepts}
use Rattle.lance_cli.specs.Reports.{GotPart}
use Rattle.lance_cli.specs.Scanning.{IsScanned, lines_at}
use Rattle.lance_cli.specs.declared.fault.Fault.{Fault}
use Rattle.lance_cli.specs.declared.fault.Fault.TheVariants as fault

-- so many of the accepted command's objects were put, in their order
pub record Applied (all : List Object) (c : Change) (r : Request) (cut : ℕ → ℕ → Type 0) : Type 0 where
  pub puts : List Object
  pub text : List ℕ
  pub accepted : Accepts all r puts text
  pub k : ℕ
  pub stopped : cut k (length puts)
  pub grew : c.now ≡ Some (all ++ take k puts)

-- nothing was put, or a part of the accepted command's objects
abbrev pub Stopped : Change → Request → (ℕ → ℕ → Type 0) → Type 0
Stopped c r cut = (c.now ≡ c.before) ⊎ ForSome c.before (λ all. Applied all c r cut)

-- all of the accepted command's objects were put, and this holds of its text
abbrev pub WithText : Change → Request → (List ℕ → Type 0) → Type 0
WithText c r P = ForSome c.before (λ all. (a : Applied all c r (λ k n. k ≡ n)) × P a.text)

-- the manifest of the version that is asked for was read, and this is known of the lines of its first rows, in the asked columns
pub record OnFront (all : List Object) (options : Options) (P : List ℕ → Type 0) : Type 0 where
  pub manifest : PlainManifest
  pub places : List ℕ
  pub reads : IsScanned all options.version options.columns manifest places
  pub rows : List (List PlainValue)
  pub front : IsScanFront all manifest places rows
  pub got : P (lines_at (map unnumbered manifest.fields) places rows)

-- nothing was printed, or whole lines and nothing else, of the first rows
abbrev pub PrintsRows : Option (List ℕ) → Option (List ℕ) → Options → List Object → Type 0
PrintsRows held holds options all = (holds ≡ held) ⊎ OnFront all options (λ text. holds ≡ and_then_bytes held text)

-- a front of the lines of the first rows
abbrev pub PrintsBytes : Option (List ℕ) → Option (List ℕ) → Options → List Object → Type 0
PrintsBytes held holds options all = OnFront all options (λ text. GotPart text held holds)

-- what the sink got before a refusal: nothing, but of a command that prints rows
abbrev pub GotBefore : Asked → Change → Type 0
GotBefore (scan options) c = ForSome c.before (PrintsRows c.held c.holds options)
GotBefore asked c = c.holds ≡ c.held

-- the sink failed: all was put, and the sink got a front of the text
abbrev pub WriteFails : Asked → Change → Request → Type 0
WriteFails (scan options) c r = (c.now ≡ c.before) × ForSome c.before (PrintsBytes c.held c.holds options)
WriteFails asked c r = WithText c r (λ text. GotPart text c.held c.holds)

-- what stands after each answer
abbrev pub Served : Change → Request → Result Unit Fault → Type 0
Served c r (Ok _) = WithText c r (λ text. c.holds ≡ and_then_bytes c.held text)
Served c r (Err fault.WriteFault) = WriteFails r.asked c r
Served c r (Err (fault.StoreFault name)) = Stopped c r (λ k n. k ≤ n) × GotBefore r.asked c
Served c r (Err fault.Memory) = Stopped c r (λ k n. k < n) × GotBefore r.asked c
Served c r (Err (fault.Raced name)) = Cause c.before r (fault.Raced name) × Stopped c r (λ k n. k < n) × (c.holds ≡ c.held)
Served c r (Err (fault.Outside name why place)) = Cause c.before r (fault.Outside name why place) × (c.now ≡ c.before) × GotBefore r.asked c
Served c r (Err f) = Cause c.before r f × (c.now ≡ c.before) × (c.holds ≡ c.held)
