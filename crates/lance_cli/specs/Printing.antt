-- Which places of a version's fields are found, and what printing its rows at these answers.
use Rattle.std.specs.Prelude.{◌≡◌, ⊤, ℕ, List, [], map, flat_map, Option, Result, Ok, Err}
use Rattle.lan_model.specs.After.{Refusal, no_column}
use Rattle.lan_model.specs.Plain.{PlainValue, unnumbered}
use Rattle.lan_rows.specs.Line.{line_of}
use Rattle.lan_store.specs.Streams.{and_then_bytes}
use Rattle.lan_store.specs.declared.name.Object.{Object}
use Rattle.lan_manifest.specs.Manifests.{PlainManifest}
use Rattle.lan_read.specs.Scanned.{AreScanned, IsScanFront, fields_at}
use Rattle.lan_read.specs.Scans.{RefusesScan}
use Rattle.lan_read.specs.declared.read_fault.ReadFault.{ReadFault}
use Rattle.lan_read.specs.declared.read_fault.ReadFault.TheVariants as unread
use Rattle.lance_cli.specs.Reports.{GotPart}
use Rattle.lance_cli.specs.Scanning.{lines_at}
use Rattle.lance_cli.specs.Sending.{Waits}
use Rattle.lance_cli.specs.declared.fault.Fault.{Fault}
use Rattle.lance_cli.specs.declared.fault.Fault.TheVariants as fault

-- the places that were wanted, or the name that is no column
abbrev pub FindsPlaces : Result (List ℕ) Refusal → Result (List ℕ) Fault → Type 0
FindsPlaces wanted (Ok places) = wanted ≡ Ok places
FindsPlaces wanted (Err (fault.NoColumn name)) = wanted ≡ Err (no_column name)
FindsPlaces wanted (Err fault.Memory) = ⊤
FindsPlaces wanted (Err f) = ⊥

-- what stops a scan, as the program's own fault
abbrev pub stop_of : ReadFault → Fault
stop_of (unread.Outside name why place) = fault.Outside name why place
stop_of (unread.Store name) = fault.StoreFault name
stop_of f = fault.Memory

-- what may stop the lines of rows
abbrev pub MayStop : Fault → Type 0
MayStop (fault.Outside name why place) = ⊤
MayStop (fault.StoreFault name) = ⊤
MayStop fault.WriteFault = ⊤
MayStop fault.Memory = ⊤
MayStop f = ⊥

-- this is known of the lines of the first rows
pub record OnFirst (objects : List Object) (m : PlainManifest) (places : List ℕ) (line : List PlainValue → List ℕ) (P : List ℕ → Type 0) : Type 0 where
  pub rows : List (List PlainValue)
  pub front : IsScanFront objects m places rows
  pub got : P (flat_map line rows)

-- what stopped the rows: the sink got whole lines of the first, or where a write failed a front of them
abbrev pub StopsRows : List Object → PlainManifest → List ℕ → (List PlainValue → List ℕ) → Option (List ℕ) → Option (List ℕ) → Fault → Type 0
StopsRows objects m places line held holds (fault.Outside name why place) = RefusesScan objects m places (unread.Outside name why place) × OnFirst objects m places line (λ text. holds ≡ and_then_bytes held text)
StopsRows objects m places line held holds (fault.StoreFault name) = OnFirst objects m places line (λ text. holds ≡ and_then_bytes held text)
StopsRows objects m places line held holds fault.WriteFault = OnFirst objects m places line (λ text. GotPart text held holds)
StopsRows objects m places line held holds fault.Memory = OnFirst objects m places line (λ text. holds ≡ and_then_bytes held text)
StopsRows objects m places line held holds f = ⊥

-- the sink got the lines of some of the rows, and those of the others are waiting; or what stopped them
abbrev pub PassesRows : List Object → PlainManifest → List ℕ → (List PlainValue → List ℕ) → List ℕ → Option (List ℕ) → Option (List ℕ) → Result Unit Fault → Type 0
PassesRows objects m places line waiting held holds (Ok _) = (rows : List (List PlainValue)) × AreScanned objects m.fields places m.fragments rows × Waits line rows [] held holds waiting
PassesRows objects m places line waiting held holds (Err f) = StopsRows objects m places line held holds f

-- the sink got the lines of all rows, or what stopped them
abbrev pub PrintsPlaces : List Object → PlainManifest → List ℕ → Option (List ℕ) → Option (List ℕ) → Result Unit Fault → Type 0
PrintsPlaces objects m places held holds (Ok _) = (rows : List (List PlainValue)) × AreScanned objects m.fields places m.fragments rows × (holds ≡ and_then_bytes held (lines_at (map unnumbered m.fields) places rows))
PrintsPlaces objects m places held holds (Err f) = StopsRows objects m places (line_of (fields_at (map unnumbered m.fields) places)) held holds f
