-- The steps of a scan.
use Rattle.std.specs.Prelude.{◌≡◌, ◌+◌, ◌^◌, ◌<◌, ◌≤◌, List, [], ◌∷◌, ◌++◌, IsSomeAnd, None, Result, Ok, Err}
use Rattle.lan_model.specs.Plain.{PlainValue}
use Rattle.lan_model.specs.PlainTable.{row_of}
use Rattle.lan_model.specs.declared.tree.Val.{Val}
use Rattle.lan_store.specs.Budget.{Budget, IsWithin}
use Rattle.lan_store.specs.declared.name.Object.{Object}
use Rattle.lan_manifest.specs.declared.manifest.Fragment.{Fragment}
use Rattle.lan_read.specs.Scans.{HasGiven, PlainScan, RefusesScan, ScanDue, ScanKnows, ScansSame, fragment_at_hand, manifest_scanned, rows_at_hand, rows_left}
use Rattle.lan_read.specs.declared.read_fault.ReadFault.{ReadFault}

-- the fragment at hand has a row that wasn't given
pub record HasNext (s : PlainScan) : Type 0 where
  pub below : s.row < rows_at_hand (fragment_at_hand s)
  pub few : s.row + 1 < 2 ^ 64

-- there is one at hand, and it has none
abbrev pub IsDone : PlainScan → Type 0
IsDone s = IsSomeAnd (fragment_at_hand s) (λ (f : Fragment). f.rows ≤ s.row)

-- the one behind the fragment at hand is at hand
abbrev pub behind : PlainScan → PlainScan
behind s = record s { fragment = s.fragment + 1; row = 0; readers = None }

-- it goes on, and neither gives a row nor asks anything
pub record GoesOn (old new : PlainScan) : Type 0 where
  pub same : ScansSame old new
  pub failed : new.failed ≡ old.failed
  pub left : rows_left new ≡ rows_left old
  pub knows : (objects : List Object) → ScanKnows objects old → ScanKnows objects new
  pub gave : (objects : List Object) (given : List (List PlainValue)) → HasGiven objects old given → HasGiven objects new given
  pub due : (objects : List Object) (due : Budget) → ScanDue objects old due → (left : Budget) × ScanDue objects new left × IsWithin left due

-- the same row is the next
pub record StaysAt (old new : PlainScan) : Type 0 where
  pub same : ScansSame old new
  pub fragment : new.fragment ≡ old.fragment
  pub row : new.row ≡ old.row
  pub failed : new.failed ≡ old.failed

-- the next row, or why it isn't given
abbrev pub GivesRow : List Object → PlainScan → PlainScan → List (List PlainValue) → Result (List Val) ReadFault → Type 0
GivesRow objects old new given (Ok row) = HasGiven objects new (given ++ row_of row ∷ [])
GivesRow objects old new given (Err fault) = RefusesScan objects (manifest_scanned old) old.places fault
