-- A scan of a version: where it stands, what it answers, and what it still asks.
use Rattle.std.specs.Prelude.{◌≡◌, ◌⊎◌, ⊤, ℕ, ◌+◌, ◌*◌, ◌-◌, ◌<◌, ◌≤◌, Bool, false, cond, nat_lt, List, [], ◌∷◌, ◌++◌, length, map, take, drop, sum_by, All, Contains, Option, Some, None, IfSome, MatchOption, Result, Ok, Err, slice_get}
use Rattle.std.specs.List.{range_with_len}
use Rattle.lan_model.specs.Plain.{PlainField, PlainValue, plain_field}
use Rattle.lan_model.specs.PlainTable.{row_of}
use Rattle.lan_model.specs.declared.tree.Field.{Field}
use Rattle.lan_model.specs.declared.tree.Val.{Val}
use Rattle.lan_page.specs.ColumnCursors.{PlainCursor}
use Rattle.lan_store.specs.Budget.{Budget, Spends, nothing, plus}
use Rattle.lan_store.specs.Looked.{Looked}
use Rattle.lan_store.specs.Telling.{Telling}
use Rattle.lan_store.specs.declared.name.Name.{Name}
use Rattle.lan_store.specs.declared.name.Object.{Object}
use Rattle.lan_manifest.specs.Manifests.{PlainManifest, plain_manifest}
use Rattle.lan_manifest.specs.declared.manifest.DataFile.{DataFile}
use Rattle.lan_manifest.specs.declared.manifest.Fragment.{Fragment}
use Rattle.lan_manifest.specs.declared.manifest.Manifest.{Manifest}
use Rattle.lan_read.specs.FieldReaders.{ReaderHolds, ReaderKnows, ReadsField, RefusesValue, value_most, values_due}
use Rattle.lan_read.specs.Opened.{AreNewReaders, CanReadFrom, RefusesOpening, leaves_in, opening_due}
use Rattle.lan_read.specs.Scanned.{AreScanned, GivesFront, fields_at}
use Rattle.lan_read.specs.Snapshots.{IsSnapshot}
use Rattle.lan_read.specs.declared.read_fault.ReadFault.{ReadFault}
use Rattle.lan_read.specs.declared.read_fault.ReadFault.TheVariants.{Memory, Outside, Store}

-- the manifest of the version and the places of the fields that are asked; the number of the fragment at hand, and which of its rows is the next;
-- and the readers of its fields, where they are open
pub record PlainScan : Type 0 where
  pub manifest : Manifest
  pub places : List ℕ
  pub fragment : ℕ
  pub row : ℕ
  pub readers : Option (List (Option (List PlainCursor)))
  pub failed : Bool

abbrev pub manifest_scanned : PlainScan → PlainManifest
manifest_scanned s = plain_manifest s.manifest

abbrev pub asked_fields : PlainScan → List (PlainField ℕ)
asked_fields s = fields_at (manifest_scanned s).fields s.places

-- nothing was read
abbrev pub scan_start : Manifest → List ℕ → PlainScan
scan_start m places = record { manifest = m; places = places; fragment = 0; row = 0; readers = None; failed = false }

abbrev pub rows_at_hand : Option Fragment → ℕ
rows_at_hand None = 0
rows_at_hand (Some f) = f.rows

abbrev pub fragment_at_hand : PlainScan → Option Fragment
fragment_at_hand s = slice_get s.manifest.fragments s.fragment

-- what holds of each scan, also where the store doesn't tell its objects
pub record IsScan (s : PlainScan) : Type 0 where
  pub snapshot : IsSnapshot (manifest_scanned s)
  pub places : All (λ place. place < length s.manifest.fields) s.places
  pub within : s.row ≤ rows_at_hand (fragment_at_hand s)
  pub readers : MatchOption s.readers (s.row ≡ 0) (CanReadFrom (asked_fields s) s.row (rows_at_hand (fragment_at_hand s)))

-- and the fields are copies of those that are asked
pub record ScansFields (fields : List Field) (s : PlainScan) : Type 0 where
  pub scan : IsScan s
  pub fields_are : map plain_field fields ≡ asked_fields s

-- it reads the same
pub record ScansSame (old new : PlainScan) : Type 0 where
  pub manifest : new.manifest ≡ old.manifest
  pub places : new.places ≡ old.places

-- how many rows are still to come
abbrev pub rows_left : PlainScan → ℕ
rows_left s = sum_by (λ (f : Fragment). f.rows) (drop s.fragment s.manifest.fragments) - s.row

-- ---- what it knows

-- the readers read these fields of the files, and what they have in memory is what the objects have
abbrev pub ReadersKnow : List Object → List DataFile → ℕ → List (PlainField ℕ) → List (Option (List PlainCursor)) → Type 0
ReadersKnow objects files count [] [] = ⊤
ReadersKnow objects files count (f ∷ fields) (r ∷ readers) = ReadsField objects files count f r × ReaderKnows objects r × ReadersKnow objects files count fields readers
ReadersKnow objects files count _ _ = ⊥

abbrev pub FragmentKnown : List Object → List (PlainField ℕ) → Option Fragment → List (Option (List PlainCursor)) → Type 0
FragmentKnown objects fields None readers = ⊤
FragmentKnown objects fields (Some f) readers = ReadersKnow objects f.files f.rows fields readers

abbrev pub ScanKnows : List Object → PlainScan → Type 0
ScanKnows objects s = IfSome s.readers (FragmentKnown objects (asked_fields s) (fragment_at_hand s))

-- ---- what it gave

-- so far it gave these rows: those of the fragments behind, and the first of the fragment at hand
pub record HasGiven (objects : List Object) (s : PlainScan) (given : List (List PlainValue)) : Type 0 where
  pub whole : List (List PlainValue)
  pub begun : List (List PlainValue)
  pub scanned : AreScanned objects (manifest_scanned s).fields s.places (take s.fragment s.manifest.fragments) whole
  pub first : MatchOption (fragment_at_hand s) (begun ≡ []) (λ f. GivesFront objects (manifest_scanned s).fields s.places f begun)
  pub count : length begun ≡ s.row
  pub is : given ≡ whole ++ begun

-- why a row isn't given: the readers of a fragment aren't opened, or a field has no value in a row
pub record RefusesFragment (objects : List Object) (m : PlainManifest) (places : List ℕ) (fault : ReadFault) : Type 0 where
  pub fragment : Fragment
  pub is_one : Contains m.fragments fragment
  pub refuses : RefusesOpening objects (fields_at m.fields places) fragment fault

pub record RefusesRow (objects : List Object) (m : PlainManifest) (places : List ℕ) (fault : ReadFault) : Type 0 where
  pub fragment : Fragment
  pub is_one : Contains m.fragments fragment
  pub field : PlainField ℕ
  pub is_asked : Contains (fields_at m.fields places) field
  pub row : ℕ
  pub inside : row < fragment.rows
  pub refuses : RefusesValue objects fragment.files fragment.rows field row fault

abbrev pub RefusesScan : List Object → PlainManifest → List ℕ → ReadFault → Type 0
RefusesScan objects m places (Outside name why place) = RefusesFragment objects m places (Outside name why place) ⊎ RefusesRow objects m places (Outside name why place)
RefusesScan objects m places (Store name) = ⊤
RefusesScan objects m places Memory = ⊤
RefusesScan objects m places fault = ⊥

-- the next row, or that all were given; or why not
abbrev pub GivesNext : List Object → PlainScan → PlainScan → List (List PlainValue) → Result (Option (List Val)) ReadFault → Type 0
GivesNext objects old new given (Ok (Some row)) = HasGiven objects new (given ++ row_of row ∷ [])
GivesNext objects old new given (Ok None) = AreScanned objects (manifest_scanned old).fields old.places old.manifest.fragments given
GivesNext objects old new given (Err fault) = RefusesScan objects (manifest_scanned old) old.places fault

-- ---- what it asks

-- at most this of each field for a row
abbrev pub readers_most : List (Option (List PlainCursor)) → ℕ → Budget
readers_most [] row = nothing
readers_most (r ∷ readers) row = plus (value_most r row) (readers_most readers row)

abbrev pub readers_due : List Object → List (Option (List PlainCursor)) → List ℕ → Budget
readers_due objects [] rows = nothing
readers_due objects (r ∷ readers) rows = plus (values_due objects r rows) (readers_due objects readers rows)

-- what a fragment asks, all of whose rows are read by readers of columns that are held: that of opening them, and what their rows ask
pub record FragmentDue (objects : List Object) (fields : List (PlainField ℕ)) (f : Fragment) (due : Budget) : Type 0 where
  pub readers : List (Option (List PlainCursor))
  pub new : AreNewReaders objects f.files f.rows fields readers
  pub hold : All (ReaderHolds objects) readers
  pub is : due ≡ plus (opening_due objects fields f) (readers_due objects readers (range_with_len 0 f.rows))

-- all of these fragments ask
abbrev pub FragmentsDue : List Object → List (PlainField ℕ) → List Fragment → Budget → Type 0
FragmentsDue objects fields [] due = due ≡ nothing
FragmentsDue objects fields (f ∷ fs) due = (mine : Budget) × (later : Budget) × FragmentDue objects fields f mine × FragmentsDue objects fields fs later × (due ≡ plus mine later)

-- what the readers at hand, which hold their columns, ask for the rows that are left
pub record HandDue (objects : List Object) (readers : List (Option (List PlainCursor))) (row count : ℕ) (due : Budget) : Type 0 where
  pub hold : All (ReaderHolds objects) readers
  pub is : due ≡ readers_due objects readers (range_with_len row (count - row))

-- what a scan still asks, where the objects hold all that it reads
pub record ScanDue (objects : List Object) (s : PlainScan) (due : Budget) : Type 0 where
  pub hand : Budget
  pub later : Budget
  pub at_hand : MatchOption s.readers (hand ≡ nothing) (λ readers. HandDue objects readers s.row (rows_at_hand (fragment_at_hand s)) hand)
  pub behind : MatchOption s.readers (FragmentsDue objects (asked_fields s) (drop s.fragment s.manifest.fragments) later) (λ readers. FragmentsDue objects (asked_fields s) (drop (s.fragment + 1) s.manifest.fragments) later)
  pub is : due ≡ plus hand later

-- each call takes off what it asks; after a refusal nothing more is asked
abbrev pub SpendsNext : {A : Type 0} → List Object → PlainScan → Budget → Result A ReadFault → Telling → Telling → Type 0
SpendsNext objects new due (Ok _) before now = (left : Budget) × ScanDue objects new left × Spends due left before now
SpendsNext objects new due (Err _) before now = Spends due nothing before now

-- a call that looks, whatever it asks
abbrev pub Looks : Option Name → Telling → Telling → Type 0
Looks failure before now = (most : Budget) × Looked failure most before now

-- the next fragment that has rows, from the one at hand on
abbrev pub next_with_rows : List Fragment → Option Fragment
next_with_rows [] = None
next_with_rows (f ∷ fs) = cond (nat_lt 0 f.rows) (Some f) (next_with_rows fs)

abbrev pub files_of : Option Fragment → ℕ
files_of None = 0
files_of (Some f) = length f.files

-- at most three ranges for each file of a fragment that begins, and two for each leaf
unfoldable pub next_ranges : PlainScan → ℕ
next_ranges s = 3 * files_of (next_with_rows (drop s.fragment s.manifest.fragments)) + 3 * files_of (next_with_rows (drop (s.fragment + 1) s.manifest.fragments)) + 2 * length (leaves_in (asked_fields s))
