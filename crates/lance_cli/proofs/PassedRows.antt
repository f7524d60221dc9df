-- The rows of a scan that were passed on, and what stopped them.
use Rattle.std.proofs.Common.{◌≡◌, refl, sym, ◌∙◌, ap, subst, ℕ, ◌≤◌, List, [], ◌∷◌, ◌++◌, map, append-nil, arith}
use Rattle.std.specs.Prelude.{None, IfErr, IsErrOf, OnOk, Option, Result, Ok, Err, flat_map}
use Rattle.std.proofs.lemmas.Grind.{flat_map-append}
use Rattle.lan_model.specs.Plain.{plain_field, unnumbered}
use Rattle.lan_model.specs.PlainTable.{column_of}
use Rattle.lan_model.specs.declared.tree.Field.{Field}
use Rattle.lan_model.specs.declared.tree.Val.{Val}
use Rattle.lan_store.specs.Causes.{HasCause}
use Rattle.lan_store.specs.Budget.{Budget, Asks, Spends, nothing}
use Rattle.lan_store.specs.Streams.{and_then_bytes}
use Rattle.lan_store.specs.Telling.{Telling}
use Rattle.lan_store.specs.declared.name.Name.{Name}
use Rattle.lan_store.specs.declared.name.Object.{Object}
use Rattle.lan_store.proofs.LawTerms.{asks_of, looked_not, looked_then, spends_then}
use Rattle.lan_manifest.specs.Manifests.{PlainManifest, plain_manifest}
use Rattle.lan_manifest.specs.declared.manifest.Manifest.{Manifest}
use Rattle.lan_rows.specs.Line.{line_of}
use Rattle.lan_read.specs.Failures.{unread_failure}
use Rattle.lan_read.specs.Scanned.{AreScanned, IsScanFront, fields_at}
use Rattle.lan_read.specs.Scans.{PlainScan, HasGiven, Looks, RefusesScan, ScanDue, ScansSame, manifest_scanned, scan_start}
use Rattle.lan_read.specs.declared.read_fault.ReadFault.{ReadFault}
use Rattle.lan_read.specs.declared.read_fault.ReadFault.TheVariants as unread
use Rattle.lan_read.proofs.LawTerms.{columns_at}
use Rattle.lance_cli.specs.Failures.{failure_of}
use Rattle.lance_cli.specs.Printing.{MayStop, OnFirst, PassesRows, PrintsPlaces, StopsRows, stop_of}
use Rattle.lance_cli.specs.Sending.{Passes, Sends, Waits}
use Rattle.lance_cli.specs.declared.fault.Fault.{Fault}
use Rattle.lance_cli.specs.declared.fault.Fault.TheVariants as fault
use Rattle.lance_cli.proofs.ScanFronts.{all_rows_front, given_front, less_rows_front, no_rows_front, nothing_given}
use Rattle.lance_cli.proofs.SentRows.{Row, and_then_bytes-nil, got_after, one_more, sends_then, waits_none}

-- ---- what a store is asked

pub looks_none : (s : Telling) → Looks None s s
looks_none s = (nothing, looked_not nothing s)

pub looks_then : (failure : Option Name) (s t u : Telling) → Looks None s t → Looks failure t u → Looks failure s u
looks_then failure s t u (a, first) (b, second) = (_, looked_then failure a b s t u first second)

pub looks_kept : (failure : Option Name) (s t : Telling) → Looks failure s t → t.objects ≡ s.objects
looks_kept failure s t (most, looked) = looked.kept

-- the store's failure is the program's own
stop_failed : (f : ReadFault) → unread_failure {A = Option (List Val)} (Err f) ≡ failure_of {A = Unit {0}} (Err (stop_of f))
stop_failed unread.NoDataset = refl
stop_failed (unread.NoVersion asked newest) = refl
stop_failed (unread.Outside name why place) = refl
stop_failed (unread.Store name) = refl
stop_failed unread.Memory = refl

pub stop_looks : (f : ReadFault) (s t : Telling) → Looks (unread_failure {A = Option (List Val)} (Err f)) s t → Looks (failure_of {A = Unit {0}} (Err (stop_of f))) s t
stop_looks f s t looks = subst (λ o. Looks o s t) (stop_failed f) looks

pub stop_may : (f : ReadFault) → MayStop (stop_of f)
stop_may unread.NoDataset = tt
stop_may (unread.NoVersion asked newest) = tt
stop_may (unread.Outside name why place) = tt
stop_may (unread.Store name) = tt
stop_may unread.Memory = tt

stop_unwritten : (f : ReadFault) → stop_of f ≡ fault.WriteFault → ⊥
stop_unwritten unread.NoDataset is = cc is
stop_unwritten (unread.NoVersion asked newest) is = cc is
stop_unwritten (unread.Outside name why place) is = cc is
stop_unwritten (unread.Store name) is = cc is
stop_unwritten unread.Memory is = cc is

-- what isn't the sink's has no cause at it
pub not_written : (f : Fault) (before now : ℕ) → (f ≡ fault.WriteFault → ⊥) → before ≤ now → HasCause (IsErrOf {T = Unit {0}} (Err f) fault.WriteFault) before now
not_written f before now other later = record { later = later; rose = λ is. absurd (other (cc is)) }

pub stop_cause : (f : ReadFault) (before now : ℕ) → before ≤ now → HasCause (IsErrOf {T = Unit {0}} (Err (stop_of f)) fault.WriteFault) before now
stop_cause f before now later = not_written (stop_of f) before now (stop_unwritten f) later

-- what is passed on fails no store
pub passes_failed : (line : Row → List ℕ) (rows pending : List Row) (waiting : List ℕ) (held holds : Option (List ℕ)) (f : Fault) → Passes line rows pending waiting held holds (Err f) → None ≡ failure_of {A = Unit {0}} (Err f)
passes_failed line rows pending waiting held holds (fault.StoreFault name) none = absurd none
passes_failed line rows pending waiting held holds f passes = refl

pub passes_may : (line : Row → List ℕ) (rows pending : List Row) (waiting : List ℕ) (held holds : Option (List ℕ)) (f : Fault) → Passes line rows pending waiting held holds (Err f) → MayStop f
passes_may line rows pending waiting held holds fault.WriteFault passes = tt
passes_may line rows pending waiting held holds fault.Memory passes = tt
passes_may line rows pending waiting held holds f none = absurd none

-- ---- what is left of a budget

abbrev pub SpendsTo : List Object → PlainScan → Budget → Telling → Telling → Type 0
SpendsTo objects scan due s t = (left : Budget) × ScanDue objects scan left × Spends due left s t

pub spends_ok : (objects : List Object) (old new : PlainScan) (due : Budget) (s t u : Telling) → SpendsTo objects old due s t → ((left : Budget) → ScanDue objects old left → SpendsTo objects new left t u) → SpendsTo objects new due s u
spends_ok objects old new due s t u (left, owed, first) next = let (rest, still, second) = next left owed in (rest, still, spends_then due left rest s t u first second)

pub spends_start : (objects : List Object) (scan : PlainScan) (due : Budget) (s : Telling) → ScanDue objects scan due → SpendsTo objects scan due s s
spends_start objects scan due s owed = (due, owed, record { later_ranges = omega arith; later_bytes = omega arith; ranges = omega arith; bytes = omega arith })

pub asks_ok : (objects : List Object) (scan : PlainScan) (due : Budget) (s t : Telling) → SpendsTo objects scan due s t → Asks due s t
asks_ok objects scan due s t (left, owed, spends) = asks_of due left s t spends

pub asks_err : (objects : List Object) (old : PlainScan) (due : Budget) (s t u : Telling) → SpendsTo objects old due s t → ((left : Budget) → ScanDue objects old left → Spends left nothing t u) → Asks due s u
asks_err objects old due s t u (left, owed, first) next = asks_of due nothing s u (spends_then due left nothing s t u first (next left owed))

-- ---- the rows that were passed on

-- of the rows whose lines the sink got
first_sent : (objects : List Object) (m : PlainManifest) (places : List ℕ) (line : Row → List ℕ) (rows rest : List Row) (held holds : Option (List ℕ)) → IsScanFront objects m places rows → Sends line rows [] held holds rest → OnFirst objects m places line (λ text. holds ≡ and_then_bytes held text)
first_sent objects m places line rows rest held holds front sends = record { rows = sends.sent; front = less_rows_front objects m places rows sends.sent rest front sends.whole; got = sends.grew }

-- a scan goes on
pub same_on : (old mid new : PlainScan) → ScansSame old mid → ScansSame mid new → ScansSame old new
same_on old mid new first second = record { manifest = second.manifest ∙ first.manifest; places = second.places ∙ first.places }

-- the next row wasn't given
pub unread_stops : (objects : List Object) (old s : PlainScan) (line : Row → List ℕ) (given : List Row) (held holds : Option (List ℕ)) (waiting : List ℕ) (f : ReadFault) → ScansSame old s → HasGiven objects s given → Waits line given [] held holds waiting
    → RefusesScan objects (manifest_scanned s) s.places f → StopsRows objects (manifest_scanned old) old.places line held holds (stop_of f)
unread_stops objects old s line given held holds waiting f same has waits refuses =
    go f (subst (λ (m : Manifest). RefusesScan objects (plain_manifest m) old.places f) same.manifest (subst (λ places. RefusesScan objects (manifest_scanned s) places f) same.places refuses)) where
      whole : OnFirst objects (manifest_scanned old) old.places line (λ text. holds ≡ and_then_bytes held text)
      whole = first_sent objects (manifest_scanned old) old.places line given waits.rest held holds (given_front objects old s given same has) waits.sends

      go : (f : ReadFault) → RefusesScan objects (manifest_scanned old) old.places f → StopsRows objects (manifest_scanned old) old.places line held holds (stop_of f)
      go unread.NoDataset refuses = absurd refuses
      go (unread.NoVersion asked newest) refuses = absurd refuses
      go (unread.Outside name why place) refuses = (refuses, whole)
      go (unread.Store name) refuses = whole
      go unread.Memory refuses = whole

-- a row was given, and its line wasn't passed on
pub unsent_stops : (objects : List Object) (old s : PlainScan) (line : Row → List ℕ) (given : List Row) (row : Row) (held mid holds : Option (List ℕ)) (middle waiting : List ℕ) (f : Fault) → ScansSame old s → HasGiven objects s (given ++ row ∷ []) → (before : Waits line given [] held mid middle)
    → Passes line (row ∷ []) before.rest waiting mid holds (Err f) → StopsRows objects (manifest_scanned old) old.places line held holds f
unsent_stops objects old s line given row held mid holds middle waiting fault.WriteFault same has before got =
    record { rows = given ++ row ∷ []; front = given_front objects old s (given ++ row ∷ []) same has; got = got_after line given (row ∷ []) [] before.rest held mid holds before.sends got }
unsent_stops objects old s line given row held mid holds middle waiting fault.Memory same has before (rest, sends) =
    first_sent objects (manifest_scanned old) old.places line (given ++ row ∷ []) rest held holds (given_front objects old s (given ++ row ∷ []) same has) (sends_then line given (row ∷ []) [] before.rest rest held mid holds before.sends sends)
unsent_stops objects old s line given row held mid holds middle waiting f same has before none = absurd none

-- all rows were given
pub given_all : (objects : List Object) (old s : PlainScan) (line : Row → List ℕ) (given : List Row) (held holds : Option (List ℕ)) (waiting : List ℕ) → ScansSame old s → AreScanned objects (manifest_scanned s).fields s.places s.manifest.fragments given
    → Waits line given [] held holds waiting → PassesRows objects (manifest_scanned old) old.places line waiting held holds (Ok tt)
given_all objects old s line given held holds waiting same all waits = (
  given,
  subst (λ (m : Manifest). AreScanned objects (plain_manifest m).fields old.places m.fragments given) same.manifest (subst (λ places. AreScanned objects (manifest_scanned s).fields places s.manifest.fragments given) same.places all),
  waits,
)

-- ---- rows one after another

-- the rows that were given have been passed on, and the lines of the last ones wait
pub record Passed (objects : List Object) (s : PlainScan) (line : Row → List ℕ) (held holds : Option (List ℕ)) (waiting : List ℕ) : Type 0 where
  pub given : List Row
  pub has : HasGiven objects s given
  pub waits : Waits line given [] held holds waiting

-- a row's line is passed on behind any that wait
abbrev pub PassesOne : (Row → List ℕ) → Row → List ℕ → List ℕ → Option (List ℕ) → Option (List ℕ) → Result Unit Fault → Type 0
PassesOne line row before waiting held holds result = (pending : List Row) → before ≡ flat_map line pending → Passes line (row ∷ []) pending waiting held holds result

-- by one line as by another that is the same
pub one_line : (mine line : Row → List ℕ) (row : Row) (before waiting : List ℕ) (held holds : Option (List ℕ)) (result : Result Unit Fault) → mine ≡ line → PassesOne mine row before waiting held holds result → PassesOne line row before waiting held holds result
one_line mine line row before waiting held holds result is passes = subst (λ l. PassesOne l row before waiting held holds result) is passes

-- what waits are lines
abbrev pub AreLines : (Row → List ℕ) → List ℕ → Type 0
AreLines line waiting = (pending : List Row) × (waiting ≡ flat_map line pending)

pub passed_none : (objects : List Object) (s : PlainScan) (line : Row → List ℕ) (held : Option (List ℕ)) (waiting : List ℕ) → HasGiven objects s [] → waiting ≡ [] → Passed objects s line held held waiting
passed_none objects s line held waiting has is = record { given = []; has = has; waits = waits_none line [] held waiting is }

-- the next row
pub passed_more : (objects : List Object) (s t : PlainScan) (line : Row → List ℕ) (row : Row) (held mid holds : Option (List ℕ)) (middle waiting : List ℕ) (u : Unit {0}) → Passed objects s line held mid middle
    → ((given : List Row) → HasGiven objects s given → HasGiven objects t (given ++ row ∷ [])) → PassesOne line row middle waiting mid holds (Ok u) → Passed objects t line held holds waiting
passed_more objects s t line row held mid holds middle waiting u before next sends = record {
  given = before.given ++ row ∷ [];
  has = next before.given before.has;
  waits = one_more line row before.given [] middle waiting held mid holds before.waits (sends before.waits.rest before.waits.lines);
}

pub lines_wait : (line : Row → List ℕ) (row : Row) (mid holds : Option (List ℕ)) (middle waiting : List ℕ) (u : Unit {0}) → AreLines line middle → PassesOne line row middle waiting mid holds (Ok u) → AreLines line waiting
lines_wait line row mid holds middle waiting u (pending, are) sends = let w = sends pending are in (w.rest, w.lines)

-- it wasn't passed on
pub passed_unsent : (objects : List Object) (old s t : PlainScan) (line : Row → List ℕ) (row : Row) (held mid holds : Option (List ℕ)) (middle waiting : List ℕ) (f : Fault) → ScansSame old t → Passed objects s line held mid middle
    → ((given : List Row) → HasGiven objects s given → HasGiven objects t (given ++ row ∷ [])) → PassesOne line row middle waiting mid holds (Err f) → StopsRows objects (manifest_scanned old) old.places line held holds f
passed_unsent objects old s t line row held mid holds middle waiting f same before next sends =
    unsent_stops objects old t line before.given row held mid holds middle waiting f same (next before.given before.has) before.waits (sends before.waits.rest before.waits.lines)

-- a row that wasn't passed on fails no store
pub unsent_failed : (line : Row → List ℕ) (row : Row) (middle waiting : List ℕ) (mid holds : Option (List ℕ)) (f : Fault) → AreLines line middle → PassesOne line row middle waiting mid holds (Err f) → None ≡ failure_of {A = Unit {0}} (Err f)
unsent_failed line row middle waiting mid holds f (pending, are) sends = passes_failed line (row ∷ []) pending waiting mid holds f (sends pending are)

-- nor does the last write, whatever waits
pub unflushed_failed : (waiting last : List ℕ) (mid holds : Option (List ℕ)) (result : Result Unit Fault) → ((line : Row → List ℕ) (pending : List Row) → waiting ≡ flat_map line pending → Passes line [] pending last mid holds result) → None ≡ failure_of result
unflushed_failed waiting last mid holds (Ok u) flush = refl
unflushed_failed waiting last mid holds (Err f) flush = passes_failed (λ row. waiting) [] ([] ∷ []) last mid holds f (flush (λ row. waiting) ([] ∷ []) (sym (append-nil waiting)))

pub unflushed_may : (waiting last : List ℕ) (mid holds : Option (List ℕ)) (result : Result Unit Fault) → ((line : Row → List ℕ) (pending : List Row) → waiting ≡ flat_map line pending → Passes line [] pending last mid holds result) → IfErr result MayStop
unflushed_may waiting last mid holds (Ok u) flush = tt
unflushed_may waiting last mid holds (Err f) flush = passes_may (λ row. waiting) [] ([] ∷ []) last mid holds f (flush (λ row. waiting) ([] ∷ []) (sym (append-nil waiting)))

-- ---- the rows of a version

pub columns_are : (fields : List Field) → map column_of fields ≡ map unnumbered (map plain_field fields)
columns_are [] = refl
columns_are (f ∷ fs) = ap (λ l. column_of f ∷ l) (columns_are fs)

-- the line of a printer of the fields that were picked
pub line_is : (fields picked printer : List Field) (places : List ℕ) → printer ≡ picked → map plain_field picked ≡ fields_at (map plain_field fields) places → line_of (map column_of printer) ≡ line_of (fields_at (map unnumbered (map plain_field fields)) places)
line_is fields picked printer places is are =
    ap (λ (l : List Field). line_of (map column_of l)) is ∙ ap line_of (columns_are picked ∙ ap (map unnumbered) are ∙ sym (columns_at (map plain_field fields) places))

-- nothing was printed
pub stops_first : (objects : List Object) (m : PlainManifest) (places : List ℕ) (line : Row → List ℕ) (held : Option (List ℕ)) → StopsRows objects m places line held held fault.Memory
stops_first objects m places line held = record { rows = []; front = no_rows_front objects m places; got = and_then_bytes-nil held }

-- the sink got the lines of all rows, or what stopped them
abbrev pub PrintsRows : List Object → PlainManifest → List ℕ → (Row → List ℕ) → Option (List ℕ) → Option (List ℕ) → Result Unit Fault → Type 0
PrintsRows objects m places line held holds (Ok _) = (rows : List Row) × AreScanned objects m.fields places m.fragments rows × (holds ≡ and_then_bytes held (flat_map line rows))
PrintsRows objects m places line held holds (Err f) = StopsRows objects m places line held holds f

-- the rows that were left to write are all written where none wait
all_sent : (line : Row → List ℕ) (rows pending : List Row) (held mid holds : Option (List ℕ)) (last : List ℕ) → Sends line rows [] held mid pending → Waits line [] pending mid holds last → last ≡ [] → holds ≡ and_then_bytes held (flat_map line rows)
all_sent line rows pending held mid holds last first waits empty =
    let both = sends_then line rows [] [] pending waits.rest held mid holds first waits.sends in
    let none : flat_map line waits.rest ≡ [] = sym waits.lines ∙ empty in
    let all : both.sent ++ waits.rest ≡ rows = both.whole ∙ append-nil rows in
    let text : flat_map line both.sent ≡ flat_map line rows = sym (append-nil (flat_map line both.sent)) ∙ ap (λ l. flat_map line both.sent ++ l) (sym none) ∙ sym (flat_map-append line both.sent waits.rest) ∙ ap (flat_map line) all in
    both.grew ∙ ap (and_then_bytes held) text

-- the last lines were written, or a front of them
pub flushed_rows : (objects : List Object) (m : PlainManifest) (places : List ℕ) (line : Row → List ℕ) (waiting last : List ℕ) (held mid holds : Option (List ℕ)) (result : Result Unit Fault) → PassesRows objects m places line waiting held mid (Ok tt)
    → ((pending : List Row) → waiting ≡ flat_map line pending → Passes line [] pending last mid holds result) → OnOk result (last ≡ []) → PrintsRows objects m places line held holds result
flushed_rows objects m places line waiting last held mid holds result (rows, scanned, waits) flush empty = go result (flush waits.rest waits.lines) empty where
  front : IsScanFront objects m places (rows ++ [])
  front = subst (λ l. IsScanFront objects m places l) (sym (append-nil rows)) (all_rows_front objects m places rows scanned)

  go : (result : Result Unit Fault) → Passes line [] waits.rest last mid holds result → OnOk result (last ≡ []) → PrintsRows objects m places line held holds result
  go (Ok _) passes empty = (rows, scanned, all_sent line rows waits.rest held mid holds last waits.sends passes empty)
  go (Err fault.WriteFault) got empty = record { rows = rows ++ []; front = front; got = got_after line rows [] [] waits.rest held mid holds waits.sends got }
  go (Err fault.Memory) (rest, sends) empty = first_sent objects m places line (rows ++ []) rest held holds front (sends_then line rows [] [] waits.rest rest held mid holds waits.sends sends)
  go (Err f) none empty = absurd none

-- and the line is that of the version's columns
pub prints_places : (objects : List Object) (m : PlainManifest) (places : List ℕ) (line : Row → List ℕ) (held holds : Option (List ℕ)) (result : Result Unit Fault) → line ≡ line_of (fields_at (map unnumbered m.fields) places)
    → PrintsRows objects m places line held holds result → PrintsPlaces objects m places held holds result
prints_places objects m places line held holds result is prints = go result (subst (λ l. PrintsRows objects m places l held holds result) is prints) where
  go : (result : Result Unit Fault) → PrintsRows objects m places (line_of (fields_at (map unnumbered m.fields) places)) held holds result → PrintsPlaces objects m places held holds result
  go (Ok _) prints = prints
  go (Err f) stops = stops

-- ---- from the front of a version's rows

-- the rows stopped
pub unpassed_places : (objects : List Object) (m : Manifest) (places : List ℕ) (scan : PlainScan) (line : Row → List ℕ) (waiting : List ℕ) (held holds : Option (List ℕ)) (f : Fault) → scan ≡ scan_start m places → line ≡ line_of (fields_at (map unnumbered (plain_manifest m).fields) places)
    → (HasGiven objects scan [] → PassesRows objects (manifest_scanned scan) scan.places line waiting held holds (Err f)) → PrintsPlaces objects (plain_manifest m) places held holds (Err f)
unpassed_places objects m places scan line waiting held holds f is line_is passes =
    let stops = subst (λ (s : PlainScan). HasGiven objects s [] → PassesRows objects (manifest_scanned s) s.places line waiting held holds (Err f)) is passes (nothing_given objects m places) in
    prints_places objects (plain_manifest m) places line held holds (Err f) line_is stops

-- all were passed on, and the last ones were written
pub flushed_places : (objects : List Object) (m : Manifest) (places : List ℕ) (scan : PlainScan) (line : Row → List ℕ) (waiting last : List ℕ) (held mid holds : Option (List ℕ)) (result : Result Unit Fault) (u : Unit {0}) → scan ≡ scan_start m places
    → line ≡ line_of (fields_at (map unnumbered (plain_manifest m).fields) places) → (HasGiven objects scan [] → PassesRows objects (manifest_scanned scan) scan.places line waiting held mid (Ok u))
    → ((line : Row → List ℕ) (pending : List Row) → waiting ≡ flat_map line pending → Passes line [] pending last mid holds result) → OnOk result (last ≡ []) → PrintsPlaces objects (plain_manifest m) places held holds result
flushed_places objects m places scan line waiting last held mid holds result u is line_is passes flush empty =
    let passed = subst (λ (s : PlainScan). HasGiven objects s [] → PassesRows objects (manifest_scanned s) s.places line waiting held mid (Ok u)) is passes (nothing_given objects m places) in
    prints_places objects (plain_manifest m) places line held holds result line_is (flushed_rows objects (plain_manifest m) places line waiting last held mid holds result passed (flush line) empty)

-- nothing was printed
pub unbegun_places : (objects : List Object) (m : Manifest) (places : List ℕ) (held : Option (List ℕ)) → PrintsPlaces objects (plain_manifest m) places held held (Err fault.Memory)
unbegun_places objects m places held = stops_first objects (plain_manifest m) places (line_of (fields_at (map unnumbered (plain_manifest m).fields) places)) held

pub asks_none : (most : Budget) (s : Telling) → Asks most s s
asks_none most s = record { ranges = record { later = omega arith; within = omega arith }; bytes = record { later = omega arith; within = omega arith } }
