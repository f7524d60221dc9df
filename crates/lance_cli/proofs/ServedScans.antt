-- What a scan has printed is what stands after the command.
use Rattle.std.proofs.Common.{◌≡◌, inl, inr, refl, sym, ◌∙◌, ap, subst, ℕ, List, [], map, drop, arith}
use Rattle.std.specs.Prelude.{IfErr, IsErrOf, Option, Some, None, Result, Ok, Err}
use Rattle.std.specs.Option.{ForSome}
use Rattle.lan_model.specs.After.{Refusal}
use Rattle.lan_model.specs.Plain.{unnumbered}
use Rattle.lan_model.specs.PlainTable.{column_of}
use Rattle.lan_model.specs.Table.{Column}
use Rattle.lan_store.specs.Budget.{Asks, Budget, plus, ranges}
use Rattle.lan_store.specs.Causes.{HasCause}
use Rattle.lan_store.specs.Streams.{and_then_bytes}
use Rattle.lan_store.specs.Telling.{Telling}
use Rattle.lan_store.specs.declared.name.Name.{Name}
use Rattle.lan_store.specs.declared.name.Object.{Object}
use Rattle.lan_manifest.specs.Manifests.{PlainManifest, plain_manifest}
use Rattle.lan_manifest.specs.declared.manifest.Manifest.{Manifest}
use Rattle.lan_rows.specs.Line.{line_of}
use Rattle.lan_read.specs.Opening.{Opens}
use Rattle.lan_read.specs.Scanned.{fields_at}
use Rattle.lan_read.specs.Scans.{FragmentsDue, RefusesScan, ScanDue, scan_start}
use Rattle.lan_read.specs.Tables.{HasManifest}
use Rattle.lan_read.specs.declared.read_fault.ReadFault.{ReadFault}
use Rattle.lan_read.specs.declared.read_fault.Reason.{Reason}
use Rattle.lan_read.specs.declared.read_fault.ReadFault.TheVariants as unread
use Rattle.lan_read.proofs.LawTerms.{no_scan_table, one_manifest_held}
use Rattle.lance_cli.specs.Asks.{AsksRows}
use Rattle.lance_cli.specs.Causes.{IsOutside}
use Rattle.lance_cli.specs.Changes.{Change}
use Rattle.lance_cli.specs.Commands.{Request, scan}
use Rattle.lance_cli.specs.Failures.{failure_of}
use Rattle.lance_cli.specs.Faults.{of_read}
use Rattle.lance_cli.specs.Options.{Options}
use Rattle.lance_cli.specs.Printing.{FindsPlaces, MayStop, OnFirst, PrintsPlaces}
use Rattle.lance_cli.specs.Reports.{GotPart}
use Rattle.lance_cli.specs.Scanning.{IsAskedManifest, IsScanned, lines_at, places_asked}
use Rattle.lance_cli.specs.Served.{OnFront, Served}
use Rattle.lance_cli.specs.declared.fault.Fault.{Fault}
use Rattle.lance_cli.specs.declared.fault.Fault.TheVariants as fault
use Rattle.lance_cli.proofs.Changing.{newest_one}
use Rattle.lance_cli.proofs.PassedRows.{asks_none, columns_are, not_written}
use Rattle.lance_cli.proofs.Serving.{all_applied, unchanged, unplanned_served}
use Rattle.lance_cli.proofs.VersionOpened.{unopened_plans}

abbrev pub the_scan : Options → ℕ → List (ℕ × List ℕ) → Request
the_scan options line lines = record { asked = scan options; line = line; lines = lines }

-- ---- the version

-- it wasn't opened
pub unopened_scan : (c : Change) (options : Options) (line : ℕ) (lines : List (ℕ × List ℕ)) (f : ReadFault) → c.now ≡ c.before → c.holds ≡ c.held → ((number newest : ℕ) → f ≡ unread.NoVersion number newest → options.version ≡ Some number)
    → ForSome c.before (λ all. Opens all options.version (Err f)) → Served c (the_scan options line lines) (Err (of_read f))
unopened_scan c options line lines f same bytes named opens =
    unplanned_served (the_scan options line lines) c (of_read f) (unopened_plans c.before (the_scan options line lines) options.version f refl (λ number is. is) named (λ old was version at. at) opens) same bytes

read_unwritten : (f : ReadFault) → of_read f ≡ fault.WriteFault → ⊥
read_unwritten unread.NoDataset is = cc is
read_unwritten (unread.NoVersion asked newest) is = cc is
read_unwritten (unread.Outside name why place) is = cc is
read_unwritten (unread.Store name) is = cc is
read_unwritten unread.Memory is = cc is

pub unopened_cause : (f : ReadFault) (a : ℕ) → HasCause (IsErrOf {T = Unit {0}} (Err (of_read f)) fault.WriteFault) a a
unopened_cause f a = not_written (of_read f) a a (read_unwritten f) (omega arith)

-- ---- the columns

-- the version was opened, and its columns were found
pub is_scanned : (old : List Object) (options : Options) (m : Manifest) (places : List ℕ) → Opens old options.version (Ok m) → FindsPlaces (places_asked (map column_of m.fields) options.columns) (Ok places) → IsScanned old options.version options.columns (plain_manifest m) places
is_scanned old options m places (asked, has) found = record {
  manifest = record { is_asked = asked; has = has };
  places_are = ap (λ (columns : List Column). places_asked columns options.columns) (sym (columns_are m.fields)) ∙ found;
}

-- a name is no column
pub unfound_scan : (c : Change) (options : Options) (line : ℕ) (lines : List (ℕ × List ℕ)) (m : Manifest) (f : Fault) → c.now ≡ c.before → c.holds ≡ c.held → ForSome c.before (λ all. Opens all options.version (Ok m))
    → FindsPlaces (places_asked (map column_of m.fields) options.columns) (Err f) → Served c (the_scan options line lines) (Err f)
unfound_scan c options line lines m (fault.NoColumn name) same bytes opens found = (
  (λ old was.
      let (asked, has) = opens old was in
      (plain_manifest m, record { is_asked = asked; has = has }, ap (λ (columns : List Column). places_asked columns options.columns) (sym (columns_are m.fields)) ∙ found)),
  same,
  bytes,
)
unfound_scan c options line lines m fault.Memory same bytes opens found = (inl same, (λ old was. inl bytes))
unfound_scan c options line lines m f same bytes opens none = absurd none

-- the store has no part in it, nor the sink
pub unfound_failed : (wanted : Result (List ℕ) Refusal) (f : Fault) → FindsPlaces wanted (Err f) → None ≡ failure_of {A = Unit {0}} (Err f)
unfound_failed wanted (fault.StoreFault name) none = absurd none
unfound_failed wanted f found = refl

unfound_unwritten : (wanted : Result (List ℕ) Refusal) (f : Fault) → FindsPlaces wanted (Err f) → f ≡ fault.WriteFault → ⊥
unfound_unwritten wanted (fault.NoColumn name) found is = cc is
unfound_unwritten wanted fault.Memory found is = cc is
unfound_unwritten wanted f none is = absurd none

pub unfound_cause : (wanted : Result (List ℕ) Refusal) (f : Fault) (a : ℕ) → FindsPlaces wanted (Err f) → HasCause (IsErrOf {T = Unit {0}} (Err f) fault.WriteFault) a a
unfound_cause wanted f a found = not_written f a a (unfound_unwritten wanted f found) (omega arith)

-- ---- the rows

on_front : (old : List Object) (options : Options) (m : PlainManifest) (places : List ℕ) (P : List ℕ → Type 0) → IsScanned old options.version options.columns m places → OnFirst old m places (line_of (fields_at (map unnumbered m.fields) places)) P → OnFront old options P
on_front old options m places P reads first = record { manifest = m; places = places; reads = reads; rows = first.rows; front = first.front; got = first.got }

rows_outside : (old : List Object) (options : Options) (m : PlainManifest) (places : List ℕ) (name : Name) (why : Reason) (place : ℕ) → IsScanned old options.version options.columns m places → RefusesScan old m places (unread.Outside name why place) → IsOutside (scan options) name why place old
rows_outside old options m places name why place reads refuses = (
  m.version,
  reads.manifest.is_asked,
  (λ t stands. no_scan_table old m.version t m places name why place refuses reads.manifest.has stands),
  inr (record { manifest = m; numbered = refl; places = places; reads = reads; refuses = refuses }),
)

-- the rows of the version were printed, or the first of them
pub printed_scan : (c : Change) (options : Options) (line : ℕ) (lines : List (ℕ × List ℕ)) (m : PlainManifest) (places : List ℕ) (result : Result Unit Fault) → c.now ≡ c.before → ForSome c.before (λ all. IsScanned all options.version options.columns m places) → IfErr result MayStop
    → ForSome c.before (λ all. PrintsPlaces all m places c.held c.holds result) → Served c (the_scan options line lines) result
printed_scan c options line lines m places (Ok _) same reads may prints = λ old was.
    let (rows, scanned, got) = prints old was in (
      all_applied old c (the_scan options line lines) [] (lines_at (map unnumbered m.fields) places rows) (refl, record { manifest = m; places = places; reads = reads old was; rows = rows; scanned = scanned; text_is = refl }) (unchanged c old same was),
      got,
    )
printed_scan c options line lines m places (Err (fault.Outside name why place)) same reads may prints = (
  (refl, (λ old was. rows_outside old options m places name why place (reads old was) (prints old was).0)),
  same,
  (λ old was. inr (on_front old options m places (λ text. c.holds ≡ and_then_bytes c.held text) (reads old was) (prints old was).1)),
)
printed_scan c options line lines m places (Err (fault.StoreFault name)) same reads may prints =
    (inl same, (λ old was. inr (on_front old options m places (λ text. c.holds ≡ and_then_bytes c.held text) (reads old was) (prints old was))))
printed_scan c options line lines m places (Err fault.WriteFault) same reads may prints =
    (same, (λ old was. on_front old options m places (λ text. GotPart text c.held c.holds) (reads old was) (prints old was)))
printed_scan c options line lines m places (Err fault.Memory) same reads may prints =
    (inl same, (λ old was. inr (on_front old options m places (λ text. c.holds ≡ and_then_bytes c.held text) (reads old was) (prints old was))))
printed_scan c options line lines m places (Err f) same reads none prints = absurd none

-- ---- what is asked

-- the version that is asked for has one manifest
asked_one : (old : List Object) (asked : Option ℕ) (m n : PlainManifest) → IsAskedManifest old asked m → IsAskedManifest old asked n → m ≡ n
asked_one old None m n a b = newest_one old m n (record { newest = a.is_asked; has = a.has }) (record { newest = b.is_asked; has = b.has })
asked_one old (Some number) m n a b =
    let same : n.version ≡ m.version = b.is_asked.1 ∙ sym a.is_asked.1 in
    one_manifest_held old m.version m n a.has (subst (λ v. HasManifest old v n) same b.has)

-- what a scan asks from its front goes by what the manifest says
due_of : (old : List Object) (m n : Manifest) (places : List ℕ) (due : Budget) → plain_manifest m ≡ plain_manifest n → ScanDue old (scan_start m places) due → ScanDue old (scan_start n places) due
due_of old m n places due same owed = record {
  hand = owed.hand;
  later = owed.later;
  at_hand = owed.at_hand;
  behind = subst (λ (p : PlainManifest). FragmentsDue old (fields_at p.fields places) (drop 0 p.fragments) owed.later) same owed.behind;
  is = owed.is;
}

asks_then : (a b : Budget) (s t u : Telling) → Asks a s t → Asks b t u → Asks (plus a b) s u
asks_then a b s t u first second = record {
  ranges = record { later = omega (arith, first.ranges.later, second.ranges.later); within = omega (arith, first.ranges.within, second.ranges.within) };
  bytes = record { later = omega (arith, first.bytes.later, second.bytes.later); within = omega (arith, first.bytes.within, second.bytes.within) };
}

-- the rows were asked for
pub asks_rows : (old : List Object) (options : Options) (m : Manifest) (places : List ℕ) (s t u : Telling) → IsScanned old options.version options.columns (plain_manifest m) places → Asks (ranges 1) s t → ((due : Budget) → ScanDue old (scan_start m places) due → Asks due t u) → AsksRows options s u old
asks_rows old options m places s t u reads first later = (
  (λ n others due read owed.
      let same : plain_manifest n ≡ plain_manifest m = asked_one old options.version (plain_manifest n) (plain_manifest m) read.manifest reads.manifest in
      let placed : others ≡ places = cc (sym read.places_are ∙ ap (λ (p : PlainManifest). places_asked (map unnumbered p.fields) options.columns) same ∙ reads.places_are) in
      asks_then (ranges 1) due s t u first (later due (subst (λ l. ScanDue old (scan_start m l) due) placed (due_of old n m others due same owed)))),
  (λ none. absurd (none (plain_manifest m) places reads)),
)

-- no more than the manifest was asked for
pub asks_manifest : (old : List Object) (options : Options) (s t : Telling) → Asks (ranges 1) s t → AsksRows options s t old
asks_manifest old options s t first = ((λ n others due read owed. asks_then (ranges 1) due s t t first (asks_none due t)), (λ none. first))
