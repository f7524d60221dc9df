-- The next row of the fragment at hand is read.
use Rattle.std.proofs.Common.{◌≡◌, inr, sym, ◌∙◌, ap, refl, subst, ℕ, suc, ◌+◌, ◌-◌, ◌<◌, ◌≤◌, List, [], ◌∷◌, ◌++◌, append_assoc, drop, arith}
use Rattle.std.specs.Prelude.{⊤, All, Contains, MatchOption, Option, Some}
use Rattle.std.specs.List.{range_with_len}
use Rattle.std.proofs.lemmas.List.{length-append}
use Rattle.std.proofs.lemmas.List.Elements.{All-cons, All-head, All-nil, All-tail}
use Rattle.std.proofs.lemmas.Option.{MatchOption-at_some}
use Rattle.lan_model.specs.Plain.{PlainField, PlainValue}
use Rattle.lan_model.specs.Table.{FitsRow, IsField}
use Rattle.lan_page.specs.ColumnCursors.{PlainCursor}
use Rattle.lan_store.specs.Budget.{Budget, Spends, nothing, plus}
use Rattle.lan_store.specs.Telling.{Telling}
use Rattle.lan_store.specs.declared.name.Object.{Object}
use Rattle.lan_store.proofs.LawTerms.{spends_beside}
use Rattle.lan_manifest.specs.Manifests.{PlainManifest}
use Rattle.lan_manifest.specs.declared.manifest.DataFile.{DataFile}
use Rattle.lan_manifest.specs.declared.manifest.Fragment.{Fragment}
use Rattle.lan_read.specs.FieldReaders.{ReaderHolds, ReaderKnows}
use Rattle.lan_read.specs.Opened.{CanReadFrom, IsReadable}
use Rattle.lan_read.specs.RowValues.{AreValuesOf, IsShallow, ReadFields, RefusesOneValue}
use Rattle.lan_read.specs.Scanned.{GivesFront, fields_at}
use Rattle.lan_read.specs.Scans.{FragmentKnown, FragmentsDue, HandDue, HasGiven, IsScan, PlainScan, ReadersKnow, RefusesScan, ScanDue, ScanKnows, asked_fields, fragment_at_hand, manifest_scanned, readers_due, rows_at_hand, rows_left}
use Rattle.lan_read.specs.declared.read_fault.ReadFault.{ReadFault}
use Rattle.lan_read.specs.declared.read_fault.ReadFault.TheVariants.{Memory, Outside, Store}
use Rattle.lan_read.proofs.RowLists.{Row}
use Rattle.lan_read.proofs.ScanOpens.{known_at}
use Rattle.lan_read.proofs.ScanRows.{front_more}
use Rattle.lan_read.proofs.ScanSteps.{places_within, rows_behind, undeleted}
use Rattle.lan_read.proofs.ValuesDue.{spends_less}

abbrev pub Readers : Type 0
Readers = List (Option (List PlainCursor))

-- one row more was read
abbrev pub advanced : PlainScan → Readers → PlainScan
advanced s readers = record s { row = s.row + 1; readers = Some readers }

-- ---- the row may be asked

pub all_fields : (files : List DataFile) (count : ℕ) (fields : List (PlainField ℕ)) → All (IsReadable files count) fields → All IsField fields
all_fields files count fields readable = λ k d below. (readable k d below).field

pub all_shallow : (files : List DataFile) (count : ℕ) (fields : List (PlainField ℕ)) → All (IsReadable files count) fields → All IsShallow fields
all_shallow files count fields readable = λ k d below. (readable k d below).layers

can_fewer : (fields : List (PlainField ℕ)) (row later count fewer : ℕ) (readers : Readers) → row ≤ later → fewer ≤ count → CanReadFrom fields row count readers → CanReadFrom fields later fewer readers
can_fewer [] row later count fewer [] first last can = tt
can_fewer [] row later count fewer (r ∷ readers) first last can = absurd can
can_fewer (f ∷ fields) row later count fewer [] first last can = absurd can
can_fewer (f ∷ fields) row later count fewer (r ∷ readers) first last can = (λ n from below. can.0 n (omega (arith, first, from)) (omega (arith, last, below)), can_fewer fields row later count fewer readers first last can.1)

pub below_rows : (s : PlainScan) (f : Fragment) → fragment_at_hand s ≡ Some f → s.row < rows_at_hand (fragment_at_hand s) → s.row < f.rows
below_rows s f at below = subst (λ (o : Option Fragment). s.row < rows_at_hand o) at below

can_from : (s : PlainScan) (readers : Readers) → IsScan s → s.readers ≡ Some readers → CanReadFrom (asked_fields s) s.row (rows_at_hand (fragment_at_hand s)) readers
can_from s readers is there = MatchOption-at_some (s.row ≡ 0) (λ readers. CanReadFrom (asked_fields s) s.row (rows_at_hand (fragment_at_hand s)) readers) readers there is.readers

pub can_next : (s : PlainScan) (readers : Readers) → IsScan s → s.readers ≡ Some readers → s.row < rows_at_hand (fragment_at_hand s) → CanReadFrom (asked_fields s) s.row (s.row + 1) readers
can_next s readers is there below = can_fewer (asked_fields s) s.row s.row (rows_at_hand (fragment_at_hand s)) (s.row + 1) readers (omega arith) (omega (arith, below)) (can_from s readers is there)

pub is_advanced : (s : PlainScan) (old new : Readers) → IsScan s → s.readers ≡ Some old → s.row < rows_at_hand (fragment_at_hand s)
    → (CanReadFrom (asked_fields s) s.row (rows_at_hand (fragment_at_hand s)) old → CanReadFrom (asked_fields s) s.row (rows_at_hand (fragment_at_hand s)) new) → IsScan (advanced s new)
is_advanced s old new is there below can =
    let count = rows_at_hand (fragment_at_hand s) in
    record { snapshot = is.snapshot; places = is.places; within = omega (arith, below); readers = can_fewer (asked_fields s) s.row (s.row + 1) count count new (omega arith) (omega arith) (can (can_from s old is there)) }

-- ---- what is known

reads_and_knows : (objects : List Object) (files : List DataFile) (count : ℕ) (fields : List (PlainField ℕ)) (readers : Readers) → ReadersKnow objects files count fields readers → ReadFields objects files count fields readers × All (ReaderKnows objects) readers
reads_and_knows objects files count [] [] know = (tt, All-nil (ReaderKnows objects))
reads_and_knows objects files count [] (r ∷ readers) know = absurd know
reads_and_knows objects files count (f ∷ fields) [] know = absurd know
reads_and_knows objects files count (f ∷ fields) (r ∷ readers) know =
    let later = reads_and_knows objects files count fields readers know.2 in
    ((know.0, later.0), All-cons (ReaderKnows objects) r readers know.1 later.1)

readers_know : (objects : List Object) (files : List DataFile) (count : ℕ) (fields : List (PlainField ℕ)) (readers : Readers) → ReadFields objects files count fields readers → All (ReaderKnows objects) readers → ReadersKnow objects files count fields readers
readers_know objects files count [] [] reads know = tt
readers_know objects files count [] (r ∷ readers) reads know = absurd reads
readers_know objects files count (f ∷ fields) [] reads know = absurd reads
readers_know objects files count (f ∷ fields) (r ∷ readers) reads know =
    (reads.0, All-head (ReaderKnows objects) r readers know, readers_know objects files count fields readers reads.1 (All-tail (ReaderKnows objects) r readers know))

pub known_now : (objects : List Object) (s now : PlainScan) (f : Fragment) (readers : Readers) → s ≡ now → fragment_at_hand s ≡ Some f → s.readers ≡ Some readers → ScanKnows objects now
    → ReadFields objects f.files f.rows (asked_fields s) readers × All (ReaderKnows objects) readers
known_now objects s now f readers same at there knows =
    let here : ScanKnows objects s = subst (ScanKnows objects) (sym same) knows in
    let known : FragmentKnown objects (asked_fields s) (fragment_at_hand s) readers = MatchOption-at_some ⊤ (FragmentKnown objects (asked_fields s) (fragment_at_hand s)) readers there here in
    reads_and_knows objects f.files f.rows (asked_fields s) readers (subst (λ (o : Option Fragment). FragmentKnown objects (asked_fields s) o readers) at known)

pub known_later : (objects : List Object) (s : PlainScan) (f : Fragment) (new : Readers) → fragment_at_hand s ≡ Some f → ReadFields objects f.files f.rows (asked_fields s) new → All (ReaderKnows objects) new → ScanKnows objects (advanced s new)
known_later objects s f new at reads know = known_at objects (asked_fields s) (fragment_at_hand s) f new at (readers_know objects f.files f.rows (asked_fields s) new reads know)

-- ---- what is given

pub fewer_left : (s now : PlainScan) (f : Fragment) (new : Readers) → s ≡ now → fragment_at_hand s ≡ Some f → s.row < f.rows → rows_left (advanced s new) < rows_left now
fewer_left s now f new same at below =
    let sum = rows_behind s.manifest.fragments s.fragment f at in
    let fewer : rows_left (advanced s new) < rows_left s = omega (arith, sum, below) in
    subst (λ (t : PlainScan). rows_left (advanced s new) < rows_left t) same fewer

pub given_more : (objects : List Object) (s now : PlainScan) (f : Fragment) (new : Readers) (values : List PlainValue) (given : List Row) → s ≡ now → IsScan s → fragment_at_hand s ≡ Some f → s.row < f.rows → FitsRow (asked_fields s) values
    → AreValuesOf objects f.files f.rows (asked_fields s) s.row values → HasGiven objects now given → HasGiven objects (advanced s new) (given ++ values ∷ [])
given_more objects s now f new values given same is at below fits are gave =
    let has : HasGiven objects s given = subst (λ (t : PlainScan). HasGiven objects t given) (sym same) gave in
    let fields = (manifest_scanned s).fields in
    let Front : List Row → Fragment → Type 0 = λ begun f. GivesFront objects fields s.places f begun in
    let front : Front has.begun f = MatchOption-at_some (has.begun ≡ []) (Front has.begun) f at has.first in
    let begun : List Row = has.begun ++ values ∷ [] in
    let more : Front begun f = front_more objects fields s.places f has.begun s.row values (undeleted s f is at) (places_within s is) has.count below fits are front in
    record {
      whole = has.whole;
      begun = begun;
      scanned = has.scanned;
      first = subst (λ (o : Option Fragment). MatchOption o (begun ≡ []) (Front begun)) (sym at) more;
      count = omega (arith, has.count, length-append has.begun (values ∷ []));
      is = ap (λ (l : List Row). l ++ values ∷ []) has.is ∙ append_assoc has.whole has.begun (values ∷ []);
    }

pub refused_row : (objects : List Object) (m : PlainManifest) (places : List ℕ) (f : Fragment) (row : ℕ) (fault : ReadFault) → Contains m.fragments f → row < f.rows → RefusesOneValue objects f.files f.rows (fields_at m.fields places) row fault → RefusesScan objects m places fault
refused_row objects m places f row (Outside name why place) one below refuses = inr (record { fragment = f; is_one = one; field = refuses.field; is_asked = refuses.is_one; row = row; inside = below; refuses = refuses.refuses })
refused_row objects m places f row (Store name) one below refuses = tt
refused_row objects m places f row Memory one below refuses = tt
refused_row objects m places f row fault one below refuses = absurd refuses.refuses

-- ---- what is asked

range_rest : (row count : ℕ) → row < count → range_with_len row (count - row) ≡ row ∷ range_with_len (row + 1) (count - (row + 1))
range_rest row count below =
    let left : count - row ≡ suc (count - (row + 1)) = omega (arith, below) in
    ap (range_with_len row) left

-- the rows behind the next one
abbrev pub later_rows : PlainScan → List ℕ
later_rows s = range_with_len (s.row + 1) (rows_at_hand (fragment_at_hand s) - (s.row + 1))

-- what is due for the rows of the fragment at hand, and of those behind it
record ToRead (objects : List Object) (s : PlainScan) (readers : Readers) (due : Budget) : Type 0 where
  later : Budget
  hold : All (ReaderHolds objects) readers
  behind : MatchOption s.readers (FragmentsDue objects (asked_fields s) (drop s.fragment s.manifest.fragments) later) (λ readers. FragmentsDue objects (asked_fields s) (drop (s.fragment + 1) s.manifest.fragments) later)
  is : due ≡ plus (readers_due objects readers (s.row ∷ later_rows s)) later

to_read : (objects : List Object) (s : PlainScan) (readers : Readers) (due : Budget) → s.readers ≡ Some readers → s.row < rows_at_hand (fragment_at_hand s) → ScanDue objects s due → ToRead objects s readers due
to_read objects s readers due there below d =
    let Hand : Readers → Type 0 = λ readers. HandDue objects readers s.row (rows_at_hand (fragment_at_hand s)) d.hand in
    let hand : Hand readers = MatchOption-at_some (d.hand ≡ nothing) Hand readers there d.at_hand in
    let rows = ap (readers_due objects readers) (range_rest s.row (rows_at_hand (fragment_at_hand s)) below) in
    record { later = d.later; hold = hand.hold; behind = d.behind; is = d.is ∙ ap (λ (b : Budget). plus b d.later) (hand.is ∙ rows) }

pub reads_due : (objects : List Object) (s now : PlainScan) (old new : Readers) (due : Budget) (t u : Telling) → s ≡ now → s.readers ≡ Some old → s.row < rows_at_hand (fragment_at_hand s) → ScanDue objects now due → (All (ReaderHolds objects) old → All (ReaderHolds objects) new)
    → (All (ReaderHolds objects) old → Spends (readers_due objects old (s.row ∷ later_rows s)) (readers_due objects new (later_rows s)) t u) → (left : Budget) × ScanDue objects (advanced s new) left × Spends due left t u
reads_due objects s now old new due t u same there below d holds spends =
    let reading = to_read objects s old due there below (subst (λ (s : PlainScan). ScanDue objects s due) (sym same) d) in
    let Later : Readers → Type 0 = λ readers. FragmentsDue objects (asked_fields s) (drop (s.fragment + 1) s.manifest.fragments) reading.later in
    let behind : Later old = MatchOption-at_some (FragmentsDue objects (asked_fields s) (drop s.fragment s.manifest.fragments) reading.later) Later old there reading.behind in
    let hand : Budget = readers_due objects new (later_rows s) in
    let both = spends_beside (readers_due objects old (s.row ∷ later_rows s)) hand reading.later t u (spends reading.hold) in (
      plus hand reading.later,
      record { hand = hand; later = reading.later; at_hand = record { hold = holds reading.hold; is = refl }; behind = behind; is = refl },
      subst (λ (b : Budget). Spends b (plus hand reading.later) t u) (sym reading.is) both,
    )

pub not_read_due : (objects : List Object) (s now : PlainScan) (old : Readers) (due : Budget) (t u : Telling) → s ≡ now → s.readers ≡ Some old → s.row < rows_at_hand (fragment_at_hand s) → ScanDue objects now due
    → (All (ReaderHolds objects) old → Spends (readers_due objects old (s.row ∷ later_rows s)) nothing t u) → Spends due nothing t u
not_read_due objects s now old due t u same there below d spends =
    let reading = to_read objects s old due there below (subst (λ (s : PlainScan). ScanDue objects s due) (sym same) d) in
    let one : Budget = readers_due objects old (s.row ∷ later_rows s) in
    let both = spends_beside one nothing reading.later t u (spends reading.hold) in
    subst (λ (b : Budget). Spends b nothing t u) (sym reading.is) (spends_less (plus one reading.later) (plus nothing reading.later) nothing t u (record { ranges = omega arith; bytes = omega arith }) both)
