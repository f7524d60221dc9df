-- The fragment at hand is opened.
use Rattle.std.proofs.Common.{◌≡◌, inl, sym, ◌∙◌, ap, ap₂, refl, subst, ℕ, ◌+◌, ◌-◌, false, List, ◌∷◌, drop, arith}
use Rattle.std.specs.Prelude.{Contains, Option, Some, None, is_some}
use Rattle.std.specs.List.{range_with_len}
use Rattle.std.proofs.lemmas.Option.{MatchOption-at_none}
use Rattle.lan_model.specs.Plain.{PlainField}
use Rattle.lan_page.specs.ColumnCursors.{PlainCursor}
use Rattle.lan_store.specs.Budget.{Asks, Budget, Spends, nothing, plus}
use Rattle.lan_store.specs.Telling.{Telling}
use Rattle.lan_store.specs.declared.name.Object.{Object}
use Rattle.lan_store.proofs.LawTerms.{spends_step}
use Rattle.lan_manifest.specs.Manifests.{PlainManifest}
use Rattle.lan_manifest.specs.declared.manifest.Fragment.{Fragment}
use Rattle.lan_read.specs.Opened.{AreNewReaders, CanReadFrom, RefusesOpening, opening_due}
use Rattle.lan_read.specs.Scanned.{fields_at}
use Rattle.lan_read.specs.Scans.{FragmentDue, FragmentKnown, FragmentsDue, HandDue, IsScan, PlainScan, ReadersKnow, RefusesScan, ScanDue, asked_fields, fragment_at_hand, readers_due, rows_at_hand}
use Rattle.lan_read.specs.declared.read_fault.ReadFault.{ReadFault}
use Rattle.lan_read.specs.declared.read_fault.ReadFault.TheVariants.{Memory, Outside, Store}
use Rattle.lan_read.proofs.OpenedReaders.{new_readers_due, new_readers_hold}
use Rattle.lan_read.proofs.ScanSteps.{rest_is}

pub none_of : {X : Type 0} (o : Option X) → is_some o ≡ false → o ≡ None
none_of None not = refl
none_of (Some x) not = absurd (cc not)

-- why it isn't
pub refused_opening : (objects : List Object) (m : PlainManifest) (places : List ℕ) (f : Fragment) (fault : ReadFault) → Contains m.fragments f → RefusesOpening objects (fields_at m.fields places) f fault → RefusesScan objects m places fault
refused_opening objects m places f (Outside name why place) one refuses = inl (record { fragment = f; is_one = one; refuses = refuses })
refused_opening objects m places f (Store name) one refuses = tt
refused_opening objects m places f Memory one refuses = tt
refused_opening objects m places f fault one refuses = absurd refuses

-- what its readers know
pub known_at : (objects : List Object) (fields : List (PlainField ℕ)) (o : Option Fragment) (f : Fragment) (readers : List (Option (List PlainCursor))) → o ≡ Some f → ReadersKnow objects f.files f.rows fields readers → FragmentKnown objects fields o readers
known_at objects fields o f readers at know = subst (λ (o : Option Fragment). FragmentKnown objects fields o readers) (sym at) know

-- what is due of it and of those behind it
record ToOpen (objects : List Object) (s : PlainScan) (f : Fragment) (due : Budget) : Type 0 where
  mine : Budget
  later : Budget
  fragment : FragmentDue objects (asked_fields s) f mine
  behind : FragmentsDue objects (asked_fields s) (drop (s.fragment + 1) s.manifest.fragments) later
  is : due ≡ plus nothing (plus mine later)

to_open : (objects : List Object) (s : PlainScan) (f : Fragment) (due : Budget) → fragment_at_hand s ≡ Some f → s.readers ≡ None → ScanDue objects s due → ToOpen objects s f due
to_open objects s f due at none d =
    let fields = asked_fields s in
    let hand : d.hand ≡ nothing = MatchOption-at_none (d.hand ≡ nothing) (λ readers. HandDue objects readers s.row (rows_at_hand (fragment_at_hand s)) d.hand) none d.at_hand in
    let all : FragmentsDue objects fields (drop s.fragment s.manifest.fragments) d.later =
    MatchOption-at_none (FragmentsDue objects fields (drop s.fragment s.manifest.fragments) d.later) (λ readers. FragmentsDue objects fields (drop (s.fragment + 1) s.manifest.fragments) d.later) none d.behind
    in
    let Due : List Fragment → Type 0 = λ l. FragmentsDue objects fields l d.later in
    let both : Due (f ∷ drop (s.fragment + 1) s.manifest.fragments) = subst Due (rest_is s.manifest.fragments s.fragment f at) all in
    record { mine = both.0; later = both.1; fragment = both.2; behind = both.3; is = d.is ∙ ap₂ plus hand both.4 }

-- the rows that are left of it are all, before one is read
all_left : (s : PlainScan) (f : Fragment) → IsScan s → fragment_at_hand s ≡ Some f → s.readers ≡ None → range_with_len s.row (rows_at_hand (fragment_at_hand s) - s.row) ≡ range_with_len 0 f.rows
all_left s f is at none =
    let first : s.row ≡ 0 = MatchOption-at_none (s.row ≡ 0) (λ readers. CanReadFrom (asked_fields s) s.row (rows_at_hand (fragment_at_hand s)) readers) none is.readers in
    let count : rows_at_hand (fragment_at_hand s) ≡ f.rows = ap rows_at_hand at in
    let left : rows_at_hand (fragment_at_hand s) - s.row ≡ f.rows = omega (arith, first, count) in
    ap₂ range_with_len first left

pub opens_due : (objects : List Object) (s now : PlainScan) (f : Fragment) (readers : List (Option (List PlainCursor))) (due : Budget) (t u : Telling) → s ≡ now → IsScan s → fragment_at_hand s ≡ Some f → s.readers ≡ None
    → AreNewReaders objects f.files f.rows (asked_fields s) readers → Asks (opening_due objects (asked_fields s) f) t u → ScanDue objects now due → (left : Budget) × ScanDue objects (record s { readers = Some readers }) left × Spends due left t u
opens_due objects s now f readers due t u same is at none new asks d =
    let fields = asked_fields s in
    let opening = to_open objects s f due at none (subst (λ (s : PlainScan). ScanDue objects s due) (sym same) d) in
    let all = opening.fragment in
    let hand : Budget = readers_due objects readers (range_with_len s.row (rows_at_hand (fragment_at_hand s) - s.row)) in
    let hand_is : hand ≡ readers_due objects all.readers (range_with_len 0 f.rows) =
    ap (readers_due objects readers) (all_left s f is at none) ∙ new_readers_due objects f.files f.rows fields readers all.readers (range_with_len 0 f.rows) new all.new
    in
    let hold = new_readers_hold objects f.files f.rows fields all.readers readers all.new new all.hold in
    let whole : due ≡ plus nothing (plus (plus (opening_due objects fields f) hand) opening.later) = opening.is ∙ ap (λ (b : Budget). plus nothing (plus b opening.later)) (all.is ∙ ap (plus (opening_due objects fields f)) (sym hand_is)) in
    let ranges = ap (λ (b : Budget). b.ranges) whole in
    let bytes = ap (λ (b : Budget). b.bytes) whole in (
      plus hand opening.later,
      record { hand = hand; later = opening.later; at_hand = record { hold = hold; is = refl }; behind = opening.behind; is = refl },
      spends_step due (plus hand opening.later) (opening_due objects fields f) t u asks (record { ranges = omega (arith, ranges); bytes = omega (arith, bytes) }),
    )

pub not_opened_due : (objects : List Object) (s now : PlainScan) (f : Fragment) (due : Budget) (t u : Telling) → s ≡ now → fragment_at_hand s ≡ Some f → s.readers ≡ None → Asks (opening_due objects (asked_fields s) f) t u → ScanDue objects now due → Spends due nothing t u
not_opened_due objects s now f due t u same at none asks d =
    let opening = to_open objects s f due at none (subst (λ (s : PlainScan). ScanDue objects s due) (sym same) d) in
    let whole : due ≡ plus nothing (plus (plus (opening_due objects (asked_fields s) f) (readers_due objects opening.fragment.readers (range_with_len 0 f.rows))) opening.later) = opening.is ∙ ap (λ (b : Budget). plus nothing (plus b opening.later)) opening.fragment.is in
    let ranges = ap (λ (b : Budget). b.ranges) whole in
    let bytes = ap (λ (b : Budget). b.bytes) whole in
    spends_step due nothing (opening_due objects (asked_fields s) f) t u asks (record { ranges = omega (arith, ranges); bytes = omega (arith, bytes) })
