-- The steps of a scan: what it knows of the fragment at hand, and what holds as it goes on.
use Rattle.std.proofs.Common.{◌≡◌, sym, ◌∙◌, add-one, ap, refl, subst, ℕ, suc, ◌+◌, ◌<◌, ◌≤◌, List, [], ◌∷◌, ◌++◌, length, take, drop, sum_by, arith}
use Rattle.std.specs.Prelude.{All, IsSomeAnd, MatchOption, Option, Some, None, slice_get}
use Rattle.std.proofs.Math.Seq.{drop-cons}
use Rattle.std.proofs.lemmas.List.{append-nil, length-map}
use Rattle.std.proofs.lemmas.List.Sums.{sum_by-cons}
use Rattle.std.proofs.lemmas.Option.{MatchOption-at_some, get_or_from_slice_get, slice_get_within}
use Rattle.lan_model.specs.Plain.{PlainField, plain_field}
use Rattle.lan_page.specs.ColumnCursors.{PlainCursor}
use Rattle.lan_store.specs.Budget.{Budget, IsWithin, nothing, plus}
use Rattle.lan_store.specs.declared.name.Object.{Object}
use Rattle.lan_manifest.specs.declared.manifest.Fragment.{Fragment}
use Rattle.lan_read.specs.Opened.{IsReadable}
use Rattle.lan_read.specs.Scanned.{AreScanned, GivesFront}
use Rattle.lan_read.specs.Scanning.{GoesOn, IsDone, behind}
use Rattle.lan_read.specs.Scans.{FragmentsDue, HandDue, HasGiven, IsScan, PlainScan, asked_fields, fragment_at_hand, manifest_scanned, rows_at_hand}
use Rattle.lan_read.proofs.ReadableFields.{manifest_readable, manifest_undeleted, readable_at}
use Rattle.lan_read.proofs.RowLists.{Row}
use Rattle.lan_read.proofs.RowReaders.{next_taken}
use Rattle.lan_read.proofs.ScanRows.{front_is_all, none_begun, scanned_more}
use Rattle.lan_read.proofs.SeekEach.{all_at}

-- ---- the fragment at hand

pub has_hand : (o : Option Fragment) (row : ℕ) → row < rows_at_hand o → (f : Fragment) × (o ≡ Some f)
has_hand None row below = absurd (omega (arith, below))
has_hand (Some f) row below = (f, refl)

pub undeleted : (s : PlainScan) (f : Fragment) → IsScan s → fragment_at_hand s ≡ Some f → f.deletion ≡ None
undeleted s f is at =
    let m = manifest_scanned s in
    all_at (λ (f : Fragment). f.deletion ≡ None) s.manifest.fragments s.fragment f (manifest_undeleted is.snapshot.object m.version m is.snapshot.stands) at

pub places_within : (s : PlainScan) → IsScan s → All (λ place. place < length (manifest_scanned s).fields) s.places
places_within s is = subst (λ (n : ℕ). All (λ place. place < n) s.places) (sym (length-map s.manifest.fields plain_field)) is.places

pub readable : (s : PlainScan) (f : Fragment) → IsScan s → fragment_at_hand s ≡ Some f → All (IsReadable f.files f.rows) (asked_fields s)
readable s f is at =
    let m = manifest_scanned s in
    let all : All (IsReadable f.files f.rows) m.fields =
    all_at (λ (f : Fragment). All (IsReadable f.files f.rows) m.fields) s.manifest.fragments s.fragment f (manifest_readable is.snapshot.object m.version m is.snapshot.stands) at
    in
    readable_at f.files f.rows m.fields s.places all

pub rest_is : (fs : List Fragment) (n : ℕ) (f : Fragment) → slice_get fs n ≡ Some f → drop n fs ≡ f ∷ drop (n + 1) fs
rest_is fs n f at =
    drop-cons fs n f (slice_get_within fs n f at)
    ∙ ap (λ (g : Fragment). g ∷ drop (suc n) fs) (get_or_from_slice_get fs n f f at)
    ∙ ap (λ (k : ℕ). f ∷ drop k fs) (sym (add-one n))

abbrev pub rows_in : List Fragment → ℕ
rows_in fs = sum_by (λ (f : Fragment). f.rows) fs

pub rows_behind : (fs : List Fragment) (n : ℕ) (f : Fragment) → slice_get fs n ≡ Some f → rows_in (drop n fs) ≡ f.rows + rows_in (drop (n + 1) fs)
rows_behind fs n f at = ap rows_in (rest_is fs n f at) ∙ sum_by-cons (λ (f : Fragment). f.rows) f (drop (n + 1) fs)

-- ---- it goes on

pub goes_not : (s : PlainScan) → GoesOn s s
goes_not s = record {
  same = record { manifest = refl; places = refl };
  failed = refl;
  left = refl;
  knows = λ objects knows. knows;
  gave = λ objects given has. has;
  due = λ objects due is. (due, is, record { ranges = omega arith; bytes = omega arith });
}

pub goes_then : (r s t : PlainScan) → GoesOn r s → GoesOn s t → GoesOn r t
goes_then r s t a b = record {
  same = record { manifest = b.same.manifest ∙ a.same.manifest; places = b.same.places ∙ a.same.places };
  failed = b.failed ∙ a.failed;
  left = b.left ∙ a.left;
  knows = λ objects knows. b.knows objects (a.knows objects knows);
  gave = λ objects given has. b.gave objects given (a.gave objects given has);
  due = λ objects due is.
      let first = a.due objects due is in
      let next = b.due objects first.0 first.1 in
      let some = first.2 in
      let fewer = next.2 in
      (next.0, next.1, record { ranges = omega (arith, some.ranges, fewer.ranges); bytes = omega (arith, some.bytes, fewer.bytes) });
}

-- what is due behind the fragment at hand
due_behind : (objects : List Object) (fields : List (PlainField ℕ)) (fs : List Fragment) (n row count : ℕ) (f : Fragment) (readers : Option (List (Option (List PlainCursor)))) (hand later : Budget) → slice_get fs n ≡ Some f
    → MatchOption readers (hand ≡ nothing) (λ readers. HandDue objects readers row count hand) → MatchOption readers (FragmentsDue objects fields (drop n fs) later) (λ readers. FragmentsDue objects fields (drop (n + 1) fs) later)
    → (left : Budget) × FragmentsDue objects fields (drop (n + 1) fs) left × IsWithin left (plus hand later)
due_behind objects fields fs n row count f None hand later at mine all =
    let Due : List Fragment → Type 0 = λ l. FragmentsDue objects fields l later in
    let both : Due (f ∷ drop (n + 1) fs) = subst Due (rest_is fs n f at) all in
    let ranges = ap (λ (b : Budget). b.ranges) both.4 in
    let bytes = ap (λ (b : Budget). b.bytes) both.4 in
    (both.1, both.3, record { ranges = omega (arith, ranges); bytes = omega (arith, bytes) })
due_behind objects fields fs n row count f (Some readers) hand later at mine all = (later, all, record { ranges = omega arith; bytes = omega arith })

gave_behind : (objects : List Object) (s : PlainScan) (f : Fragment) → IsScan s → fragment_at_hand s ≡ Some f → f.rows ≤ s.row → (given : List Row) → HasGiven objects s given → HasGiven objects (behind s) given
gave_behind objects s f is at done given has =
    let fields = (manifest_scanned s).fields in
    let within : s.row ≤ f.rows = subst (λ (o : Option Fragment). s.row ≤ rows_at_hand o) at is.within in
    let Begun : Fragment → Type 0 = λ f. GivesFront objects fields s.places f has.begun in
    let front : Begun f = MatchOption-at_some (has.begun ≡ []) Begun f at has.first in
    let all = front_is_all objects fields s.places f has.begun (undeleted s f is at) (omega (arith, has.count)) front in
    record {
      whole = has.whole ++ has.begun;
      begun = [];
      scanned = subst (λ (l : List Fragment). AreScanned objects fields s.places l (has.whole ++ has.begun)) (sym (next_taken s.manifest.fragments s.fragment f at))
          (scanned_more objects fields s.places (take s.fragment s.manifest.fragments) has.whole f has.begun has.scanned all);
      first = none_begun objects fields s.places (fragment_at_hand (behind s));
      count = refl;
      is = has.is ∙ sym (append-nil (has.whole ++ has.begun));
    }

pub goes_behind : (s : PlainScan) (f : Fragment) → IsScan s → fragment_at_hand s ≡ Some f → f.rows ≤ s.row → GoesOn s (behind s)
goes_behind s f is at done =
    let within : s.row ≤ f.rows = subst (λ (o : Option Fragment). s.row ≤ rows_at_hand o) at is.within in
    record {
      same = record { manifest = refl; places = refl };
      failed = refl;
      left = omega (arith, rows_behind s.manifest.fragments s.fragment f at);
      knows = λ objects knows. tt;
      gave = λ objects given has. gave_behind objects s f is at done given has;
      due = λ objects due d.
          let left = due_behind objects (asked_fields s) s.manifest.fragments s.fragment s.row (rows_at_hand (fragment_at_hand s)) f s.readers d.hand d.later at d.at_hand d.behind in
          let fewer = left.2 in
          let ranges = ap (λ (b : Budget). b.ranges) d.is in
          let bytes = ap (λ (b : Budget). b.bytes) d.is in (
            plus nothing left.0,
            record { hand = nothing; later = left.0; at_hand = refl; behind = left.1; is = refl },
            record { ranges = omega (arith, fewer.ranges, ranges); bytes = omega (arith, fewer.bytes, bytes) },
          );
    }

some_of : {X : Type 0} (P : X → Type 0) (o : Option X) → IsSomeAnd o P → (x : X) × (o ≡ Some x) × P x
some_of P None is = absurd is
some_of P (Some x) is = (x, refl, is)

-- the fragment at hand is left
pub leaves : (s now : PlainScan) → s ≡ now → IsScan s → IsDone now → GoesOn now (behind s)
leaves s now same is done =
    let hand = some_of (λ (f : Fragment). f.rows ≤ s.row) (fragment_at_hand s) (subst IsDone (sym same) done) in
    subst (λ (t : PlainScan). GoesOn t (behind s)) same (goes_behind s hand.0 is hand.1 hand.2)
