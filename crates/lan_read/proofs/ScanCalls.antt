-- One step of a scan after another.
use Rattle.std.proofs.Common.{◌≡◌, sym, ◌∙◌, ap, subst, ℕ, zero, suc, ◌≤◌, List, [], ◌∷◌, ◌++◌, length, arith}
use Rattle.std.specs.Prelude.{Option, None, Result, Ok, Err, slice_get}
use Rattle.std.proofs.lemmas.List.{append-nil, take_all}
use Rattle.std.proofs.lemmas.Option.{MatchOption-at_none}
use Rattle.lan_model.specs.declared.tree.Val.{Val}
use Rattle.lan_store.specs.Budget.{Budget, IsWithin, Spends, nothing, plus}
use Rattle.lan_store.specs.Telling.{Telling}
use Rattle.lan_store.specs.declared.name.Name.{Name}
use Rattle.lan_store.specs.declared.name.Object.{Object}
use Rattle.lan_store.proofs.LawTerms.{looked_then, spends_then}
use Rattle.lan_manifest.specs.declared.manifest.Fragment.{Fragment}
use Rattle.lan_read.specs.Scanned.{AreScanned, GivesFront}
use Rattle.lan_read.specs.Scanning.{GivesRow, StaysAt}
use Rattle.lan_read.specs.Scans.{HasGiven, Looks, PlainScan, RefusesScan, ScanDue, ScansSame, SpendsNext, fragment_at_hand, manifest_scanned}
use Rattle.lan_read.specs.declared.read_fault.ReadFault.{ReadFault}
use Rattle.lan_read.proofs.RowLists.{Row}
use Rattle.lan_read.proofs.ValuesDue.{spends_not}

pub looks_then : (failure : Option Name) (s t u : Telling) → Looks None s t → Looks failure t u → Looks failure s u
looks_then failure s t u first next = (plus first.0 next.0, looked_then failure first.0 next.0 s t u first.1 next.1)

-- ---- what is given

-- where the next row stays, what was given does
pub gave_stays : (objects : List Object) (old new : PlainScan) (given : List Row) → StaysAt old new → HasGiven objects old given → HasGiven objects new given
gave_stays objects old new given stays has =
    let is : new ≡ record old { readers = new.readers; failed = new.failed } = λ i. record { manifest = stays.same.manifest i; places = stays.same.places i; fragment = stays.fragment i; row = stays.row i; readers = new.readers; failed = new.failed } in
    let moved : HasGiven objects (record old { readers = new.readers; failed = new.failed }) given = record { whole = has.whole; begun = has.begun; scanned = has.scanned; first = has.first; count = has.count; is = has.is } in
    subst (λ (s : PlainScan). HasGiven objects s given) (sym is) moved

-- a reason is one of the same scan
pub refuses_same : (objects : List Object) (old new : PlainScan) (fault : ReadFault) → ScansSame old new → RefusesScan objects (manifest_scanned new) new.places fault → RefusesScan objects (manifest_scanned old) old.places fault
refuses_same objects old new fault same refuses =
    let is : record new { manifest = old.manifest; places = old.places } ≡ new = λ i. record new { manifest = sym same.manifest i; places = sym same.places i } in
    subst (λ (s : PlainScan). RefusesScan objects (manifest_scanned s) s.places fault) (sym is) refuses

pub gives_then : (objects : List Object) (old mid new : PlainScan) (given : List Row) (r : Result (List Val) ReadFault) → ScansSame old mid → GivesRow objects mid new given r → GivesRow objects old new given r
gives_then objects old mid new given (Ok row) same gives = gives
gives_then objects old mid new given (Err fault) same gives = refuses_same objects old mid fault same gives

past_end : {X : Type 0} (xs : List X) (n : ℕ) → slice_get xs n ≡ None → length xs ≤ n
past_end [] n none = omega arith
past_end (x ∷ xs) zero none = absurd (cc none)
past_end (x ∷ xs) (suc n) none = omega (arith, past_end xs n none)

-- all were given, where no fragment is at hand
pub all_given : (objects : List Object) (old new : PlainScan) (given : List Row) → ScansSame old new → fragment_at_hand new ≡ None → HasGiven objects new given → AreScanned objects (manifest_scanned old).fields old.places old.manifest.fragments given
all_given objects old new given same none has =
    let fields = (manifest_scanned new).fields in
    let fragments = new.manifest.fragments in
    let over : length fragments ≤ new.fragment = past_end fragments new.fragment none in
    let empty : has.begun ≡ [] = MatchOption-at_none (has.begun ≡ []) (λ f. GivesFront objects fields new.places f has.begun) none has.first in
    let whole : given ≡ has.whole = has.is ∙ ap (λ (l : List Row). has.whole ++ l) empty ∙ append-nil has.whole in
    let scanned = subst (λ (fs : List Fragment). AreScanned objects fields new.places fs has.whole) (take_all new.fragment fragments over) has.scanned in
    let all : AreScanned objects fields new.places fragments given = subst (AreScanned objects fields new.places fragments) (sym whole) scanned in
    let is : record new { manifest = old.manifest; places = old.places } ≡ new = λ i. record new { manifest = sym same.manifest i; places = sym same.places i } in
    subst (λ (s : PlainScan). AreScanned objects (manifest_scanned s).fields s.places s.manifest.fragments given) (sym is) all

-- ---- what is asked

pub spends_next : {A B : Type 0} (objects : List Object) (mid new : PlainScan) (due : Budget) (x : A) (r : Result B ReadFault) (s t u : Telling) → SpendsNext {A = A} objects mid due (Ok x) s t → ((left : Budget) → ScanDue objects mid left → SpendsNext objects new left r t u)
    → SpendsNext objects new due r s u
spends_next objects mid new due x (Ok y) s t u first next =
    let later = next first.0 first.1 in
    (later.0, later.1, spends_then due first.0 later.0 s t u first.2 later.2)
spends_next objects mid new due x (Err fault) s t u first next = spends_then due first.0 nothing s t u first.2 (next first.0 first.1)

-- of more than is due
pub spends_within : (due left after : Budget) (s t : Telling) → IsWithin left due → Spends left after s t → Spends due after s t
spends_within due left after s t within spends = spends_then due left after s s t (spends_not due left s within) spends
