-- The first rows of a scan: a front of them is one again, and so are all of them.
use Rattle.std.proofs.Common.{◌≡◌, inl, inr, refl, sym, ◌∙◌, ap, subst, ℕ, zero, suc, List, [], ◌∷◌, ◌++◌, take, map, append_assoc, arith}
use Rattle.std.specs.Prelude.{◌⊎◌, All, MatchOption, slice_get}
use Rattle.std.proofs.lemmas.List.{append-nil}
use Rattle.lan_model.specs.Plain.{PlainField}
use Rattle.lan_model.specs.Table.{FitsRow}
use Rattle.lan_model.specs.Take.{picked}
use Rattle.lan_store.specs.declared.name.Object.{Object}
use Rattle.lan_manifest.specs.Manifests.{PlainManifest, plain_manifest}
use Rattle.lan_manifest.specs.declared.manifest.Fragment.{Fragment}
use Rattle.lan_manifest.specs.declared.manifest.Manifest.{Manifest}
use Rattle.lan_read.specs.Scanned.{AreScanned, GivesAll, GivesFront, IsScanFront, fields_at}
use Rattle.lan_read.specs.Scans.{PlainScan, HasGiven, ScansSame, manifest_scanned, scan_start}
use Rattle.lance_cli.proofs.SentRows.{Row}

abbrev the_rows : List Row → List Row
the_rows rows = rows

-- where one list ends in two that are the same
split_front : {X : Type 0} (sent rest a b : List X) → sent ++ rest ≡ a ++ b → ((x : List X) × (a ≡ sent ++ x)) ⊎ ((x : List X) × (sent ≡ a ++ x) × (x ++ rest ≡ b))
split_front [] rest a b is = inl (a, refl)
split_front (s ∷ ss) rest [] b is = inr (s ∷ ss, refl, is)
split_front (s ∷ ss) rest (x ∷ xs) b is =
    let head : s ≡ x = cc in
    let tail : ss ++ rest ≡ xs ++ b = cc in
    elim (split_front ss rest xs b tail) [
      | inl (more, within) ↦ inl (more, ap (λ l. x ∷ l) within ∙ ap (λ y. y ∷ (ss ++ more)) (sym head))
      | inr (more, past, left) ↦ inr (more, ap (λ y. y ∷ ss) head ∙ ap (λ l. x ∷ l) past, left)
    ]

all_front : {X : Type 0} (P : X → Type 0) (xs ys : List X) → All P (xs ++ ys) → All P xs
all_front P [] ys holds k d below = absurd (omega (arith, below))
all_front P (x ∷ xs) ys holds zero d below = holds 0 d (omega arith)
all_front P (x ∷ xs) ys holds (suc k) d below = all_front P xs ys (λ j e under. holds (suc j) e (omega (arith, under))) k d (omega (arith, below))

-- the first of a fragment's first rows
gives_less : (objects : List Object) (fields : List (PlainField ℕ)) (places : List ℕ) (f : Fragment) (rows sent rest : List Row) → rows ≡ sent ++ rest → GivesFront objects fields places f rows → GivesFront objects fields places f sent
gives_less objects fields places f rows sent rest is gives = record {
  fit = all_front (FitsRow (fields_at fields places)) sent rest (subst (λ l. All (FitsRow (fields_at fields places)) l) is gives.fit);
  picks = λ kept given. let (later, are) = gives.picks kept given in (rest ++ later, are ∙ ap (λ l. l ++ later) is ∙ append_assoc sent rest later);
}

-- all of a fragment's rows are first ones
gives_first : (objects : List Object) (fields : List (PlainField ℕ)) (places : List ℕ) (f : Fragment) (rows : List Row) → GivesAll objects fields places f rows → GivesFront objects fields places f rows
gives_first objects fields places f rows gives = record { fit = gives.fit; picks = λ kept given. ([], sym (gives.picks kept given) ∙ sym (append-nil rows)) }

-- none of its rows
gives_none : (objects : List Object) (fields : List (PlainField ℕ)) (places : List ℕ) (f : Fragment) → GivesFront objects fields places f []
gives_none objects fields places f = record { fit = λ k d below. absurd (omega (arith, below)); picks = λ kept given. (map (picked places) kept, refl) }

-- the rows of the first of some fragments, and the first ones of the fragment behind them
record Front (objects : List Object) (fields : List (PlainField ℕ)) (places : List ℕ) (fs : List Fragment) (rows : List Row) : Type 0 where
  n : ℕ
  whole : List Row
  begun : List Row
  scanned : AreScanned objects fields places (take n fs) whole
  first : MatchOption (slice_get fs n) (begun ≡ []) (λ f. GivesFront objects fields places f begun)
  is : rows ≡ whole ++ begun

-- of the fragment at hand alone
front_here : (objects : List Object) (fields : List (PlainField ℕ)) (places : List ℕ) (f : Fragment) (fs : List Fragment) (rows : List Row) → GivesFront objects fields places f rows → Front objects fields places (f ∷ fs) rows
front_here objects fields places f fs rows gives = record { n = 0; whole = []; begun = rows; scanned = refl; first = gives; is = refl }

-- behind all rows of a fragment
front_behind : (objects : List Object) (fields : List (PlainField ℕ)) (places : List ℕ) (f : Fragment) (fs : List Fragment) (mine rows : List Row) → GivesAll objects fields places f mine → Front objects fields places fs rows → Front objects fields places (f ∷ fs) (mine ++ rows)
front_behind objects fields places f fs mine rows gives front = record {
  n = suc front.n;
  whole = mine ++ front.whole;
  begun = front.begun;
  scanned = (mine, front.whole, gives, front.scanned, refl);
  first = front.first;
  is = ap (λ l. mine ++ l) front.is ∙ sym (append_assoc mine front.whole front.begun);
}

-- all rows
front_all : (objects : List Object) (fields : List (PlainField ℕ)) (places : List ℕ) (fs : List Fragment) (rows : List Row) → AreScanned objects fields places fs rows → Front objects fields places fs rows
front_all objects fields places [] rows none = record { n = 0; whole = []; begun = rows; scanned = refl; first = none; is = refl }
front_all objects fields places (f ∷ fs) rows (mine, later, gives, scanned, is) =
    subst (λ l. Front objects fields places (f ∷ fs) l) (sym is) (front_behind objects fields places f fs mine later gives (front_all objects fields places fs later scanned))

-- no rows
front_none : (objects : List Object) (fields : List (PlainField ℕ)) (places : List ℕ) (fs : List Fragment) → Front objects fields places fs []
front_none objects fields places [] = record { n = 0; whole = []; begun = []; scanned = refl; first = refl; is = refl }
front_none objects fields places (f ∷ fs) = front_here objects fields places f fs [] (gives_none objects fields places f)

empty_front : {X : Type 0} (sent rest : List X) → sent ++ rest ≡ [] → sent ≡ []
empty_front [] rest is = refl
empty_front (x ∷ xs) rest is = absurd (cc is)

-- the first of the first rows
front_less : (objects : List Object) (fields : List (PlainField ℕ)) (places : List ℕ) (fs : List Fragment) (n : ℕ) (whole begun sent rest : List Row) → AreScanned objects fields places (take n fs) whole
    → MatchOption (slice_get fs n) (begun ≡ []) (λ f. GivesFront objects fields places f begun) → sent ++ rest ≡ whole ++ begun → Front objects fields places fs sent
front_less objects fields places [] zero whole begun sent rest scanned first is =
    subst (λ l. Front objects fields places [] l) (sym (empty_front sent rest (is ∙ ap (λ l. l ++ begun) scanned ∙ first))) (front_none objects fields places [])
front_less objects fields places [] (suc n) whole begun sent rest scanned first is =
    subst (λ l. Front objects fields places [] l) (sym (empty_front sent rest (is ∙ ap (λ l. l ++ begun) scanned ∙ first))) (front_none objects fields places [])
front_less objects fields places (f ∷ fs) zero whole begun sent rest scanned first is =
    front_here objects fields places f fs sent (gives_less objects fields places f begun sent rest (sym (is ∙ ap (λ l. l ++ begun) scanned)) first)
front_less objects fields places (f ∷ fs) (suc n) whole begun sent rest (mine, later, gives, scanned, are) first is =
    elim (split_front sent rest mine (later ++ begun) (is ∙ ap (λ l. l ++ begun) are ∙ append_assoc mine later begun)) [
      | inl (more, within) ↦ front_here objects fields places f fs sent (gives_less objects fields places f mine sent more within (gives_first objects fields places f mine gives))
      | inr (more, past, left) ↦
          subst (λ l. Front objects fields places (f ∷ fs) l) (sym past) (front_behind objects fields places f fs mine more gives (front_less objects fields places fs n later begun more rest scanned first left))
    ]

of_front : (objects : List Object) (m : PlainManifest) (places : List ℕ) (rows : List Row) → Front objects m.fields places m.fragments rows → IsScanFront objects m places rows
of_front objects m places rows front = record { fragments = front.n; whole = front.whole; begun = front.begun; scanned = front.scanned; first = front.first; is = front.is }

-- ---- fronts of a manifest's rows

pub no_rows_front : (objects : List Object) (m : PlainManifest) (places : List ℕ) → IsScanFront objects m places []
no_rows_front objects m places = of_front objects m places [] (front_none objects m.fields places m.fragments)

pub all_rows_front : (objects : List Object) (m : PlainManifest) (places : List ℕ) (rows : List Row) → AreScanned objects m.fields places m.fragments rows → IsScanFront objects m places rows
all_rows_front objects m places rows scanned = of_front objects m places rows (front_all objects m.fields places m.fragments rows scanned)

pub less_rows_front : (objects : List Object) (m : PlainManifest) (places : List ℕ) (rows sent rest : List Row) → IsScanFront objects m places rows → sent ++ rest ≡ rows → IsScanFront objects m places sent
less_rows_front objects m places rows sent rest front is =
    of_front objects m places sent (front_less objects m.fields places m.fragments front.fragments front.whole front.begun sent rest front.scanned front.first (is ∙ front.is))

-- ---- what a scan gave

none_at_front : (objects : List Object) (fields : List (PlainField ℕ)) (places : List ℕ) (fs : List Fragment) → MatchOption (slice_get fs 0) (the_rows [] ≡ []) (λ f. GivesFront objects fields places f [])
none_at_front objects fields places [] = refl
none_at_front objects fields places (f ∷ fs) = gives_none objects fields places f

-- at its front nothing
pub nothing_given : (objects : List Object) (m : Manifest) (places : List ℕ) → HasGiven objects (scan_start m places) []
nothing_given objects m places = record { whole = []; begun = []; scanned = refl; first = none_at_front objects (plain_manifest m).fields places m.fragments; count = refl; is = refl }

-- the rows that it gave are the first
pub given_front : (objects : List Object) (old s : PlainScan) (given : List Row) → ScansSame old s → HasGiven objects s given → IsScanFront objects (manifest_scanned old) old.places given
given_front objects old s given same has =
    let here : IsScanFront objects (manifest_scanned s) s.places given = record { fragments = s.fragment; whole = has.whole; begun = has.begun; scanned = has.scanned; first = has.first; is = has.is } in
    subst (λ (m : Manifest). IsScanFront objects (plain_manifest m) old.places given) same.manifest (subst (λ places. IsScanFront objects (manifest_scanned s) places given) same.places here)
