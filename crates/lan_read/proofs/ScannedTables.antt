-- What a scan gives of a version's fragments is what its table gives.
use Rattle.std.proofs.Common.{◌≡◌, inl, inr, sym, ◌∙◌, ap, ap₂, subst, ℕ, zero, suc, ◌+◌, List, [], ◌∷◌, ◌++◌, map, take, append_assoc}
use Rattle.std.specs.Prelude.{All, MatchOption, Option, nat_eq, slice_get}
use Rattle.std.specs.List.{list_any}
use Rattle.std.proofs.lemmas.Bool.{cases_Bool}
use Rattle.std.proofs.lemmas.List.{map-append}
use Rattle.std.proofs.lemmas.List.Elements.{All-append, All-cons, All-head, All-nil, All-same, All-tail}
use Rattle.std.proofs.Math.Seq.{take-nil}
use Rattle.lan_model.proofs.Unnumbered.{Fits-unnumbered}
use Rattle.lan_model.specs.After.{without}
use Rattle.lan_model.specs.Plain.{PlainField, unnumbered}
use Rattle.lan_model.specs.Table.{AreColumns, FitsRow, IsTable, Table}
use Rattle.lan_model.specs.Take.{picked, scan_of}
use Rattle.lan_store.specs.declared.name.Object.{Object}
use Rattle.lan_manifest.specs.Manifests.{PlainManifest}
use Rattle.lan_manifest.specs.declared.manifest.Fragment.{Fragment}
use Rattle.lan_read.specs.Rows.{FragmentsGive}
use Rattle.lan_read.specs.Scanned.{AreScanned, GivesFront, IsScanFront}
use Rattle.lan_read.specs.Tables.{HasManifest, StandsFor}
use Rattle.lan_read.proofs.ReadableFields.{manifest_columns}
use Rattle.lan_read.proofs.RowLists.{Row}
use Rattle.lan_read.proofs.SingleTable.{one_manifest_held}

-- a version's rows are given by the fragments of the manifest that is held
given_by : (objects : List Object) (version : ℕ) (t : Table) (m : PlainManifest) → HasManifest objects version m → StandsFor objects version t → FragmentsGive objects m.fields m.fragments t.rows
given_by objects version t m has stands = subst (λ (n : PlainManifest). FragmentsGive objects n.fields n.fragments t.rows) (one_manifest_held objects version stands.manifest m stands.has has) stands.rows

-- ---- all rows

rows_scanned : (objects : List Object) (fields : List (PlainField ℕ)) (places : List ℕ) (fs : List Fragment) (kept rows : List Row) → FragmentsGive objects fields fs kept → AreScanned objects fields places fs rows → rows ≡ map (picked places) kept
rows_scanned objects fields places [] kept rows give scanned = scanned ∙ ap (map (picked places)) (sym give)
rows_scanned objects fields places (f ∷ fs) kept rows (mine, later, first, rest, is) (scanned, behind, gives, others, rows_are) =
    rows_are
    ∙ ap₂ (λ (xs ys : List Row). xs ++ ys) (gives.picks mine first) (rows_scanned objects fields places fs later behind rest others)
    ∙ sym (map-append (picked places) mine later)
    ∙ ap (map (picked places)) (sym is)

pub scanned_table : (objects : List Object) (version : ℕ) (t : Table) (m : PlainManifest) (places : List ℕ) (rows : List Row) → AreScanned objects m.fields places m.fragments rows → HasManifest objects version m → StandsFor objects version t → rows ≡ scan_of t places
scanned_table objects version t m places rows scanned has stands = rows_scanned objects m.fields places m.fragments t.rows rows (given_by objects version t m has stands) scanned

-- ---- the first rows

abbrev FirstOf : List Object → List (PlainField ℕ) → List ℕ → Option Fragment → List Row → Type 0
FirstOf objects fields places fragment begun = MatchOption fragment (begun ≡ []) (λ (f : Fragment). GivesFront objects fields places f begun)

none_before : (objects : List Object) (fields : List (PlainField ℕ)) (places : List ℕ) (n : ℕ) (whole : List Row) → AreScanned objects fields places (take n []) whole → whole ≡ []
none_before objects fields places n whole scanned = subst (λ (fs : List Fragment). AreScanned objects fields places fs whole) (take-nil n) scanned

front_scanned : (objects : List Object) (fields : List (PlainField ℕ)) (places : List ℕ) (fs : List Fragment) (n : ℕ) (kept whole begun : List Row) → FragmentsGive objects fields fs kept → AreScanned objects fields places (take n fs) whole
    → FirstOf objects fields places (slice_get fs n) begun → (later : List Row) × (map (picked places) kept ≡ (whole ++ begun) ++ later)
front_scanned objects fields places [] n kept whole begun give scanned first =
    let none = none_before objects fields places n whole scanned in
    ([], ap (map (picked places)) give ∙ sym (ap₂ (λ (xs ys : List Row). (xs ++ ys) ++ []) none first))
front_scanned objects fields places (f ∷ fs) zero kept whole begun (mine, later, here, rest, is) scanned first =
    let (left, parts) = first.picks mine here in (
      left ++ map (picked places) later,
      ap (map (picked places)) is
          ∙ map-append (picked places) mine later
          ∙ ap (λ (l : List Row). l ++ map (picked places) later) parts
          ∙ append_assoc begun left (map (picked places) later)
          ∙ ap (λ (l : List Row). (l ++ begun) ++ (left ++ map (picked places) later)) (sym scanned),
    )
front_scanned objects fields places (f ∷ fs) (suc n) kept whole begun (mine, later, here, rest, is) (scanned, behind, gives, others, whole_is) first =
    let (left, parts) = front_scanned objects fields places fs n later behind begun rest others first in (
      left,
      ap (map (picked places)) is
          ∙ map-append (picked places) mine later
          ∙ ap₂ (λ (xs ys : List Row). xs ++ ys) (sym (gives.picks mine here)) parts
          ∙ sym (append_assoc scanned (behind ++ begun) left)
          ∙ ap (λ (l : List Row). l ++ left) (sym (append_assoc scanned behind begun) ∙ ap (λ (l : List Row). l ++ begun) (sym whole_is)),
    )

pub scanned_front : (objects : List Object) (version : ℕ) (t : Table) (m : PlainManifest) (places : List ℕ) (rows : List Row) → IsScanFront objects m places rows → HasManifest objects version m → StandsFor objects version t
    → (later : List Row) × (scan_of t places ≡ rows ++ later)
scanned_front objects version t m places rows front has stands =
    let (later, is) = front_scanned objects m.fields places m.fragments front.fragments t.rows front.whole front.begun (given_by objects version t m has stands) front.scanned front.first in
    (later, is ∙ ap (λ (l : List Row). l ++ later) (sym front.is))

-- ---- rows fit

along : {A B : Type 0} → A ≡ B → A → B
along same a = subst (λ T. T) same a

-- a row fits whatever the numbers of the fields
row_fits : (fields : List (PlainField ℕ)) (row : Row) → FitsRow fields row → FitsRow (map unnumbered fields) row
row_fits [] [] fits = tt
row_fits [] (v ∷ row) fits = absurd fits
row_fits (f ∷ fields) [] fits = absurd fits
row_fits (f ∷ fields) (v ∷ row) fits = (along (sym (Fits-unnumbered f v)) fits.0, row_fits fields row fits.1)

each_left : {X : Type 0} (P : X → Type 0) (deleted : List ℕ) (at : ℕ) (xs : List X) → All P xs → All P (without deleted at xs)
each_left P deleted at [] each = each
each_left P deleted at (x ∷ xs) each =
    let later = each_left P deleted (at + 1) xs (All-tail P x xs each) in
    elim (cases_Bool (list_any (nat_eq at) deleted)) [
      | inl out ↦ rw out later
      | inr stays ↦ rw stays (All-cons P x (without deleted (at + 1) xs) (All-head P x xs each) later)
    ]

rows_fit : (objects : List Object) (fields : List (PlainField ℕ)) (fs : List Fragment) (rows : List Row) → FragmentsGive objects fields fs rows → All (FitsRow fields) rows
rows_fit objects fields [] rows give = All-same (FitsRow fields) rows [] give (All-nil (FitsRow fields))
rows_fit objects fields (f ∷ fs) rows (mine, later, first, rest, is) =
    let here : All (FitsRow fields) mine = All-same (FitsRow fields) mine (without first.deleted 0 first.physical) first.left (each_left (FitsRow fields) first.deleted 0 first.physical first.rows.fit) in
    All-same (FitsRow fields) rows (mine ++ later) is (All-append (FitsRow fields) mine later here (rows_fit objects fields fs later rest))

-- a table that stands has columns and rows of a table
pub table_fits : (objects : List Object) (version : ℕ) (t : Table) → StandsFor objects version t → IsTable t
table_fits objects version t stands =
    let fields = stands.manifest.fields in
    let rows = rows_fit objects fields stands.manifest.fragments t.rows stands.rows in
    record {
      columns = subst AreColumns (sym stands.columns) (manifest_columns _ version stands.manifest stands.has.held.says);
      rows = subst (λ columns. All (FitsRow columns) t.rows) (sym stands.columns) (λ k d below. row_fits fields _ (rows k d below));
    }
