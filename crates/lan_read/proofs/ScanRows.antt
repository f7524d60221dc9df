-- The rows that a scan gives: one row of a fragment more, and one fragment more.
use Rattle.std.proofs.Common.{◌≡◌, sym, ◌∙◌, ap, ap₂, refl, subst, ℕ, ◌<◌, List, [], ◌∷◌, ◌++◌, append_assoc, get_or, length, map, arith}
use Rattle.std.specs.Prelude.{All, MatchOption, Option, Some, None}
use Rattle.std.proofs.lemmas.List.{append-nil, get_or-map, length-append, length-map}
use Rattle.std.proofs.lemmas.List.Elements.{All-append, All-cons, All-head, All-nil, All-tail}
use Rattle.lan_model.specs.After.{without}
use Rattle.lan_model.specs.Plain.{PlainField, PlainValue, null}
use Rattle.lan_model.specs.Table.{FitsRow}
use Rattle.lan_model.specs.Take.{picked}
use Rattle.lan_store.specs.declared.name.Object.{Object}
use Rattle.lan_manifest.specs.declared.manifest.DataFile.{DataFile}
use Rattle.lan_manifest.specs.declared.manifest.Deletion.{Deletion}
use Rattle.lan_manifest.specs.declared.manifest.Fragment.{Fragment}
use Rattle.lan_read.specs.Rows.{AreDeleted, FragmentGives, PhysicalRows}
use Rattle.lan_read.specs.RowValues.{AreValuesOf}
use Rattle.lan_read.specs.Scanned.{AreScanned, GivesAll, GivesFront, and_field, deleted_in, fields_at}
use Rattle.lan_read.proofs.RowLists.{Row, field_at, without-none}

-- ---- a fragment of which no row is deleted

none_deleted : (objects : List Object) (id : ℕ) (d : Option Deletion) (count : ℕ) (deleted : List ℕ) → d ≡ None → AreDeleted objects id d count deleted → deleted ≡ []
none_deleted objects id d count deleted none are = let Are : Option Deletion → Type 0 = λ d. AreDeleted objects id d count deleted in let h : Are None = subst Are none are in h

-- gives all rows of its files
pub kept_all : (objects : List Object) (fields : List (PlainField ℕ)) (f : Fragment) (kept : List Row) → f.deletion ≡ None → (gives : FragmentGives objects fields f kept) → kept ≡ gives.physical
kept_all objects fields f kept none gives =
    gives.left ∙ ap (λ (l : List ℕ). without l 0 gives.physical) (none_deleted objects f.id f.deletion f.rows gives.deleted none gives.deletions) ∙ without-none 0 gives.physical

pub kept_long : (objects : List Object) (fields : List (PlainField ℕ)) (f : Fragment) (kept : List Row) → f.deletion ≡ None → FragmentGives objects fields f kept → length kept ≡ f.rows
kept_long objects fields f kept none gives = ap (length {A = Row}) (kept_all objects fields f kept none gives) ∙ gives.rows.long

-- ---- its first rows

empty_of : {X : Type 0} (xs : List X) → length xs ≡ 0 → xs ≡ []
empty_of [] none = refl
empty_of (x ∷ xs) none = absurd (omega (arith, none))

-- so many as it has are all
pub front_is_all : (objects : List Object) (fields : List (PlainField ℕ)) (places : List ℕ) (f : Fragment) (rows : List Row) → f.deletion ≡ None → length rows ≡ f.rows → GivesFront objects fields places f rows → GivesAll objects fields places f rows
front_is_all objects fields places f rows none long front = record {
  fit = front.fit;
  long = omega (arith, long, ap deleted_in none);
  picks = λ kept gives.
      let more = front.picks kept gives in
      let there : length (map (picked places) kept) ≡ length (rows ++ more.0) = ap (length {A = Row}) more.1 in
      let as_many = kept_long objects fields f kept none gives in
      let over : more.0 ≡ [] = empty_of more.0 (omega (arith, there, as_many, long, length-map kept (picked places), length-append rows more.0)) in
      sym (more.1 ∙ ap (λ (l : List Row). rows ++ l) over ∙ append-nil rows);
}

-- none
pub front_of_none : (objects : List Object) (fields : List (PlainField ℕ)) (places : List ℕ) (f : Fragment) → GivesFront objects fields places f []
front_of_none objects fields places f = record { fit = All-nil (FitsRow (fields_at fields places)); picks = λ kept gives. (map (picked places) kept, refl) }

pub none_begun : (objects : List Object) (fields : List (PlainField ℕ)) (places : List ℕ) (o : Option Fragment) → MatchOption o (◌≡◌ {A = List Row} [] []) (λ f. GivesFront objects fields places f [])
none_begun objects fields places None = refl
none_begun objects fields places (Some f) = front_of_none objects fields places f

-- the values of a row at places, where they are those of the fields there
pub values_picked : (objects : List Object) (files : List DataFile) (count row : ℕ) (fields : List (PlainField ℕ)) (rows : List Row) (places : List ℕ) (values : List PlainValue) → All (λ place. place < length fields) places → PhysicalRows objects fields files count rows
    → AreValuesOf objects files count (fields_at fields places) row values → values ≡ picked places (get_or rows row [])
values_picked objects files count row fields rows [] [] within physical are = refl
values_picked objects files count row fields rows [] (v ∷ values) within physical are = absurd are
values_picked objects files count row fields rows (place ∷ places) [] within physical are =
    let found = field_at fields place (All-head (λ place. place < length fields) place places within) in
    let Are : Option (PlainField ℕ) → Type 0 = λ o. AreValuesOf objects files count (and_field o (fields_at fields places)) row [] in
    let none : Are (Some found.0) = subst Are found.1 are in
    absurd none
values_picked objects files count row fields rows (place ∷ places) (v ∷ values) within physical are =
    let found = field_at fields place (All-head (λ place. place < length fields) place places within) in
    let Are : Option (PlainField ℕ) → Type 0 = λ o. AreValuesOf objects files count (and_field o (fields_at fields places)) row (v ∷ values) in
    let all : Are (Some found.0) = subst Are found.1 are in
    let first : v ≡ get_or (get_or rows row []) place null = all.0 fields rows place physical found.1 in
    let rest : values ≡ picked places (get_or rows row []) = values_picked objects files count row fields rows places values (All-tail (λ place. place < length fields) place places within) physical all.1 in
    ap₂ (λ (v : PlainValue) (vs : List PlainValue). v ∷ vs) first rest

get_or-behind : (begun : List Row) (row : Row) (later : List Row) → get_or (begun ++ row ∷ later) (length begun) [] ≡ row
get_or-behind [] row later = refl
get_or-behind (r ∷ begun) row later = get_or-behind begun row later

-- what stands behind the first of a list's items begins with the next
next_behind : (rows begun later : List Row) → rows ≡ begun ++ later → length begun < length rows → (behind : List Row) × (later ≡ get_or rows (length begun) [] ∷ behind)
next_behind rows begun [] is below = absurd (omega (arith, below, ap (length {A = Row}) is, length-append begun []))
next_behind rows begun (row ∷ later) is below = (later, ap (λ (r : Row). r ∷ later) (sym (ap (λ (l : List Row). get_or l (length begun) []) is ∙ get_or-behind begun row later)))

-- the next one too
pub front_more : (objects : List Object) (fields : List (PlainField ℕ)) (places : List ℕ) (f : Fragment) (begun : List Row) (row : ℕ) (values : List PlainValue) → f.deletion ≡ None → All (λ place. place < length fields) places → length begun ≡ row → row < f.rows
    → FitsRow (fields_at fields places) values → AreValuesOf objects f.files f.rows (fields_at fields places) row values → GivesFront objects fields places f begun → GivesFront objects fields places f (begun ++ values ∷ [])
front_more objects fields places f begun row values none within long below fits are front = record {
  fit = All-append (FitsRow (fields_at fields places)) begun (values ∷ []) front.fit (All-cons (FitsRow (fields_at fields places)) values [] fits (All-nil (FitsRow (fields_at fields places))));
  picks = λ kept gives.
      let more = front.picks kept gives in
      let rows : List Row = map (picked places) kept in
      let as_many = kept_long objects fields f kept none gives in
      let next = next_behind rows begun more.0 more.1 (omega (arith, long, below, as_many, length-map kept (picked places))) in
      let there : row < length kept = omega (arith, below, as_many) in
      let value : values ≡ get_or rows (length begun) [] =
      values_picked objects f.files f.rows row fields gives.physical places values within gives.rows are
      ∙ ap (λ (l : List Row). picked places (get_or l row [])) (sym (kept_all objects fields f kept none gives))
      ∙ sym (get_or-map (picked places) kept row [] [] there)
      ∙ ap (λ (n : ℕ). get_or rows n []) (sym long)
      in
      (next.0, more.1 ∙ ap (λ (l : List Row). begun ++ l) (next.1 ∙ ap (λ (r : Row). r ∷ next.0) (sym value)) ∙ sym (append_assoc begun (values ∷ []) next.0));
}

-- ---- one fragment more

pub scanned_more : (objects : List Object) (fields : List (PlainField ℕ)) (places : List ℕ) (fs : List Fragment) (whole : List Row) (f : Fragment) (mine : List Row) → AreScanned objects fields places fs whole → GivesAll objects fields places f mine
    → AreScanned objects fields places (fs ++ f ∷ []) (whole ++ mine)
scanned_more objects fields places [] whole f mine is gives = (mine, [], gives, refl, ap (λ (l : List Row). l ++ mine) is ∙ sym (append-nil mine))
scanned_more objects fields places (g ∷ fs) whole f mine (first, later, one, rest, is) gives =
    (first, later ++ mine, one, scanned_more objects fields places fs later f mine rest gives, ap (λ (l : List Row). l ++ mine) is ∙ append_assoc first later mine)
