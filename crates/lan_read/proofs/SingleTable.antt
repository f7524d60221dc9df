-- The objects stand for one table at a version.
use Rattle.std.proofs.Common.{◌≡◌, inl, inr, sym, ◌∙◌, ap, ℕ, zero, suc, List, [], ◌∷◌, ◌++◌, length, get_or, map, subst, append_assoc}
use Rattle.std.specs.Prelude.{All, Option, Some, None, slice_get}
use Rattle.std.proofs.lemmas.Option.{same_Some}
use Rattle.std.proofs.lemmas.List.Elements.{All-head, All-tail}
use Rattle.lan_model.specs.Plain.{PlainField, PlainValue, values_from, fields_from, unnumbered}
use Rattle.lan_model.specs.Fits.{AllFit}
use Rattle.lan_model.specs.Table.{Table, IsField, AreFields}
use Rattle.lan_model.specs.After.{without}
use Rattle.lan_model.specs.Leaves.{leaves_of}
use Rattle.lan_levels.proofs.Leaves.{columns_determine}
use Rattle.lan_file.proofs.LawTerms.{one_file}
use Rattle.lan_store.specs.declared.name.Object.{Object}
use Rattle.lan_store.specs.declared.name.Name.{Name}
use Rattle.lan_manifest.specs.Manifests.{PlainManifest}
use Rattle.lan_manifest.specs.declared.manifest.Fragment.{Fragment}
use Rattle.lan_manifest.specs.declared.manifest.DataFile.{DataFile}
use Rattle.lan_manifest.specs.declared.manifest.Deletion.{Deletion}
use Rattle.lan_manifest.proofs.LawTerms.{one_object}
use Rattle.lan_read.specs.Given.{AreWhole, IsWhole}
use Rattle.lan_read.specs.Rows.{IsHeld, values_at, FilesGive, PhysicalRows, AreDeleted, FragmentGives, FragmentsGive}
use Rattle.lan_read.specs.Tables.{HasManifest, StandsFor}
use Rattle.lan_read.proofs.WholeFields.{manifest_fields, manifest_whole}
use Rattle.lan_read.proofs.RowLists.{Row, values_same, row_long, column_fits, field_is, column_long, field_at, same_rows, nulls_same}

-- what is held under one name is one
pub held_one : (objects : List Object) (name : Name) (P Q : List ℕ → Type 0) (a : IsHeld objects name P) (b : IsHeld objects name Q) → Q a.bytes
held_one objects name P Q a b = subst Q (same_Some b.bytes a.bytes (sym b.held ∙ a.held)) b.says

pub only_item : {X : Type 0} {x y : X} → x ∷ [] ≡ y ∷ [] → x ≡ y
only_item {X} {x} {y} e = same_Some x y (ap (λ (l : List X). slice_get l 0) e)

-- a top field that is given whole or not at all has one list of values
pub column_one : (objects : List Object) (files : List DataFile) (f : PlainField ℕ) (vs ws : List PlainValue) → IsField f → IsWhole files f → AllFit f (values_from vs) → AllFit f (values_from ws) → length vs ≡ length ws
    → FilesGive objects files f vs → FilesGive objects files f ws → vs ≡ ws
column_one objects files f vs ws is (inl given) vs_fit ws_fit long a b =
    values_same vs ws (columns_determine f 0 (values_from vs) (values_from ws) is vs_fit ws_fit (λ k d below.
    let at = given k d below in
    let left = a.given k d below at in
    let right = b.given k d below at in
    only_item (one_file (record { column = at.column; leaf = get_or (leaves_of f 0 []) k d } ∷ []) left.bytes (length vs) (length ws) _ _ left.says (held_one objects _ _ _ left right)).1))
column_one objects files f vs ws is (inr none) vs_fit ws_fit long a b = nulls_same vs ws long (a.absent none) (b.absent none)

pub whole_at : (files : List DataFile) (fields : List (PlainField ℕ)) (top : ℕ) (f : PlainField ℕ) → All (IsWhole files) fields → slice_get fields top ≡ Some f → IsWhole files f
whole_at files [] top f whole at = absurd (cc at)
whole_at files (g ∷ fields) zero f whole at =
    let same : g ≡ f = cc in
    subst (IsWhole files) same (All-head (IsWhole files) g fields whole)
whole_at files (g ∷ fields) (suc top) f whole at = whole_at files fields top f (All-tail (IsWhole files) g fields whole) at

-- files give one list of rows
pub physical_one : (objects : List Object) (fields : List (PlainField ℕ)) (files : List DataFile) (count : ℕ) (xs ys : List Row) → AreFields (fields_from fields) → All (IsWhole files) fields
    → PhysicalRows objects fields files count xs → PhysicalRows objects fields files count ys → xs ≡ ys
physical_one objects fields files count xs ys are whole a b =
    let long : length xs ≡ length ys = a.long ∙ sym b.long in
    same_rows (length fields) xs ys
    (λ k d below. row_long fields _ (a.fit k d below))
    (λ k d below. row_long fields _ (b.fit k d below))
    long
    (λ top below.
    let f = field_at fields top below in
    column_one objects files f.0 (values_at top xs) (values_at top ys) (field_is fields top f.0 are f.1) (whole_at files fields top f.0 whole f.1)
    (column_fits fields xs top f.0 a.fit f.1) (column_fits fields ys top f.0 b.fit f.1) (column_long top xs ∙ long ∙ sym (column_long top ys)) (a.columns top f.0 f.1) (b.columns top f.0 f.1))

pub deleted_one : (objects : List Object) (fragment : ℕ) (d : Option Deletion) (count : ℕ) (xs ys : List ℕ) → AreDeleted objects fragment d count xs → AreDeleted objects fragment d count ys → xs ≡ ys
deleted_one objects fragment None count xs ys a b = a ∙ sym b
deleted_one objects fragment (Some d) count xs ys a b = absurd a.says

pub fragment_one : (objects : List Object) (fields : List (PlainField ℕ)) (f : Fragment) (xs ys : List Row) → AreFields (fields_from fields) → All (IsWhole f.files) fields
    → FragmentGives objects fields f xs → FragmentGives objects fields f ys → xs ≡ ys
fragment_one objects fields f xs ys are whole a b =
    let rows : a.physical ≡ b.physical = physical_one objects fields f.files f.rows a.physical b.physical are whole a.rows b.rows in
    let deleted : a.deleted ≡ b.deleted = deleted_one objects f.id f.deletion f.rows a.deleted b.deleted a.deletions b.deletions in
    a.left ∙ ap (λ (l : List ℕ). without l 0 a.physical) deleted ∙ ap (λ (l : List Row). without b.deleted 0 l) rows ∙ sym b.left

-- the rows of the first fragments are the first rows
pub front_of_rows : (objects : List Object) (fields : List (PlainField ℕ)) (fs gs : List Fragment) (xs ys : List Row) → AreFields (fields_from fields) → AreWhole fields fs
    → FragmentsGive objects fields fs xs → FragmentsGive objects fields (fs ++ gs) ys → (later : List Row) × (ys ≡ xs ++ later) × FragmentsGive objects fields gs later
front_of_rows objects fields [] gs xs ys are whole a b = (ys, sym (ap (λ (l : List Row). l ++ ys) a), b)
front_of_rows objects fields (f ∷ fs) gs xs ys are whole (mine, later, first, rest, a) (other_mine, other_later, other_first, other_rest, b) =
    let Whole : Fragment → Type 0 = λ f. All (IsWhole f.files) fields in
    let here = fragment_one objects fields f mine other_mine are (All-head Whole f fs whole) first other_first in
    let behind = front_of_rows objects fields fs gs later other_later are (All-tail Whole f fs whole) rest other_rest in
    (behind.0, b ∙ ap (λ (l : List Row). l ++ other_later) (sym here) ∙ ap (λ (l : List Row). mine ++ l) behind.1 ∙ sym (append_assoc mine later behind.0) ∙ ap (λ (l : List Row). l ++ behind.0) (sym a), behind.2)

-- fragments give one list of rows
pub rows_given_once : (objects : List Object) (fields : List (PlainField ℕ)) (fs : List Fragment) (xs ys : List Row) → AreFields (fields_from fields) → AreWhole fields fs
    → FragmentsGive objects fields fs xs → FragmentsGive objects fields fs ys → xs ≡ ys
rows_given_once objects fields [] xs ys are whole a b = a ∙ sym b
rows_given_once objects fields (f ∷ fs) xs ys are whole (mine, later, first, rest, a) (other_mine, other_later, other_first, other_rest, b) =
    let Whole : Fragment → Type 0 = λ f. All (IsWhole f.files) fields in
    let here = fragment_one objects fields f mine other_mine are (All-head Whole f fs whole) first other_first in
    let behind = rows_given_once objects fields fs later other_later are (All-tail Whole f fs whole) rest other_rest in
    a ∙ ap (λ (l : List Row). l ++ later) here ∙ ap (λ (l : List Row). other_mine ++ l) behind ∙ sym b

pub one_manifest_held : (objects : List Object) (version : ℕ) (m n : PlainManifest) → HasManifest objects version m → HasManifest objects version n → m ≡ n
one_manifest_held objects version m n a b = one_object (record { base = 0; bytes = a.held.bytes }) version m n a.held.says (held_one objects _ _ _ a.held b.held)

-- the rows of a version that stands are those that its manifest's fragments give
pub rows_given : (objects : List Object) (version : ℕ) (t : Table) (m : PlainManifest) (rows : List Row) → StandsFor objects version t → HasManifest objects version m → FragmentsGive objects m.fields m.fragments rows → t.rows ≡ rows
rows_given objects version t m rows stands reads given =
    let same = one_manifest_held objects version stands.manifest m stands.has reads in
    let here : FragmentsGive objects m.fields m.fragments t.rows = subst (λ (n : PlainManifest). FragmentsGive objects n.fields n.fragments t.rows) same stands.rows in
    rows_given_once objects m.fields m.fragments t.rows rows (manifest_fields _ version m reads.held.says) (manifest_whole _ version m reads.held.says) here given

pub one_table_for : (objects : List Object) (version : ℕ) (t u : Table) → StandsFor objects version t → StandsFor objects version u → t ≡ u
one_table_for objects version t u a b =
    let same = one_manifest_held objects version b.manifest a.manifest b.has a.has in
    let given : FragmentsGive objects a.manifest.fields a.manifest.fragments u.rows = subst (λ (n : PlainManifest). FragmentsGive objects n.fields n.fragments u.rows) same b.rows in
    let rows = rows_given objects version t a.manifest u.rows a a.has given in
    let columns : t.columns ≡ u.columns = a.columns ∙ ap (λ (n : PlainManifest). map unnumbered n.fields) (sym same) ∙ sym b.columns in
    λ i. record { columns = columns i; rows = rows i }
