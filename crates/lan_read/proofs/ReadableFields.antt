-- What reading its rows needs of a manifest: no row is deleted, its fields may be a table's, and in each fragment the leaves of a top field are given
-- all or none; where none is, null is a value of the field, or there is no row.
use Rattle.std.proofs.Common.{◌≡◌, inl, inr, sym, ◌∙◌, ap, ap₂, refl, ℕ, zero, suc, ◌<◌, Bool, true, false, not, List, [], ◌∷◌, ◌++◌, length, get_or, map, arith, subst}
use Rattle.std.specs.Prelude.{◌&&◌, ◌||◌, ◌⊎◌, ◌≤◌, ℤ, pos, negsuc, All, Contains, flat_map, Option, Some, None, IsTrue, nat_eq, slice_get, slice_index_or, option_map}
use Rattle.std.specs.List.{list_all, list_any}
use Rattle.std.proofs.lemmas.Bool.{and_parts, cases_Bool, eqb-true, or_cases, or_parts, or_right, not-true, true≢false}
use Rattle.std.proofs.lemmas.Option.{get_or_from_slice_get, same_Some, slice_get-map, slice_get-get_or, slice_get_within}
use Rattle.std.proofs.lemmas.List.Elements.{All-cons, All-contains, All-head, All-map, All-nil, All-tail}
use Rattle.lan_model.proofs.FewLeaves.{few_columns}
use Rattle.lan_model.specs.Fits.{Fits}
use Rattle.lan_model.specs.Leaves.{AreNarrow, PlainLeaf, leaves_of}
use Rattle.lan_model.specs.Plain.{PlainField, field, fields_from, null, unnumbered}
use Rattle.lan_model.specs.Table.{AreColumns, AreFields, all_depths, depths_of}
use Rattle.lan_schema.specs.FieldTree.{signed}
use Rattle.lan_schema.specs.Forest.{same}
use Rattle.lan_schema.specs.Listed.{is_negative}
use Rattle.lan_schema.proofs.ForestLaws.{same_is, same_self}
use Rattle.lan_schema.proofs.LawTerms.{columns_same, read_fields}
use Rattle.lan_bytes.specs.Placed.{Placed}
use Rattle.lan_manifest.specs.declared.manifest.DataFile.{DataFile}
use Rattle.lan_manifest.specs.declared.manifest.Fragment.{Fragment}
use Rattle.lan_manifest.specs.FragmentRules.{are_indexed, is_whole, KeepEach, lists_fit, may_lack, type_fits}
use Rattle.lan_manifest.specs.ManifestObjects.{fragment_of, IsManifestObject}
use Rattle.lan_manifest.specs.Manifests.{PlainManifest}
use Rattle.lan_manifest.specs.SchemaLeaves.{all_leaf_ids, is_listed, leaf_ids, top_of, tops_of}
use Rattle.lan_manifest.proofs.LawTerms.{leaves_listed}
use Rattle.lan_read.specs.Given.{AreWhole, Given, IsWhole, NoneGiven}
use Rattle.lan_read.specs.Opened.{IsReadable}
use Rattle.lan_read.specs.Scanned.{and_field, fields_at}

-- ---- numbers that are listed

place_of : (zs : List ℤ) (z : ℤ) → is_listed zs z ≡ true → (k : ℕ) × (slice_get zs k ≡ Some z)
place_of [] z h = absurd (cc h)
place_of (y ∷ zs) z h = elim (cases_Bool (same y z)) [
  | inl is ↦ (0, ap Some (same_is y z is))
  | inr other ↦
      let (k, at) = place_of zs z (rw other at h) in
      (suc k, at)
]

listed_at : (zs : List ℤ) (z : ℤ) (k : ℕ) → slice_get zs k ≡ Some z → is_listed zs z ≡ true
listed_at [] z k at = absurd (cc at)
listed_at (y ∷ zs) z zero at =
    let here : same y z ≡ true = subst (λ (w : ℤ). same y w ≡ true) (same_Some y z at) (same_self y) in
    ap (λ (b : Bool). b || is_listed zs z) here
listed_at (y ∷ zs) z (suc k) at =
    let later = listed_at zs z k at in
    elim (cases_Bool (same y z)) [
      | inl is ↦ ap (λ (b : Bool). b || is_listed zs z) is
      | inr other ↦ ap (λ (b : Bool). b || is_listed zs z) other ∙ later
    ]

listed-append : (zs ws : List ℤ) (z : ℤ) → is_listed (zs ++ ws) z ≡ (is_listed zs z || is_listed ws z)
listed-append [] ws z = refl
listed-append (y ∷ zs) ws z = elim (cases_Bool (same y z)) [
  | inl is ↦ rw is refl
  | inr other ↦ rw other (listed-append zs ws z)
]

listed_left : (zs ws : List ℤ) (z : ℤ) → is_listed zs z ≡ true → is_listed (zs ++ ws) z ≡ true
listed_left zs ws z h = listed-append zs ws z ∙ ap (λ (b : Bool). b || is_listed ws z) h

listed_right : (zs ws : List ℤ) (z : ℤ) → is_listed ws z ≡ true → is_listed (zs ++ ws) z ≡ true
listed_right zs ws z h = listed-append zs ws z ∙ or_right (is_listed zs z) (is_listed ws z) h

-- ---- the numbers of leaves

-- each is listed
each_listed : (leaves : List PlainLeaf) → All (λ (leaf : PlainLeaf). is_listed (map (λ (l : PlainLeaf). signed l.id) leaves) (signed leaf.id) ≡ true) leaves
each_listed leaves k d below =
    listed_at (map (λ (l : PlainLeaf). signed l.id) leaves) _ k
    (slice_get-map (λ (l : PlainLeaf). signed l.id) leaves k ∙ ap (option_map (λ (l : PlainLeaf). signed l.id)) (slice_get-get_or leaves k d below))

abbrev LeavesAre : (ℤ → Bool) → PlainField ℕ → Type 0
LeavesAre is_leaf f = All (λ (leaf : PlainLeaf). is_leaf (signed leaf.id) ≡ true) (leaves_of f 0 [])

own_leaves : (f : PlainField ℕ) → LeavesAre (is_listed (leaf_ids f)) f
own_leaves f = subst (λ (ids : List ℤ). LeavesAre (is_listed ids) f) (sym (leaves_listed f 0 [])) (each_listed (leaves_of f 0 []))

fields_leaves : (fields : List (PlainField ℕ)) → All (LeavesAre (is_listed (all_leaf_ids (fields_from fields)))) fields
fields_leaves [] = All-nil _
fields_leaves (f ∷ fields) =
    let Leaves : PlainField ℕ → Type 0 = LeavesAre (is_listed (leaf_ids f ++ all_leaf_ids (fields_from fields))) in
    All-cons Leaves f fields (λ k d below. listed_left (leaf_ids f) (all_leaf_ids (fields_from fields)) _ (own_leaves f k d below))
    (λ k d below j e within. listed_right (leaf_ids f) (all_leaf_ids (fields_from fields)) _ (fields_leaves fields k d below j e within))

all_pass : (given : ℤ → Bool) (leaves : List PlainLeaf) → list_all given (map (λ (l : PlainLeaf). signed l.id) leaves) ≡ true → All (λ (leaf : PlainLeaf). given (signed leaf.id) ≡ true) leaves
all_pass given [] h = All-nil _
all_pass given (l ∷ leaves) h =
    let (here, later) = and_parts (given (signed l.id)) (list_all given (map (λ (l : PlainLeaf). signed l.id) leaves)) h in
    All-cons (λ (leaf : PlainLeaf). given (signed leaf.id) ≡ true) l leaves here (all_pass given leaves later)

none_passes : (given : ℤ → Bool) (leaves : List PlainLeaf) → list_any given (map (λ (l : PlainLeaf). signed l.id) leaves) ≡ false → All (λ (leaf : PlainLeaf). given (signed leaf.id) ≡ false) leaves
none_passes given [] h = All-nil _
none_passes given (l ∷ leaves) h =
    let (here, later) = or_parts (given (signed l.id)) (list_any given (map (λ (l : PlainLeaf). signed l.id) leaves)) h in
    All-cons (λ (leaf : PlainLeaf). given (signed leaf.id) ≡ false) l leaves here (none_passes given leaves later)

-- ---- a leaf that is listed has a column

column_at : (is_leaf : ℤ → Bool) (ids columns : List ℤ) (k : ℕ) (z : ℤ) → length ids ≡ length columns → are_indexed is_leaf ids columns ≡ true → is_leaf z ≡ true → slice_get ids k ≡ Some z → (column : ℕ) × (slice_get columns k ≡ Some (pos column))
column_at is_leaf [] columns k z long indexed leaf at = absurd (cc at)
column_at is_leaf (y ∷ ids) [] k z long indexed leaf at = absurd (omega (arith, long))
column_at is_leaf (y ∷ ids) (pos n ∷ columns) zero z long indexed leaf at = (n, refl)
column_at is_leaf (y ∷ ids) (negsuc n ∷ columns) zero z long indexed leaf at =
    let is : is_leaf y ≡ true = ap is_leaf (same_Some y z at) ∙ leaf in
    let none : false ≡ true = ap (λ (b : Bool). not (b && true) && are_indexed is_leaf ids columns) (sym is) ∙ indexed in
    absurd (true≢false (sym none))
column_at is_leaf (y ∷ ids) (c ∷ columns) (suc k) z long indexed leaf at =
    column_at is_leaf ids columns k z (omega (arith, long)) (and_parts (not (is_leaf y && is_negative c)) (are_indexed is_leaf ids columns) indexed).1 leaf at

-- the ids that files list, whatever else is said of them
abbrev ids_of : {S : Type 0} → (S → DataFile) → List S → List ℤ
ids_of file_of files = flat_map (λ s. (file_of s).ids) files

-- the file that lists a number, and what holds of it
file_listing : {S : Type 0} (file_of : S → DataFile) (P : DataFile → Type 0) (files : List S) (z : ℤ) → All (λ (s : S). P (file_of s)) files → is_listed (ids_of file_of files) z ≡ true
    → (file : DataFile) × Contains (map file_of files) file × P file × (is_listed file.ids z ≡ true)
file_listing {S} file_of P [] z each h = absurd (cc h)
file_listing {S} file_of P (s ∷ files) z each h = elim (or_cases (is_listed (file_of s).ids z) (is_listed (ids_of file_of files) z) (sym (listed-append (file_of s).ids (ids_of file_of files) z) ∙ h)) [
  | inl here ↦ (file_of s, (0, omega arith, refl), All-head (λ (s : S). P (file_of s)) s files each, here)
  | inr later ↦
      let (file, (k, within, is), holds, listed) = file_listing file_of P files z (All-tail (λ (s : S). P (file_of s)) s files each) later in
      (file, (suc k, omega (arith, within), is), holds, listed)
]

listed_by : {S : Type 0} (file_of : S → DataFile) (files : List S) (file : DataFile) (z : ℤ) (k : ℕ) → k < length (map file_of files) → slice_index_or (map file_of files) k file ≡ file → is_listed file.ids z ≡ true → is_listed (ids_of file_of files) z ≡ true
listed_by {S} file_of [] file z k within is h = absurd (omega (arith, within))
listed_by {S} file_of (s ∷ files) file z zero within is h = listed_left (file_of s).ids (ids_of file_of files) z (subst (λ (f : DataFile). is_listed f.ids z ≡ true) (sym is) h)
listed_by {S} file_of (s ∷ files) file z (suc k) within is h = listed_right (file_of s).ids (ids_of file_of files) z (listed_by file_of files file z k (omega (arith, within)) is h)

-- ---- a field is given whole or not at all

leaf_given : {S : Type 0} (file_of : S → DataFile) (is_leaf : ℤ → Bool) (files : List S) (leaf : PlainLeaf) → All (λ (s : S). IsTrue (lists_fit is_leaf (file_of s))) files → is_leaf (signed leaf.id) ≡ true → is_listed (ids_of file_of files) (signed leaf.id) ≡ true
    → Given (map file_of files) leaf
leaf_given {S} file_of is_leaf files leaf fit is listed =
    let (file, is_one, fits, here) = file_listing file_of (λ (file : DataFile). IsTrue (lists_fit is_leaf file)) files (signed leaf.id) fit listed in
    let (k, at) = place_of file.ids (signed leaf.id) here in
    let (long, indexed) = and_parts (nat_eq (length file.ids) (length file.columns)) (are_indexed is_leaf file.ids file.columns) fits in
    let (column, column_is) = column_at is_leaf file.ids file.columns k (signed leaf.id) (eqb-true (length file.ids) (length file.columns) long) indexed is at in
    record { file = file; is_one = is_one; column = column; listed = (k, at, column_is) }

leaf_absent : {S : Type 0} (file_of : S → DataFile) (files : List S) (leaf : PlainLeaf) → is_listed (ids_of file_of files) (signed leaf.id) ≡ false → Given (map file_of files) leaf → ⊥
leaf_absent {S} file_of files leaf none at =
    true≢false (sym (listed_by file_of files at.file (signed leaf.id) at.is_one.0 at.is_one.1 at.is_one.2 (listed_at at.file.ids (signed leaf.id) at.listed.0 at.listed.1)) ∙ none)

field_whole : {S : Type 0} (file_of : S → DataFile) (is_leaf : ℤ → Bool) (files : List S) (f : PlainField ℕ) → LeavesAre is_leaf f → All (λ (s : S). IsTrue (lists_fit is_leaf (file_of s))) files
    → (list_all (is_listed (ids_of file_of files)) (leaf_ids f) || not (list_any (is_listed (ids_of file_of files)) (leaf_ids f))) ≡ true → IsWhole (map file_of files) f
field_whole {S} file_of is_leaf files f leaves fit whole =
    let given = is_listed (ids_of file_of files) in
    elim (or_cases (list_all given (leaf_ids f)) (not (list_any given (leaf_ids f))) whole) [
      | inl all ↦
          let each = all_pass given (leaves_of f 0 []) (ap (list_all given) (sym (leaves_listed f 0 [])) ∙ all) in
          inl (λ k d below. leaf_given file_of is_leaf files (get_or (leaves_of f 0 []) k d) fit (leaves k d below) (each k d below))
      | inr none ↦
          let any : list_any given (leaf_ids f) ≡ false = not-true (list_any given (leaf_ids f)) none in
          let each = none_passes given (leaves_of f 0 []) (ap (list_any given) (sym (leaves_listed f 0 [])) ∙ any) in
          inr (λ k d below. leaf_absent file_of files (get_or (leaves_of f 0 []) k d) (each k d below))
    ]

top_whole : {S : Type 0} (file_of : S → DataFile) (is_leaf : ℤ → Bool) (files : List S) (f : PlainField ℕ) → LeavesAre is_leaf f → All (λ (s : S). IsTrue (lists_fit is_leaf (file_of s))) files → IsTrue (is_whole (is_listed (ids_of file_of files)) (top_of f)) → IsWhole (map file_of files) f
top_whole {S} file_of is_leaf files (field id name nullable ty) leaves fit whole = field_whole file_of is_leaf files (field id name nullable ty) leaves fit whole

each_whole : {S : Type 0} (file_of : S → DataFile) (is_leaf : ℤ → Bool) (files : List S) (fields : List (PlainField ℕ)) → All (LeavesAre is_leaf) fields → All (λ (s : S). IsTrue (lists_fit is_leaf (file_of s))) files
    → All (λ top. IsTrue (is_whole (is_listed (ids_of file_of files)) top)) (tops_of (fields_from fields)) → All (IsWhole (map file_of files)) fields
each_whole {S} file_of is_leaf files [] leaves fit whole = All-nil (IsWhole (map file_of files))
each_whole {S} file_of is_leaf files (f ∷ fields) leaves fit whole =
    All-cons (IsWhole (map file_of files)) f fields
    (top_whole file_of is_leaf files f (All-head (LeavesAre is_leaf) f fields leaves) fit (whole 0 (top_of f) (omega arith)))
    (each_whole file_of is_leaf files fields (All-tail (LeavesAre is_leaf) f fields leaves) fit (λ k d below. whole (suc k) d (omega (arith, below))))

-- what is asked of a manifest's fields and fragments where its rows are read
pub manifest_whole : (object : Placed) (version : ℕ) (m : PlainManifest) → IsManifestObject object version m → AreWhole m.fields m.fragments
unfolding KeepEach
manifest_whole object version m is =
    let said = is.stands.whole.fragments in
    let keep = is.stands.keeps.each in
    subst (AreWhole m.fields) (sym is.stands.fragments)
    (All-map (λ (f : Fragment). All (IsWhole f.files) m.fields) fragment_of said
    (λ k d below. each_whole (λ s. s.file) (is_listed (all_leaf_ids (fields_from m.fields))) (get_or said k d).files m.fields (fields_leaves m.fields) (keep.1.1.1.0 k d below) (keep.1.1.1.1.1.1.1.0 k d below)))

pub manifest_fields : (object : Placed) (version : ℕ) (m : PlainManifest) → IsManifestObject object version m → AreFields (fields_from m.fields)
manifest_fields object version m is = (read_fields is.message 1 (fields_from m.fields) is.stands.fields).table.each

-- ---- where none of a field's leaves is given

leaf_there : {S : Type 0} (file_of : S → DataFile) (is_leaf : ℤ → Bool) (files : List S) (leaves : List PlainLeaf) → All (λ (leaf : PlainLeaf). is_leaf (signed leaf.id) ≡ true) leaves → All (λ (s : S). IsTrue (lists_fit is_leaf (file_of s))) files
    → All (λ (leaf : PlainLeaf). Given (map file_of files) leaf → ⊥) leaves → list_any (is_listed (ids_of file_of files)) (map (λ (l : PlainLeaf). signed l.id) leaves) ≡ true → ⊥
leaf_there {S} file_of is_leaf files [] are fit none any = absurd (cc any)
leaf_there {S} file_of is_leaf files (l ∷ leaves) are fit none any =
    let given = is_listed (ids_of file_of files) in
    let Absent : PlainLeaf → Type 0 = λ leaf. Given (map file_of files) leaf → ⊥ in
    let IsLeaf : PlainLeaf → Type 0 = λ leaf. is_leaf (signed leaf.id) ≡ true in
    elim (or_cases (given (signed l.id)) (list_any given (map (λ (l : PlainLeaf). signed l.id) leaves)) any) [
      | inl here ↦ All-head Absent l leaves none (leaf_given file_of is_leaf files l fit (All-head IsLeaf l leaves are) here)
      | inr later ↦ leaf_there file_of is_leaf files leaves (All-tail IsLeaf l leaves are) fit (All-tail Absent l leaves none) later
    ]

absent_null : {S : Type 0} (file_of : S → DataFile) (is_leaf : ℤ → Bool) (files : List S) (f : PlainField ℕ) → LeavesAre is_leaf f → All (λ (s : S). IsTrue (lists_fit is_leaf (file_of s))) files → IsTrue (may_lack (is_listed (ids_of file_of files)) (top_of f))
    → NoneGiven (map file_of files) f → Fits f null
absent_null {S} file_of is_leaf files (field id name nullable ty) leaves fit may none =
    let f : PlainField ℕ = field id name nullable ty in
    elim (or_cases nullable (list_any (is_listed (ids_of file_of files)) (leaf_ids f)) may) [
      | inl is ↦ is
      | inr any ↦ absurd (leaf_there file_of is_leaf files (leaves_of f 0 []) leaves fit none (ap (list_any (is_listed (ids_of file_of files))) (sym (leaves_listed f 0 [])) ∙ any))
    ]

abbrev MayBeAbsent : List DataFile → ℕ → PlainField ℕ → Type 0
MayBeAbsent files count f = NoneGiven files f → (count ≡ 0) ⊎ Fits f null

each_absent : {S : Type 0} (file_of : S → DataFile) (is_leaf : ℤ → Bool) (files : List S) (count : ℕ) (fields : List (PlainField ℕ)) → All (LeavesAre is_leaf) fields → All (λ (s : S). IsTrue (lists_fit is_leaf (file_of s))) files
    → (count ≡ 0) ⊎ All (λ top. IsTrue (may_lack (is_listed (ids_of file_of files)) top)) (tops_of (fields_from fields)) → All (MayBeAbsent (map file_of files) count) fields
each_absent {S} file_of is_leaf files count [] leaves fit may = All-nil (MayBeAbsent (map file_of files) count)
each_absent {S} file_of is_leaf files count (f ∷ fields) leaves fit (inl empty) = λ k d below none. inl empty
each_absent {S} file_of is_leaf files count (f ∷ fields) leaves fit (inr may) =
    All-cons (MayBeAbsent (map file_of files) count) f fields
    (λ none. inr (absent_null file_of is_leaf files f (All-head (LeavesAre is_leaf) f fields leaves) fit (may 0 (top_of f) (omega arith)) none))
    (each_absent file_of is_leaf files count fields (All-tail (LeavesAre is_leaf) f fields leaves) fit (inr (λ k d below. may (suc k) d (omega (arith, below)))))

-- ---- what can be read

all_parts : {X : Type 0} (P : X → Type 0) (xs ys : List X) → All P (xs ++ ys) → All P xs × All P ys
all_parts P [] ys all = (All-nil P, all)
all_parts P (x ∷ xs) ys all =
    let (left, right) = all_parts P xs ys (All-tail P x (xs ++ ys) all) in
    (All-cons P x xs (All-head P x (xs ++ ys) all) left, right)

each_readable : (files : List DataFile) (count : ℕ) (fields : List (PlainField ℕ)) → AreFields (fields_from fields) → AreNarrow (fields_from fields) → All (λ depth. depth ≤ 16) (all_depths (fields_from fields) 0) → All (IsWhole files) fields → All (MayBeAbsent files count) fields
    → All (IsReadable files count) fields
each_readable files count [] are narrow layers whole absent = All-nil (IsReadable files count)
each_readable files count (f ∷ fields) are narrow layers whole absent =
    let (mine, others) = all_parts (λ depth. depth ≤ 16) (depths_of f 0) (all_depths (fields_from fields) 0) layers in
    All-cons (IsReadable files count) f fields
    (record { field = are.0; narrow = narrow.0; layers = mine; whole = All-head (IsWhole files) f fields whole; absent = All-head (MayBeAbsent files count) f fields absent })
    (each_readable files count fields are.1 narrow.1 others (All-tail (IsWhole files) f fields whole) (All-tail (MayBeAbsent files count) f fields absent))

-- where no `Some` fits
none_fits : {D E : Type 0} (fits : Option D → Bool) (of : D → E) (o : Option D) → ((d : D) → fits (Some d) ≡ false) → fits o ≡ true → option_map of o ≡ None
none_fits fits of None never is = refl
none_fits fits of (Some d) never is = absurd (true≢false (sym is ∙ never d))

pub manifest_columns : (object : Placed) (version : ℕ) (m : PlainManifest) → IsManifestObject object version m → AreColumns (map unnumbered m.fields)
manifest_columns object version m is = (columns_same m.fields).1 (read_fields is.message 1 (fields_from m.fields) is.stands.fields).table

pub manifest_undeleted : (object : Placed) (version : ℕ) (m : PlainManifest) → IsManifestObject object version m → All (λ (f : Fragment). f.deletion ≡ None) m.fragments
unfolding KeepEach
manifest_undeleted object version m is =
    let said = is.stands.whole.fragments in
    let keep = is.stands.keeps.each in
    subst (All (λ (f : Fragment). f.deletion ≡ None)) (sym is.stands.fragments)
    (All-map (λ (f : Fragment). f.deletion ≡ None) fragment_of said (λ k d below. none_fits type_fits (λ e. e.deletion) (get_or said k d).deletion (λ e. refl) (keep.1.1.1.1.1.0 k d below)))

-- the fields of a manifest can be read in each of its fragments
pub manifest_readable : (object : Placed) (version : ℕ) (m : PlainManifest) → IsManifestObject object version m → All (λ (f : Fragment). All (IsReadable f.files f.rows) m.fields) m.fragments
unfolding KeepEach
manifest_readable object version m is =
    let said = is.stands.whole.fragments in
    let keep = is.stands.keeps.each in
    let table = (read_fields is.message 1 (fields_from m.fields) is.stands.fields).table in
    let narrow = (few_columns m.fields (manifest_columns object version m is)).1 in
    let Whole : Fragment → Type 0 = λ f. All (IsWhole f.files) m.fields in
    let whole : All Whole (map fragment_of said) = subst (All Whole) is.stands.fragments (manifest_whole object version m is) in
    let Absent : Fragment → Type 0 = λ f. All (MayBeAbsent f.files f.rows) m.fields in
    let absent : All Absent (map fragment_of said) =
    All-map Absent fragment_of said
    (λ k d below. each_absent (λ s. s.file) (is_listed (all_leaf_ids (fields_from m.fields))) (get_or said k d).files (get_or said k d).rows m.fields (fields_leaves m.fields) (keep.1.1.1.0 k d below) (keep.1.1.1.1.1.1.1.1.0 k d below))
    in
    subst (All (λ (f : Fragment). All (IsReadable f.files f.rows) m.fields)) (sym is.stands.fragments)
    (λ k d below. each_readable _ _ m.fields table.each narrow table.layers (whole k d below) (absent k d below))

-- ---- the fields that are asked

with_field : {I : Type 0} (P : PlainField I → Type 0) (o : Option (PlainField I)) (fields : List (PlainField I)) → ((f : PlainField I) → o ≡ Some f → P f) → All P fields → All P (and_field o fields)
with_field P None fields here later = later
with_field P (Some f) fields here later = All-cons P f fields (here f refl) later

-- what holds of each field holds of those at places
pub each_at : {I : Type 0} (P : PlainField I → Type 0) (fields : List (PlainField I)) (places : List ℕ) → All P fields → All P (fields_at fields places)
each_at P fields [] each = All-nil P
each_at P fields (place ∷ places) each =
    with_field P (slice_get fields place) (fields_at fields places) (λ f at. All-contains P fields f each (place, slice_get_within fields place f at, get_or_from_slice_get fields place f f at)) (each_at P fields places each)

pub readable_at : (files : List DataFile) (count : ℕ) (fields : List (PlainField ℕ)) (places : List ℕ) → All (IsReadable files count) fields → All (IsReadable files count) (fields_at fields places)
readable_at files count fields places = each_at (IsReadable files count) fields places

-- the columns at places are those of the fields there
columns_with : (o : Option (PlainField ℕ)) (fields : List (PlainField ℕ)) → and_field (option_map (unnumbered {I = ℕ}) o) (map unnumbered fields) ≡ map unnumbered (and_field o fields)
columns_with None fields = refl
columns_with (Some f) fields = refl

pub columns_at : (fields : List (PlainField ℕ)) (places : List ℕ) → fields_at (map unnumbered fields) places ≡ map unnumbered (fields_at fields places)
columns_at fields [] = refl
columns_at fields (place ∷ places) =
    ap₂ and_field (slice_get-map unnumbered fields place) (columns_at fields places) ∙ columns_with (slice_get fields place) (fields_at fields places)
