-- What each change does to the rows of a fragment, and of all fragments.
use Rattle.std.proofs.Common.{◌≡◌, inl, inr, sym, ◌∙◌, ap, refl, ℕ, zero, suc, ◌<◌, List, [], ◌∷◌, ◌++◌, length, map, arith, subst, append_assoc}
use Rattle.std.specs.Prelude.{All, Contains, Some, slice_get, remove}
use Rattle.std.proofs.lemmas.List.{map-append, append-nil, length-map}
use Rattle.std.proofs.lemmas.Option.{slice_get_within}
use Rattle.std.proofs.lemmas.List.Elements.{All-append, All-cons, All-nil, All-head, All-tail, Contains-append_left, Contains-append_right, Contains-append_cases}
use Rattle.lan_model.specs.Plain.{PlainField, PlainValue, null, values_from, fields_from}
use Rattle.lan_model.specs.Fits.{Fits, AllFit}
use Rattle.lan_model.specs.Leaves.{PlainLeaf}
use Rattle.lan_model.specs.Table.{FitsRow, IsField, AreFields}
use Rattle.lan_model.specs.After.{without, each_with}
use Rattle.lan_levels.proofs.EachPath.{EachPath-some}
use Rattle.lan_levels.proofs.Leaves.{each_path}
use Rattle.lan_store.specs.declared.name.Object.{Object}
use Rattle.lan_manifest.specs.declared.manifest.Fragment.{Fragment}
use Rattle.lan_manifest.specs.declared.manifest.DataFile.{DataFile}
use Rattle.lan_read.specs.Changes.{AddsFile, AddToEach, FileHolds, GivesNone, new_fragment, with_file}
use Rattle.lan_read.specs.Given.{AllGiven, Given, GivenIn, NoneGiven}
use Rattle.lan_read.specs.Rows.{HoldsColumn, IsDataFile, IsHeld, values_at, FilesGive, PhysicalRows, FragmentGives, FragmentsGive, data_name}
use Rattle.lan_read.proofs.RowLists.{Row, field_is, nulls_for, nulls_for-long, nulls_for-null, nulls_fit, each_with-nulls, each_with-long, each_with-append, rows_fit_more, rows_fit_less, last_or_before, column_before, column_last, before_removed, slice_get-removed, column_removed, without-map, without-each, without-none}

-- a field has a leaf
pub not_both : (files : List DataFile) (f : PlainField ℕ) → IsField f → AllGiven files f → NoneGiven files f → ⊥
not_both files f is given none = EachPath-some f is (each_path f 0 [] (λ ty path. ⊥) (λ k d below. none k d below (given k d below)))

All-at : {X : Type 0} (P : X → Type 0) (xs : List X) (i : ℕ) (x : X) → All P xs → slice_get xs i ≡ Some x → P x
All-at P [] i x each at = absurd (cc at)
All-at P (y ∷ xs) zero x each at =
    let same : y ≡ x = cc in
    subst P same (All-head P y xs each)
All-at P (y ∷ xs) (suc i) x each at = All-at P xs i x (All-tail P y xs each) at

-- the rows of two lists of fragments
pub rows_append : (objects : List Object) (fields : List (PlainField ℕ)) (fs gs : List Fragment) (xs ys : List Row) → FragmentsGive objects fields fs xs → FragmentsGive objects fields gs ys → FragmentsGive objects fields (fs ++ gs) (xs ++ ys)
rows_append objects fields [] gs xs ys a b = subst (λ (l : List Row). FragmentsGive objects fields gs (l ++ ys)) (sym a) b
rows_append objects fields (f ∷ fs) gs xs ys (mine, later, first, rest, a) b =
    (mine, later ++ ys, first, rows_append objects fields fs gs later ys rest b, ap (λ (l : List Row). l ++ ys) a ∙ append_assoc mine later ys)

-- Append.

pub only_one : (file other : DataFile) → Contains (file ∷ []) other → file ≡ other
only_one file other (zero, below, is) = is
only_one file other (suc k, below, is) = absurd (omega (arith, below))

pub one_gives : (objects : List Object) (file : DataFile) (leaf : PlainLeaf) (values : List PlainValue)
    → ((column : ℕ) → GivenIn file leaf.id column → IsHeld objects (data_name file.path) (λ bytes. HoldsColumn bytes column leaf values))
    → (other : DataFile) → file ≡ other → (column : ℕ) → GivenIn other leaf.id column → IsHeld objects (data_name other.path) (λ bytes. HoldsColumn bytes column leaf values)
one_gives objects file leaf values gives other same =
    let P : DataFile → Type 0 = λ x. (column : ℕ) → GivenIn x leaf.id column → IsHeld objects (data_name x.path) (λ bytes. HoldsColumn bytes column leaf values) in
    subst P same gives

-- a new fragment of one file that gives all leaves
pub fragment_new : (objects : List Object) (fields : List (PlainField ℕ)) (id : ℕ) (file : DataFile) (rows : List Row) → AreFields (fields_from fields) → All (FitsRow fields) rows → All (AllGiven (file ∷ [])) fields → FileHolds objects fields file rows
    → FragmentGives objects fields (new_fragment id file (length rows)) rows
fragment_new objects fields id file rows are fit given holds = record {
  physical = rows;
  deleted = [];
  rows = record {
    long = refl;
    fit = fit;
    held = All-cons (λ file. IsHeld objects (data_name file.path) (λ bytes. IsDataFile bytes (length rows))) file [] holds.is_file (All-nil _);
    columns = λ top f at. record {
      given = λ k d below given_at. one_gives objects file _ (values_at top rows) (holds.columns top f at k d below) given_at.file (only_one file given_at.file given_at.is_one) given_at.column given_at.listed;
      absent = λ none. absurd (not_both (file ∷ []) f (field_is fields top f are at) (All-at (AllGiven (file ∷ [])) fields top f given at) none);
    };
  };
  deletions = refl;
  left = sym (without-none 0 rows);
}

pub append_rows : (objects : List Object) (fields : List (PlainField ℕ)) (fs : List Fragment) (f : Fragment) (xs ys : List Row) → FragmentsGive objects fields fs xs → FragmentGives objects fields f ys → FragmentsGive objects fields (fs ++ f ∷ []) (xs ++ ys)
append_rows objects fields fs f xs ys old new = rows_append objects fields fs (f ∷ []) xs ys old (ys, [], new, refl, sym (append-nil ys))

-- A field more.

-- a field more, where the files give these values of it
pub physical_more : (objects : List Object) (fields : List (PlainField ℕ)) (files : List DataFile) (count : ℕ) (rows : List Row) (f : PlainField ℕ) (vs : List PlainValue)
    → length rows ≡ length vs → AllFit f (values_from vs) → FilesGive objects files f vs → PhysicalRows objects fields files count rows → PhysicalRows objects (fields ++ f ∷ []) files count (each_with rows vs)
physical_more objects fields files count rows f vs long vs_fit gives is = record {
  long = each_with-long rows vs long ∙ is.long;
  fit = rows_fit_more fields f rows vs long is.fit vs_fit;
  held = is.held;
  columns = λ top g at. elim (last_or_before fields f top g at) [
    | inl before ↦
        let same = column_before fields rows vs top (slice_get_within fields top g before) long is.fit in
        subst (FilesGive objects files g) (sym same) (is.columns top g before)
    | inr (last, field_is) ↦
        let P : PlainField ℕ → Type 0 = λ h. FilesGive objects files h (values_at top (each_with rows vs)) in
        let same : values_at top (each_with rows vs) ≡ vs = ap (λ (n : ℕ). values_at n (each_with rows vs)) last ∙ column_last fields rows vs long is.fit in
        subst P field_is (subst (FilesGive objects files f) (sym same) gives)
  ];
}

none_give : (objects : List Object) (files : List DataFile) (f : PlainField ℕ) (vs : List PlainValue) → NoneGiven files f → All (λ v. v ≡ null) vs → FilesGive objects files f vs
none_give objects files f vs none nulls = record { given = λ k d below at. absurd (none k d below at); absent = λ unused. nulls }

abbrev pub with_null : Row → Row
with_null row = row ++ null ∷ []

-- Add a field that no file gives.
pub fragment_null : (objects : List Object) (fields : List (PlainField ℕ)) (f : Fragment) (g : PlainField ℕ) (kept : List Row) → NoneGiven f.files g → Fits g null → FragmentGives objects fields f kept → FragmentGives objects (fields ++ g ∷ []) f (map with_null kept)
fragment_null objects fields f g kept none nullable is = record {
  physical = map with_null is.physical;
  deleted = is.deleted;
  rows = subst (PhysicalRows objects (fields ++ g ∷ []) f.files f.rows) (each_with-nulls is.physical)
      (physical_more objects fields f.files f.rows is.physical g (nulls_for is.physical) (nulls_for-long is.physical) (nulls_fit g is.physical nullable)
      (none_give objects f.files g (nulls_for is.physical) none (nulls_for-null is.physical)) is.rows);
  deletions = is.deletions;
  left = ap (map with_null) is.left ∙ sym (without-map with_null is.deleted 0 is.physical);
}

-- something that is done to each row of each fragment is done to each row
pub rows_map : (objects : List Object) (fields others : List (PlainField ℕ)) (g : Row → Row) (fs : List Fragment) (rows : List Row) → All (λ f. (kept : List Row) → FragmentGives objects fields f kept → FragmentGives objects others f (map g kept)) fs
    → FragmentsGive objects fields fs rows → FragmentsGive objects others fs (map g rows)
rows_map objects fields others g [] rows each is = ap (map g) is
rows_map objects fields others g (f ∷ fs) rows each (mine, later, first, rest, is) =
    let Each : Fragment → Type 0 = λ f. (kept : List Row) → FragmentGives objects fields f kept → FragmentGives objects others f (map g kept) in (
      map g mine,
      map g later,
      (All-head Each f fs each) mine first,
      rows_map objects fields others g fs later (All-tail Each f fs each) rest,
      ap (map g) is ∙ map-append g mine later,
    )

pub add_null_rows : (objects : List Object) (fields : List (PlainField ℕ)) (fs : List Fragment) (g : PlainField ℕ) (rows : List Row) → All (λ (f : Fragment). NoneGiven f.files g) fs → Fits g null → FragmentsGive objects fields fs rows
    → FragmentsGive objects (fields ++ g ∷ []) fs (map with_null rows)
add_null_rows objects fields fs g rows none nullable is =
    rows_map objects fields (fields ++ g ∷ []) with_null fs rows (λ k d below kept. fragment_null objects fields _ g kept (none k d below) nullable) is

-- A field less.
pub physical_less : (objects : List Object) (fields : List (PlainField ℕ)) (files : List DataFile) (count : ℕ) (rows : List Row) (p : ℕ) → p < length fields → PhysicalRows objects fields files count rows
    → PhysicalRows objects (remove fields p) files count (map (λ (row : Row). remove row p) rows)
physical_less objects fields files count rows p below is = record {
  long = length-map rows (λ (row : Row). remove row p) ∙ is.long;
  fit = rows_fit_less fields rows p below is.fit;
  held = is.held;
  columns = λ top g at.
      subst (FilesGive objects files g) (sym (column_removed fields rows p top below is.fit)) (is.columns (before_removed p top) g (sym (slice_get-removed fields p top below) ∙ at));
}

pub fragment_less : (objects : List Object) (fields : List (PlainField ℕ)) (f : Fragment) (p : ℕ) (kept : List Row) → p < length fields → FragmentGives objects fields f kept → FragmentGives objects (remove fields p) f (map (λ (row : Row). remove row p) kept)
fragment_less objects fields f p kept below is = record {
  physical = map (λ (row : Row). remove row p) is.physical;
  deleted = is.deleted;
  rows = physical_less objects fields f.files f.rows is.physical p below is.rows;
  deletions = is.deletions;
  left = ap (map (λ (row : Row). remove row p)) is.left ∙ sym (without-map (λ (row : Row). remove row p) is.deleted 0 is.physical);
}

pub drop_column_rows : (objects : List Object) (fields : List (PlainField ℕ)) (fs : List Fragment) (p : ℕ) (rows : List Row) → p < length fields → FragmentsGive objects fields fs rows → FragmentsGive objects (remove fields p) fs (map (λ (row : Row). remove row p) rows)
drop_column_rows objects fields fs p rows below is =
    rows_map objects fields (remove fields p) (λ (row : Row). remove row p) fs rows (λ k d within kept. fragment_less objects fields _ p kept below) is

-- Add a column.

given_before : (files : List DataFile) (file : DataFile) (leaf : PlainLeaf) → ((column : ℕ) → GivenIn file leaf.id column → ⊥) → (at : Given (files ++ file ∷ []) leaf) → Contains files at.file
given_before files file leaf never at = elim (Contains-append_cases files (file ∷ []) at.file at.is_one) [
  | inl before ↦ before
  | inr last ↦
      let P : DataFile → Type 0 = λ x. (column : ℕ) → GivenIn x leaf.id column → ⊥ in
      absurd (subst P (only_one file at.file last) never at.column at.listed)
]

none_before : (files : List DataFile) (file : DataFile) (f : PlainField ℕ) → NoneGiven (files ++ file ∷ []) f → NoneGiven files f
none_before files file f none k d below at = none k d below (record { file = at.file; is_one = Contains-append_left files (file ∷ []) at.file at.is_one; column = at.column; listed = at.listed })

gives_with : (objects : List Object) (files : List DataFile) (file : DataFile) (f : PlainField ℕ) (vs : List PlainValue) → GivesNone file f → FilesGive objects files f vs → FilesGive objects (files ++ file ∷ []) f vs
gives_with objects files file f vs never gives = record {
  given = λ k d below at. gives.given k d below (record { file = at.file; is_one = given_before files file _ (never k d below) at; column = at.column; listed = at.listed });
  absent = λ none. gives.absent (none_before files file f none);
}

-- a file more that gives none of the fields
pub physical_with : (objects : List Object) (fields : List (PlainField ℕ)) (files : List DataFile) (file : DataFile) (count : ℕ) (rows : List Row) → ((top : ℕ) (f : PlainField ℕ) → slice_get fields top ≡ Some f → GivesNone file f)
    → IsHeld objects (data_name file.path) (λ bytes. IsDataFile bytes count) → PhysicalRows objects fields files count rows → PhysicalRows objects fields (files ++ file ∷ []) count rows
physical_with objects fields files file count rows never held is = record {
  long = is.long;
  fit = is.fit;
  held = All-append (λ file. IsHeld objects (data_name file.path) (λ bytes. IsDataFile bytes count)) files (file ∷ []) is.held (All-cons (λ file. IsHeld objects (data_name file.path) (λ bytes. IsDataFile bytes count)) file [] held (All-nil _));
  columns = λ top f at. gives_with objects files file f (values_at top rows) (never top f at) (is.columns top f at);
}

last_file : (files : List DataFile) (file : DataFile) (leaf : PlainLeaf) → (Given files leaf → ⊥) → (at : Given (files ++ file ∷ []) leaf) → file ≡ at.file
last_file files file leaf never at = elim (Contains-append_cases files (file ∷ []) at.file at.is_one) [
  | inl before ↦ absurd (never (record { file = at.file; is_one = before; column = at.column; listed = at.listed }))
  | inr last ↦ only_one file at.file last
]

not_none : (files : List DataFile) (file : DataFile) (g : PlainField ℕ) → AllGiven (file ∷ []) g → NoneGiven (files ++ file ∷ []) g → NoneGiven (file ∷ []) g
not_none files file g given none k d below at =
    none k d below (record { file = at.file; is_one = Contains-append_right files (file ∷ []) at.file at.is_one; column = at.column; listed = at.listed })

pub fragment_more : (objects : List Object) (fields : List (PlainField ℕ)) (f : Fragment) (g : PlainField ℕ) (file : DataFile) (values : List PlainValue) (kept : List Row) → IsField g → AddsFile objects fields f g file values
    → (is : FragmentGives objects fields f kept) → FragmentGives objects (fields ++ g ∷ []) (with_file f file) (each_with kept (without is.deleted 0 values))
fragment_more objects fields f g file values kept is_field adds is =
    let long : length is.physical ≡ length values = is.rows.long ∙ sym adds.long in
    let gives : FilesGive objects (f.files ++ file ∷ []) g values = record {
      given = λ k d below at. one_gives objects file _ values (adds.given k d below) at.file (last_file f.files file _ (adds.is_new k d below) at) at.column at.listed;
      absent = λ none. absurd (not_both (file ∷ []) g is_field adds.all_given (not_none f.files file g adds.all_given none));
    } in
    record {
      physical = each_with is.physical values;
      deleted = is.deleted;
      rows = physical_more objects fields (f.files ++ file ∷ []) f.rows is.physical g values long adds.fit gives (physical_with objects fields f.files file f.rows is.physical adds.only_new adds.is_file is.rows);
      deletions = is.deletions;
      left = ap (λ (l : List Row). each_with l (without is.deleted 0 values)) is.left ∙ sym (without-each is.deleted 0 is.physical values long);
    }

-- a fragment of no rows needs no file
pub fragment_empty : (objects : List Object) (fields : List (PlainField ℕ)) (f : Fragment) (g : PlainField ℕ) (kept : List Row) → f.rows ≡ 0 → NoneGiven f.files g → FragmentGives objects fields f kept → (kept ≡ []) × FragmentGives objects (fields ++ g ∷ []) f []
fragment_empty objects fields f g kept none_rows none is =
    let empty : is.physical ≡ [] = no_rows is.physical (is.rows.long ∙ none_rows) in
    let rows : PhysicalRows objects fields f.files f.rows [] = subst (PhysicalRows objects fields f.files f.rows) empty is.rows in (
      is.left ∙ ap (without is.deleted 0) empty,
      record {
        physical = [];
        deleted = is.deleted;
        rows = physical_more objects fields f.files f.rows [] g [] refl tt (none_give objects f.files g [] none (All-nil (λ v. v ≡ null))) rows;
        deletions = is.deletions;
        left = refl;
      },
    )
  where
    no_rows : (rows : List Row) → length rows ≡ 0 → rows ≡ []
    no_rows [] long = refl
    no_rows (row ∷ rows) long = absurd (omega (arith, long))

pub add_column_rows : (objects : List Object) (fields : List (PlainField ℕ)) (g : PlainField ℕ) (olds news : List Fragment) (values : List PlainValue) (rows : List Row) → AddToEach objects fields g olds news values
    → FragmentsGive objects fields olds rows → FragmentsGive objects (fields ++ g ∷ []) news (each_with rows values)
add_column_rows objects fields g [] [] values rows adds is = ap (λ (l : List Row). each_with l values) is
add_column_rows objects fields g [] (new ∷ news) values rows adds is = absurd adds
add_column_rows objects fields g (old ∷ olds) [] values rows adds is = absurd adds
add_column_rows objects fields g (old ∷ olds) (new ∷ news) values rows (mine, later, first, rest, all) (my_rows, later_rows, here, behind, is) =
    let (long, now) = first my_rows here in (
      each_with my_rows mine,
      each_with later_rows later,
      now,
      add_column_rows objects fields g olds news later later_rows rest behind,
      ap (λ (l : List Row). each_with l values) is ∙ ap (each_with (my_rows ++ later_rows)) all ∙ each_with-append my_rows later_rows mine later long,
    )
