-- A fragment has rows exactly where its columns have so many rows and each row's slots are joined.
use Rattle.std.proofs.Common.{◌≡◌, inl, inr, sym, ◌∙◌, ap, refl, ℕ, zero, suc, ◌<◌, List, [], ◌∷◌, ◌++◌, length, get_or, map, arith, subst}
use Rattle.std.specs.Prelude.{All, Some, slice_get, ◌⊎◌}
use Rattle.std.proofs.lemmas.List.{get_or-map, ext_get_or, length-map, get_or_default}
use Rattle.std.proofs.lemmas.List.Elements.{All-cons, All-nil, All-head, All-tail}
use Rattle.std.proofs.lemmas.Option.{same_Some}
use Rattle.lan_model.specs.Plain.{PlainField, PlainValue, null, fields_from, unnumbered}
use Rattle.lan_model.specs.Leaves.{PlainLeaf, leaves_of}
use Rattle.lan_model.specs.Table.{Table, FitsRow, AreFields}
use Rattle.lan_model.specs.After.{without}
use Rattle.lan_levels.specs.PlainSlots.{PlainSlot}
use Rattle.lan_levels.specs.SlotsOf.{leaf_slots}
use Rattle.lan_levels.proofs.Leaves.{slots_determine}
use Rattle.lan_store.specs.declared.name.Object.{Object}
use Rattle.lan_manifest.specs.Manifests.{PlainManifest}
use Rattle.lan_manifest.specs.declared.manifest.Fragment.{Fragment}
use Rattle.lan_manifest.specs.declared.manifest.DataFile.{DataFile}
use Rattle.lan_file.proofs.LawTerms.{one_file}
use Rattle.lan_read.specs.Cut.{AreCut, Cut, cut_at, slots_of_row}
use Rattle.lan_read.specs.Given.{AllGiven, IsWhole, NoneGiven}
use Rattle.lan_read.specs.Joined.{ColumnsHaveRows, FieldJoins, FilesJoin, FragmentJoins, HasSlots, RowJoins, ValueJoins}
use Rattle.lan_read.specs.Rows.{column_slots, FragmentGives, FragmentsGive, HoldsColumn, IsDataFile, IsHeld, PhysicalRows, values_at, data_name}
use Rattle.lan_read.specs.Tables.{HasManifest, StandsFor}
use Rattle.lan_read.proofs.CutColumns.{columns_cut, cut_column, row_slots_of}
use Rattle.lan_read.proofs.RowLists.{column_fits, column_long, field_at, field_is, fits_at, Row, row_long}
use Rattle.lan_read.proofs.SingleTable.{one_manifest_held, only_item, whole_at}

-- a column of values by its slots, and back
as_values : (bytes : List ℕ) (column count : ℕ) (leaf : PlainLeaf) (values : List PlainValue) → length values ≡ count → HasSlots bytes count column leaf (column_slots leaf values) → HoldsColumn bytes column leaf values
as_values bytes column count leaf values long has = subst (λ (n : ℕ). HasSlots bytes n column leaf (column_slots leaf values)) (sym long) has

pub as_slots : (bytes : List ℕ) (column count : ℕ) (leaf : PlainLeaf) (values : List PlainValue) → length values ≡ count → HoldsColumn bytes column leaf values → HasSlots bytes count column leaf (column_slots leaf values)
as_slots bytes column count leaf values long holds = subst (λ (n : ℕ). HasSlots bytes n column leaf (column_slots leaf values)) long holds

one_slots : (bytes : List ℕ) (column count : ℕ) (leaf : PlainLeaf) (xs ys : List PlainSlot) → HasSlots bytes count column leaf xs → HasSlots bytes count column leaf ys → xs ≡ ys
one_slots bytes column count leaf xs ys a b = only_item (one_file (record { column = column; leaf = leaf } ∷ []) bytes count count (xs ∷ []) (ys ∷ []) a b).1

-- one thing for each place, in a list
pub collected : {X : Type 0} (P : ℕ → X → Type 0) (d : X) (n : ℕ) → ((j : ℕ) → j < n → (x : X) × P j x) → (xs : List X) × (length xs ≡ n) × ((j : ℕ) → j < n → P j (get_or xs j d))
collected P d zero each = ([], refl, λ j below. absurd (omega (arith, below)))
collected {X} P d (suc n) each =
    let (x, here) = each 0 (omega arith) in
    let (xs, long, behind) = collected (λ j. P (suc j)) d n (λ j below. each (suc j) (omega (arith, below))) in
    (x ∷ xs, ap suc long, cases x xs here behind)
  where
    cases : (x : X) (xs : List X) → P 0 x → ((j : ℕ) → j < n → P (suc j) (get_or xs j d)) → (j : ℕ) → j < suc n → P j (get_or (x ∷ xs) j d)
    cases x xs here behind zero below = here
    cases x xs here behind (suc j) below = behind j (omega (arith, below))

-- a value of a column is one of a row
pub value_of_row : (rows : List Row) (top j : ℕ) (d : PlainValue) → j < length rows → get_or (values_at top rows) j d ≡ get_or (get_or rows j []) top null
value_of_row rows top j d below = get_or-map (λ (row : Row). get_or row top null) rows j [] d below

slots_of_rows : (leaf : PlainLeaf) (rows : List Row) (top j : ℕ) → j < length rows → get_or (row_slots_of leaf (values_at top rows)) j [] ≡ leaf_slots leaf (get_or (get_or rows j []) top null)
slots_of_rows leaf rows top j below =
    get_or-map (leaf_slots leaf) (values_at top rows) j null [] (omega (arith, below, column_long top rows)) ∙ ap (leaf_slots leaf) (value_of_row rows top j null below)

-- the slots that are joined into the rows' values are theirs
joined_column : (leaf : PlainLeaf) (slots : List PlainSlot) (rows : List Row) (top count : ℕ) → length rows ≡ count → AreCut leaf count slots
    → ((j : ℕ) → j < count → slots_of_row leaf j slots ≡ leaf_slots leaf (get_or (get_or rows j []) top null)) → slots ≡ column_slots leaf (values_at top rows)
joined_column leaf slots rows top count long are joins =
    let as_many : length (cut_at leaf slots).rows ≡ length (row_slots_of leaf (values_at top rows)) =
    are.count_is ∙ sym long ∙ sym (column_long top rows) ∙ sym (length-map (values_at top rows) (leaf_slots leaf))
    in
    let count_is : length (cut_at leaf slots).rows ≡ count = are.count_is in
    cut_column leaf slots (values_at top rows) are.begins
    (ext_get_or [] (cut_at leaf slots).rows (row_slots_of leaf (values_at top rows)) as_many (λ j below.
    joins j (omega (arith, below, count_is)) ∙ sym (slots_of_rows leaf rows top j (omega (arith, below, count_is, long)))))

-- where the columns have so many rows and each is joined, these are the rows
pub joined_rows : (objects : List Object) (fields : List (PlainField ℕ)) (files : List DataFile) (count : ℕ) (rows : List Row)
    → All (λ file. IsHeld objects (data_name file.path) (λ bytes. IsDataFile bytes count)) files → ((top : ℕ) (f : PlainField ℕ) → slice_get fields top ≡ Some f → ColumnsHaveRows objects files count f)
    → length rows ≡ count → ((j : ℕ) → j < count → RowJoins objects fields files count j (get_or rows j [])) → PhysicalRows objects fields files count rows
joined_rows objects fields files count rows held columns long joins = record {
  long = long;
  fit = λ j d below.
      let here : j < count = omega (arith, below, long) in
      subst (FitsRow fields) (get_or_default rows j [] d below) (joins j here).fits;
  held = held;
  columns = λ top f at. record {
    given = λ k d below given_at.
        let column = columns top f at k d below given_at in
        let slots = joined_column (get_or (leaves_of f 0 []) k d) column.says.slots rows top count long column.says.cut
        (λ j within. (joins j within).joins top f at k d below given_at column.bytes column.says.slots column.held column.says.has) in
        record { bytes = column.bytes; held = column.held; size = column.size; says = as_values column.bytes given_at.column count (get_or (leaves_of f 0 []) k d) (values_at top rows) (column_long top rows ∙ long) (subst (HasSlots column.bytes count given_at.column (get_or (leaves_of f 0 []) k d)) slots column.says.has) };
    absent = λ none j d below.
        let within : j < length rows = omega (arith, below, column_long top rows) in
        value_of_row rows top j d within ∙ (joins j (omega (arith, within, long))).absent top f at none;
  };
}

pub files_join : (objects : List Object) (fields : List (PlainField ℕ)) (files : List DataFile) (count : ℕ) → FilesJoin objects fields files count → (rows : List Row) × PhysicalRows objects fields files count rows
files_join objects fields files count join =
    let (rows, long, each) = collected (RowJoins objects fields files count) [] count join.rows in
    (rows, joined_rows objects fields files count rows join.held join.columns long each)

-- and the other way: each of the rows is joined from the slots at its place
pub rows_join : (objects : List Object) (fields : List (PlainField ℕ)) (files : List DataFile) (count : ℕ) (rows : List Row) → PhysicalRows objects fields files count rows
    → (j : ℕ) → j < count → RowJoins objects fields files count j (get_or rows j [])
rows_join objects fields files count rows is j below =
    let long : length rows ≡ count = is.long in
    let within : j < length rows = omega arith in
    record {
      fits = is.fit j [] within;
      joins = λ top f at k d inside given_at bytes slots held are.
          let leaf = get_or (leaves_of f 0 []) k d in
          let gives = (is.columns top f at).given k d inside given_at in
          let same_bytes = same_Some gives.bytes bytes (sym gives.held ∙ held) in
          let held_slots = as_slots bytes given_at.column count leaf (values_at top rows) (column_long top rows ∙ long) (subst (λ (l : List ℕ). HoldsColumn l given_at.column leaf (values_at top rows)) same_bytes gives.says) in
          let same : slots ≡ column_slots leaf (values_at top rows) = one_slots bytes given_at.column count leaf slots (column_slots leaf (values_at top rows)) are held_slots in
          let cut = columns_cut f 0 (values_at top rows) (column_fits fields rows top f is.fit at) k d inside in
          ap (slots_of_row leaf j) same ∙ ap (λ (c : Cut). get_or c.rows j []) cut ∙ slots_of_rows leaf rows top j within;
      absent = λ top f at none. sym (value_of_row rows top j null within) ∙ (is.columns top f at).absent none j null (omega (arith, within, column_long top rows));
    }

pub columns_have_rows : (objects : List Object) (fields : List (PlainField ℕ)) (files : List DataFile) (count : ℕ) (rows : List Row) → PhysicalRows objects fields files count rows
    → (top : ℕ) (f : PlainField ℕ) → slice_get fields top ≡ Some f → ColumnsHaveRows objects files count f
columns_have_rows objects fields files count rows is top f at k d below given_at =
    let leaf = get_or (leaves_of f 0 []) k d in
    let gives = (is.columns top f at).given k d below given_at in
    let cut = columns_cut f 0 (values_at top rows) (column_fits fields rows top f is.fit at) k d below in
    record {
      bytes = gives.bytes;
      held = gives.held;
      size = gives.size;
      says = record {
        slots = column_slots leaf (values_at top rows);
        has = as_slots gives.bytes given_at.column count leaf (values_at top rows) (column_long top rows ∙ is.long) gives.says;
        cut = record {
          begins = ap (λ (c : Cut). c.front) cut;
          count_is = ap (λ (c : Cut). length c.rows) cut ∙ length-map (values_at top rows) (leaf_slots leaf) ∙ column_long top rows ∙ is.long;
        };
      };
    }

-- files have rows exactly where they join
pub join_files : (objects : List Object) (fields : List (PlainField ℕ)) (files : List DataFile) (count : ℕ) (rows : List Row) → PhysicalRows objects fields files count rows → FilesJoin objects fields files count
join_files objects fields files count rows is = record {
  held = is.held;
  columns = columns_have_rows objects fields files count rows is;
  rows = λ j below. (get_or rows j [], rows_join objects fields files count rows is j below);
}

-- A value that is joined, of a field alone, is the one in the row: what a reader of some of the columns needs.
pub value_joined : (objects : List Object) (fields : List (PlainField ℕ)) (files : List DataFile) (count : ℕ) (rows : List Row) (top j : ℕ) (f : PlainField ℕ) (v : PlainValue) → AreFields (fields_from fields)
    → PhysicalRows objects fields files count rows → slice_get fields top ≡ Some f → j < count → FieldJoins objects files count j f v → v ≡ get_or (get_or rows j []) top null
value_joined objects fields files count rows top j f v are is at below (fits, how) =
    let other = rows_join objects fields files count rows is j below in
    let w : PlainValue = get_or (get_or rows j []) top null in
    elim how [
      | inl (given, joins) ↦
          slots_determine f 0 v w (field_is fields top f are at) fits (fits_at fields (get_or rows j []) top f other.fits at)
          (λ k d inside.
          let given_at = given k d inside in
          let gives = (is.columns top f at).given k d inside given_at in
          let has = as_slots gives.bytes given_at.column count (get_or (leaves_of f 0 []) k d) (values_at top rows) (column_long top rows ∙ is.long) gives.says in
          sym (joins k d inside given_at gives.bytes _ gives.held has) ∙ other.joins top f at k d inside given_at gives.bytes _ gives.held has)
      | inr (none, null_is) ↦ null_is ∙ sym (other.absent top f at none)
    ]

-- a row that is joined is the row at its place
pub row_joined : (objects : List Object) (fields : List (PlainField ℕ)) (files : List DataFile) (count : ℕ) (rows : List Row) (j : ℕ) (row : Row) → AreFields (fields_from fields) → All (IsWhole files) fields
    → PhysicalRows objects fields files count rows → j < count → RowJoins objects fields files count j row → row ≡ get_or rows j []
row_joined objects fields files count rows j row are whole is below joins =
    let wide : length row ≡ length fields = row_long fields row joins.fits in
    let inside : j < length rows = omega (arith, below, is.long) in
    let other_wide : length (get_or rows j []) ≡ length fields = row_long fields (get_or rows j []) (is.fit j [] inside) in
    ext_get_or null row (get_or rows j []) (wide ∙ sym other_wide) (λ top within.
    let f = field_at fields top (omega (arith, within, wide)) in
    let how : (AllGiven files f.0 × ValueJoins objects files count f.0 j (get_or row top null)) ⊎ (NoneGiven files f.0 × (get_or row top null ≡ null)) =
    elim (whole_at files fields top f.0 whole f.1) [
      | inl given ↦ inl (given, joins.joins top f.0 f.1)
      | inr none ↦ inr (none, joins.absent top f.0 f.1 none)
    ]
    in
    value_joined objects fields files count rows top j f.0 (get_or row top null) are is f.1 below (fits_at fields row top f.0 joins.fits f.1, how))

-- Versions.

-- each fragment has rows exactly where all of them do
pub rows_from : (objects : List Object) (fields : List (PlainField ℕ)) (fs : List Fragment) → All (λ f. (kept : List Row) × FragmentGives objects fields f kept) fs → (rows : List Row) × FragmentsGive objects fields fs rows
rows_from objects fields [] each = ([], refl)
rows_from objects fields (f ∷ fs) each =
    let Each : Fragment → Type 0 = λ f. (kept : List Row) × FragmentGives objects fields f kept in
    let (mine, first) = All-head Each f fs each in
    let (later, rest) = rows_from objects fields fs (All-tail Each f fs each) in
    (mine ++ later, (mine, later, first, rest, refl))

pub each_from : (objects : List Object) (fields : List (PlainField ℕ)) (fs : List Fragment) (rows : List Row) → FragmentsGive objects fields fs rows → All (λ f. (kept : List Row) × FragmentGives objects fields f kept) fs
each_from objects fields [] rows is = All-nil (λ f. (kept : List Row) × FragmentGives objects fields f kept)
each_from objects fields (f ∷ fs) rows (mine, later, first, rest, is) = All-cons (λ f. (kept : List Row) × FragmentGives objects fields f kept) f fs (mine, first) (each_from objects fields fs later rest)

pub fragment_joins : (objects : List Object) (fields : List (PlainField ℕ)) (f : Fragment) → FragmentJoins objects fields f → (kept : List Row) × FragmentGives objects fields f kept
fragment_joins objects fields f joins =
    let (physical, rows) = files_join objects fields f.files f.rows joins.files in
    (without joins.deleted 0 physical, record { physical = physical; deleted = joins.deleted; rows = rows; deletions = joins.deletions; left = refl })

pub join_fragment : (objects : List Object) (fields : List (PlainField ℕ)) (f : Fragment) (kept : List Row) → FragmentGives objects fields f kept → FragmentJoins objects fields f
join_fragment objects fields f kept is = record { files = join_files objects fields f.files f.rows is.physical is.rows; deleted = is.deleted; deletions = is.deletions }

-- the version stands where its manifest reads and each fragment joins
pub version_stands : (objects : List Object) (version : ℕ) (m : PlainManifest) → HasManifest objects version m → All (FragmentJoins objects m.fields) m.fragments → (t : Table) × StandsFor objects version t
version_stands objects version m reads each =
    let (rows, are) = rows_from objects m.fields m.fragments (λ k d below. fragment_joins objects m.fields _ (each k d below)) in
    (record { columns = map unnumbered m.fields; rows = rows }, record { manifest = m; has = reads; columns = refl; rows = are })

-- and only there
pub version_joins : (objects : List Object) (version : ℕ) (t : Table) (m : PlainManifest) → StandsFor objects version t → HasManifest objects version m → All (FragmentJoins objects m.fields) m.fragments
version_joins objects version t m stands has =
    subst (λ (n : PlainManifest). All (FragmentJoins objects n.fields) n.fragments) (one_manifest_held objects version stands.manifest m stands.has has) (λ k d below.
    let each = each_from objects stands.manifest.fields stands.manifest.fragments t.rows stands.rows k d below in
    join_fragment objects stands.manifest.fields _ each.0 each.1)
