-- The runs of a row are its value's slots, and so tell the value, or that there are no such rows.
use Rattle.std.proofs.Common.{◌≡◌, sym, ◌∙◌, ap, subst, ℕ, ◌+◌, ◌<◌, List, [], ◌∷◌, length, get_or, arith}
use Rattle.std.specs.Prelude.{All, Contains, Option, Some, slice_get}
use Rattle.std.proofs.lemmas.Option.{same_Some}
use Rattle.std.proofs.lemmas.List.Elements.{All-cons, All-contains, All-head, All-nil, All-tail}
use Rattle.lan_model.specs.Leaves.{PlainLeaf, leaves_of}
use Rattle.lan_model.specs.Plain.{PlainField, PlainValue, null, fields_from}
use Rattle.lan_model.specs.Table.{AreFields, IsField, Table}
use Rattle.lan_levels.specs.Joins.{HaveSlots, IsJoin}
use Rattle.lan_levels.specs.PlainSlots.{plain_slots}
use Rattle.lan_levels.specs.SlotsOf.{leaf_slots, lists_in}
use Rattle.lan_levels.specs.ZipRows.{slots_of_rows}
use Rattle.lan_levels.specs.declared.join.Join.{Join}
use Rattle.lan_levels.specs.declared.slot.SlotRun.{SlotRun}
use Rattle.lan_levels.proofs.Assembled.{no_join}
use Rattle.lan_levels.proofs.Leaves.{slots_determine}
use Rattle.lan_page.specs.Columns.{HoldsPages}
use Rattle.lan_store.specs.declared.name.Object.{Object}
use Rattle.lan_store.specs.Objects.{object}
use Rattle.lan_file.specs.Heads.{HasHead}
use Rattle.lan_manifest.specs.Manifests.{PlainManifest}
use Rattle.lan_manifest.specs.declared.manifest.DataFile.{DataFile}
use Rattle.lan_manifest.specs.declared.manifest.Fragment.{Fragment}
use Rattle.lan_read.specs.FieldReaders.{AreRunsOfRow, GivesLeaf, IsRunOfRow, ReadColumn, RowHasNoValue}
use Rattle.lan_read.specs.Rows.{FragmentGives, PhysicalRows, column_slots, values_at}
use Rattle.lan_read.specs.Tables.{HasManifest, StandsFor}
use Rattle.lan_read.proofs.HeldColumns.{column_held, head_of_leaf, holds_below, one_pick}
use Rattle.lan_read.proofs.JoinedRows.{as_slots, each_from, value_of_row}
use Rattle.lan_read.proofs.LeafTops.{below_top}
use Rattle.lan_read.proofs.RowLists.{Row, column_fits, column_long, field_is, fits_at}
use Rattle.lan_read.proofs.RowsInColumns.{row_of_column}
use Rattle.lan_read.proofs.SingleTable.{one_manifest_held}

-- a column's pages hold the slots of the rows' values
pub column_of_rows : (objects : List Object) (fields : List (PlainField ℕ)) (files : List DataFile) (count : ℕ) (rows : List Row) (top : ℕ) (f : PlainField ℕ) → PhysicalRows objects fields files count rows → slice_get fields top ≡ Some f
    → All (λ leaf. (column : ReadColumn) → GivesLeaf objects files count leaf column → HoldsPages column.leaf column.pages (object objects column.name) (column_slots leaf (values_at top rows))) (leaves_of f 0 [])
column_of_rows objects fields files count rows top f is at k d inside column gives =
    let leaf = get_or (leaves_of f 0 []) k d in
    let values = values_at top rows in
    let slots = column_slots leaf values in
    let place : ℕ = column.leaf.top in
    let there = (is.columns top f at).given k d inside gives.at in
    let has = as_slots there.bytes gives.at.column count leaf values (column_long top rows ∙ is.long) there.says in
    let held : object objects column.name ≡ Some there.bytes = ap (object objects) gives.named ∙ there.held in
    let same : gives.held.bytes ≡ there.bytes = same_Some gives.held.bytes there.bytes (sym gives.held.held ∙ held) in
    let said = subst (λ (l : PlainLeaf). HasHead (one_pick gives.at.column l) gives.held.bytes count (column.pages ∷ [])) gives.leaf_is gives.held.says in
    let head = head_of_leaf there.bytes count gives.at.column place leaf column.pages (subst (λ (bytes : List ℕ). HasHead (one_pick gives.at.column (below_top place leaf)) bytes count (column.pages ∷ [])) same said) in
    let holds = holds_below place leaf column.pages (Some there.bytes) slots (column_held there.bytes count gives.at.column leaf column.pages slots head has) in
    subst (λ (l : PlainLeaf). HoldsPages l column.pages (object objects column.name) slots) (sym gives.leaf_is) (subst (λ (o : Option (List ℕ)). HoldsPages (below_top place leaf) column.pages o slots) (sym held) holds)

abbrev HasRunOf : List Object → List DataFile → ℕ → ℕ → PlainValue → PlainLeaf → Type 0
HasRunOf objects files count row v leaf = (run : SlotRun) → IsRunOfRow objects files count row leaf run → plain_slots run.slots ≡ leaf_slots leaf v

-- a run of a row has the slots of its value
each_run : (objects : List Object) (fields : List (PlainField ℕ)) (files : List DataFile) (count : ℕ) (rows : List Row) (top j : ℕ) (f : PlainField ℕ) → PhysicalRows objects fields files count rows → slice_get fields top ≡ Some f → j < count
    → All (HasRunOf objects files count j (get_or (get_or rows j []) top null)) (leaves_of f 0 [])
each_run objects fields files count rows top j f is at below k d inside run of_row =
    let leaf = get_or (leaves_of f 0 []) k d in
    let values = values_at top rows in
    let within : j < length rows = omega (arith, below, is.long) in
    let holds = column_of_rows objects fields files count rows top f is at k d inside of_row.column of_row.gives in
    let lists : lists_in of_row.column.leaf.layers ≡ lists_in leaf.layers = ap (λ (l : PlainLeaf). lists_in l.layers) of_row.gives.leaf_is in
    of_row.slots (column_slots leaf values) holds
    ∙ ap (λ (n : ℕ). slots_of_rows n j (j + 1) (column_slots leaf values)) lists
    ∙ row_of_column f 0 j values null (column_fits fields rows top f is.fit at) (omega (arith, within, column_long top rows)) k d inside
    ∙ ap (leaf_slots leaf) (value_of_row rows top j null within)

have_slots : (objects : List Object) (files : List DataFile) (count row : ℕ) (v : PlainValue) (leaves : List PlainLeaf) (runs : List SlotRun) → All (HasRunOf objects files count row v) leaves → AreRunsOfRow objects files count row leaves runs → HaveSlots leaves runs v
have_slots objects files count row v [] [] each are = tt
have_slots objects files count row v [] (run ∷ runs) each are = absurd are
have_slots objects files count row v (leaf ∷ leaves) [] each are = absurd are
have_slots objects files count row v (leaf ∷ leaves) (run ∷ runs) each are =
    let Each : PlainLeaf → Type 0 = HasRunOf objects files count row v in
    (All-head Each leaf leaves each run are.0, have_slots objects files count row v leaves runs (All-tail Each leaf leaves each) are.1)

-- the runs of a row are joined into its value
pub row_joins : (objects : List Object) (fields : List (PlainField ℕ)) (files : List DataFile) (count : ℕ) (rows : List Row) (top j : ℕ) (f : PlainField ℕ) (runs : List SlotRun) → PhysicalRows objects fields files count rows → slice_get fields top ≡ Some f → j < count
    → AreRunsOfRow objects files count j (leaves_of f 0 []) runs → IsJoin f runs (get_or (get_or rows j []) top null)
row_joins objects fields files count rows top j f runs is at below are =
    let v : PlainValue = get_or (get_or rows j []) top null in (
      fits_at fields (get_or rows j []) top f (is.fit j [] (omega (arith, below, is.long))) at,
      have_slots objects files count j v (leaves_of f 0 []) runs (each_run objects fields files count rows top j f is at below) are,
    )

same_slots : (leaves : List PlainLeaf) (runs : List SlotRun) (v w : PlainValue) → HaveSlots leaves runs v → HaveSlots leaves runs w → All (λ l. leaf_slots l v ≡ leaf_slots l w) leaves
same_slots [] [] v w a b = All-nil (λ l. leaf_slots l v ≡ leaf_slots l w)
same_slots [] (run ∷ runs) v w a b = absurd a
same_slots (leaf ∷ leaves) [] v w a b = absurd a
same_slots (leaf ∷ leaves) (run ∷ runs) v w a b = All-cons (λ l. leaf_slots l v ≡ leaf_slots l w) leaf leaves (sym a.0 ∙ b.0) (same_slots leaves runs v w a.1 b.1)

-- and into no other
pub joined_is_row : (objects : List Object) (fields : List (PlainField ℕ)) (files : List DataFile) (count : ℕ) (rows : List Row) (top j : ℕ) (f : PlainField ℕ) (runs : List SlotRun) (v : PlainValue) → IsField f → PhysicalRows objects fields files count rows
    → slice_get fields top ≡ Some f → j < count → AreRunsOfRow objects files count j (leaves_of f 0 []) runs → IsJoin f runs v → v ≡ get_or (get_or rows j []) top null
joined_is_row objects fields files count rows top j f runs v ok is at below are joins =
    let w : PlainValue = get_or (get_or rows j []) top null in
    let other = row_joins objects fields files count rows top j f runs is at below are in
    slots_determine f 0 v w ok joins.0 other.0 (same_slots (leaves_of f 0 []) runs v w joins.1 other.1)

-- where a row has no value, there are no such rows
pub no_rows : (objects : List Object) (fields : List (PlainField ℕ)) (files : List DataFile) (count : ℕ) (rows : List Row) (top j : ℕ) (f : PlainField ℕ) (error : Join) → IsField f → slice_get fields top ≡ Some f
    → RowHasNoValue objects files count f j error → PhysicalRows objects fields files count rows → ⊥
no_rows objects fields files count rows top j f error ok at none is =
    no_join f none.runs error ok none.cause none.is_cause (get_or (get_or rows j []) top null) (row_joins objects fields files count rows top j f none.runs is at none.inside none.of_row)

pub no_fragment : (objects : List Object) (fields : List (PlainField ℕ)) (fragment : Fragment) (kept : List Row) (top j : ℕ) (f : PlainField ℕ) (error : Join) → AreFields (fields_from fields) → slice_get fields top ≡ Some f
    → RowHasNoValue objects fragment.files fragment.rows f j error → FragmentGives objects fields fragment kept → ⊥
no_fragment objects fields fragment kept top j f error ok at none is = no_rows objects fields fragment.files fragment.rows is.physical top j f error (field_is fields top f ok at) at none is.rows

-- a fragment of a version that stands gives rows
pub gives_in_table : (objects : List Object) (version : ℕ) (t : Table) (m : PlainManifest) (fragment : Fragment) → HasManifest objects version m → Contains m.fragments fragment → StandsFor objects version t → (kept : List Row) × FragmentGives objects m.fields fragment kept
gives_in_table objects version t m fragment has one stands =
    let same : stands.manifest ≡ m = one_manifest_held objects version stands.manifest m stands.has has in
    let Gives : PlainManifest → Fragment → Type 0 = λ n fragment. (kept : List Row) × FragmentGives objects n.fields fragment kept in
    let each : All (Gives stands.manifest) stands.manifest.fragments = each_from objects stands.manifest.fields stands.manifest.fragments t.rows stands.rows in
    All-contains (Gives m) m.fragments fragment (subst (λ (n : PlainManifest). All (Gives n) n.fragments) same each) one

-- nor does the version stand
pub no_table : (objects : List Object) (version : ℕ) (t : Table) (m : PlainManifest) (fragment : Fragment) (top j : ℕ) (f : PlainField ℕ) (error : Join) → AreFields (fields_from m.fields) → HasManifest objects version m → Contains m.fragments fragment → slice_get m.fields top ≡ Some f
    → RowHasNoValue objects fragment.files fragment.rows f j error → StandsFor objects version t → ⊥
no_table objects version t m fragment top j f error ok has one at none stands =
    let gives = gives_in_table objects version t m fragment has one stands in
    no_fragment objects m.fields fragment gives.0 top j f error ok at none gives.1
