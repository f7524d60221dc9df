-- Where a reason stands by which a scan ends, the fragment gives no rows, and the version stands for no table.
use Rattle.std.proofs.Common.{◌≡◌, inl, inr, sym, ◌∙◌, ap, refl, subst, ℕ, List, [], ◌∷◌, get_or}
use Rattle.std.specs.Prelude.{All, Contains, Option, Some, slice_get}
use Rattle.std.proofs.lemmas.List.Elements.{All-cons, All-contains, All-head, All-tail}
use Rattle.std.proofs.lemmas.Option.{same_Some}
use Rattle.lan_model.specs.Leaves.{PlainLeaf, leaves_of}
use Rattle.lan_model.specs.Plain.{PlainField, fields_from}
use Rattle.lan_model.specs.Table.{AreFields, Table}
use Rattle.lan_meta.specs.declared.page.PageMeta.{PageMeta}
use Rattle.lan_store.specs.declared.name.Name.{Name}
use Rattle.lan_store.specs.declared.name.Object.{Object}
use Rattle.lan_store.specs.Objects.{object}
use Rattle.lan_file.specs.HeadReasons.{HeadStands}
use Rattle.lan_file.specs.Heads.{HasHead, IsThere, LiesRight, Pick}
use Rattle.lan_file.proofs.LawTerms.{no_head_reason, one_head}
use Rattle.lan_manifest.specs.Manifests.{PlainManifest}
use Rattle.lan_manifest.specs.declared.manifest.DataFile.{DataFile}
use Rattle.lan_manifest.specs.declared.manifest.Fragment.{Fragment}
use Rattle.lan_read.specs.FieldReaders.{RefusesValue}
use Rattle.lan_read.specs.Given.{Given}
use Rattle.lan_read.specs.Opened.{HasRows, IsUsedFile, RefusesOpening, Use, leaves_in, paths_used, picks_at, picks_of_fields, use_of, uses_of}
use Rattle.lan_read.specs.Rows.{FragmentGives, IsDataFile, IsHeld, PhysicalRows, values_at, data_name}
use Rattle.lan_read.specs.Scanned.{fields_at}
use Rattle.lan_read.specs.Scans.{RefusesScan}
use Rattle.lan_read.specs.Tables.{HasManifest, StandsFor}
use Rattle.lan_read.specs.declared.read_fault.Reason.{Reason}
use Rattle.lan_read.specs.declared.read_fault.Reason.TheVariants as reason
use Rattle.lan_read.specs.declared.read_fault.ReadFault.TheVariants.{Outside}
use Rattle.lan_read.proofs.JoinedRows.{as_slots}
use Rattle.lan_read.proofs.LeafReasons.{no_leaf_fragment}
use Rattle.lan_read.proofs.ReadableFields.{manifest_fields}
use Rattle.lan_read.proofs.RowLists.{Row, column_long}
use Rattle.lan_read.proofs.RowRuns.{gives_in_table, no_fragment}
use Rattle.lan_read.proofs.UsedColumns.{IsAt, IsPathOf, asked_at, each_leaf, each_path, each_pick, each_use, use_gives}

-- ---- the head of several columns

-- the bytes are a data file of so many rows with the column
abbrev pub HasPick : List ℕ → ℕ → Pick → Type 0
HasPick bytes count pick = (pages : List PageMeta) × HasHead (pick ∷ []) bytes count (pages ∷ [])

-- by the heads of each one
head_of_picks : (bytes : List ℕ) (count : ℕ) (picks : List Pick) → HasHead [] bytes count [] → All (HasPick bytes count) picks → (columns : List (List PageMeta)) × HasHead picks bytes count columns
head_of_picks bytes count [] head each = ([], head)
head_of_picks bytes count (pick ∷ picks) head each =
    let (pages, one) = All-head (HasPick bytes count) pick picks each in
    let (columns, rest) = head_of_picks bytes count picks head (All-tail (HasPick bytes count) pick picks each) in
    let (first, later, is, picked, none) = one.columns_are in (
      first ∷ columns,
      record {
        whole = record {
          file = head.whole.file;
          regions = record {
            tables = head.whole.regions.tables;
            descriptor = head.whole.regions.descriptor;
            columns = All-cons (LiesRight bytes) pick picks (All-head (LiesRight bytes) pick [] one.whole.regions.columns) rest.whole.regions.columns;
          };
          described = head.whole.described;
          there = All-cons (IsThere bytes) pick picks (All-head (IsThere bytes) pick [] one.whole.there) rest.whole.there;
        };
        rows_are = head.rows_are;
        columns_are = (first, columns, refl, picked, rest.columns_are);
      },
    )

-- ---- what rows have

-- the column that is used is held
abbrev pub UseHeld : List Object → ℕ → Use → Type 0
UseHeld objects count used = IsHeld objects (data_name used.path) (λ bytes. HasPick bytes count used.pick)

-- files that have rows have the columns that give a field
given_head : (objects : List Object) (fields : List (PlainField ℕ)) (files : List DataFile) (count : ℕ) (rows : List Row) (top : ℕ) (f : PlainField ℕ) → PhysicalRows objects fields files count rows → slice_get fields top ≡ Some f
    → All (λ (leaf : PlainLeaf). (at : Given files leaf) → IsHeld objects (data_name at.file.path) (λ bytes. HasPick bytes count (record { column = at.column; leaf = leaf }))) (leaves_of f 0 [])
given_head objects fields files count rows top f is there k d below at =
    let leaf = get_or (leaves_of f 0 []) k d in
    let gives = (is.columns top f there).given k d below at in
    let has = as_slots gives.bytes at.column count leaf (values_at top rows) (column_long top rows ∙ is.long) gives.says in
    let (first, later, is_first, picked, none) = has.head.columns_are in
    let pick : Pick = record { column = at.column; leaf = leaf } in
    let columns : has.columns ≡ first ∷ [] = is_first ∙ ap (λ (l : List (List PageMeta)). first ∷ l) none in
    record { bytes = gives.bytes; held = gives.held; size = gives.size; says = (first, subst (HasHead (pick ∷ []) gives.bytes count) columns has.head) }

pub used_held : (objects : List Object) (fields : List (PlainField ℕ)) (files : List DataFile) (count : ℕ) (rows : List Row) (top : ℕ) (f : PlainField ℕ) → PhysicalRows objects fields files count rows → slice_get fields top ≡ Some f
    → All (λ (leaf : PlainLeaf). (used : Use) → use_of files leaf ≡ Some used → UseHeld objects count used) (leaves_of f 0 [])
used_held objects fields files count rows top f is there k d below used found =
    let leaf = get_or (leaves_of f 0 []) k d in
    let gives = use_gives files leaf used found in
    let head = given_head objects fields files count rows top f is there k d below gives.at in
    record {
      bytes = head.bytes;
      held = ap (λ (path : List ℕ). object objects (data_name path)) gives.path ∙ head.held;
      size = head.size;
      says = subst (HasPick head.bytes count) (sym gives.pick) head.says;
    }

uses_held : (objects : List Object) (fields : List (PlainField ℕ)) (files : List DataFile) (count : ℕ) (rows : List Row) (asked : List (PlainField ℕ)) → PhysicalRows objects fields files count rows → All (IsAt fields) asked
    → All (UseHeld objects count) (uses_of files (leaves_in asked))
uses_held objects fields files count rows asked is each =
    let Holds : PlainLeaf → Type 0 = λ leaf. (used : Use) → use_of files leaf ≡ Some used → UseHeld objects count used in
    each_use (UseHeld objects count) files (leaves_in asked) (each_leaf Holds asked (λ k d below. used_held objects fields files count rows (each k d below).0 (get_or asked k d) is (each k d below).1))

-- a file of which columns are read has them
used_head : (objects : List Object) (fields : List (PlainField ℕ)) (files : List DataFile) (count : ℕ) (rows : List Row) (asked : List (PlainField ℕ)) (name : Name) → PhysicalRows objects fields files count rows → All (IsAt fields) asked → (file : IsUsedFile files asked name)
    → IsHeld objects name (λ bytes. (columns : List (List PageMeta)) × HasHead (picks_of_fields files asked file.path) bytes count columns)
used_head objects fields files count rows asked name is each used =
    let uses : List Use = uses_of files (leaves_in asked) in
    let of = All-contains (IsPathOf files) (paths_used files uses) used.path (each_path files uses) used.used in
    let IsOne : DataFile → Type 0 = λ file. IsHeld objects (data_name file.path) (λ bytes. IsDataFile bytes count) in
    let held = All-contains IsOne files of.file is.held of.is_one in
    let here : object objects (data_name used.path) ≡ Some held.bytes = ap (λ (path : List ℕ). object objects (data_name path)) of.is ∙ held.held in
    let each_held = uses_held objects fields files count rows asked is each in
    let picks : All (HasPick held.bytes count) (picks_at uses used.path) =
    each_pick (HasPick held.bytes count) uses used.path (λ k d below same.
    let mine = each_held k d below in
    let bytes : mine.bytes ≡ held.bytes = same_Some mine.bytes held.bytes (sym mine.held ∙ ap (λ (path : List ℕ). object objects (data_name path)) same ∙ here) in
    subst (λ (l : List ℕ). HasPick l count (get_or uses k d).pick) bytes mine.says)
    in
    record { bytes = held.bytes; held = ap (object objects) used.named ∙ here; size = held.size; says = head_of_picks held.bytes count (picks_at uses used.path) held.says picks }

-- ---- reasons

other_rows : (picks : List Pick) (held : Option (List ℕ)) (bytes : List ℕ) (count found : ℕ) (columns : List (List PageMeta)) → held ≡ Some bytes → HasHead picks bytes count columns → HasRows found picks held → found ≡ count
other_rows picks held bytes count found columns is head has =
    let (small, others, other) = subst (HasRows found picks) is has in
    (one_head picks bytes found count others columns other head).0

-- a fragment of which a reason says that it isn't opened gives no rows
pub no_scan_fragment : (objects : List Object) (fields : List (PlainField ℕ)) (places : List ℕ) (fragment : Fragment) (kept : List Row) (name : Name) (why : Reason) (place : ℕ) → RefusesOpening objects (fields_at fields places) fragment (Outside name why place)
    → FragmentGives objects fields fragment kept → ⊥
no_scan_fragment objects fields places fragment kept name (reason.File why) place refuses is =
    let head = used_head objects fields fragment.files fragment.rows is.physical (fields_at fields places) name is.rows (asked_at fields places) refuses.file in
    let picks : List Pick = picks_of_fields fragment.files (fields_at fields places) refuses.file.path in
    no_head_reason picks head.bytes fragment.rows head.says.0 why place head.size head.says.1 (subst (λ (held : Option (List ℕ)). HeadStands picks held why place) head.held refuses.is)
no_scan_fragment objects fields places fragment kept name (reason.Rows found stated) place (front, states, differ, stands) is =
    let head = used_head objects fields fragment.files fragment.rows is.physical (fields_at fields places) name is.rows (asked_at fields places) stands.file in
    let picks : List Pick = picks_of_fields fragment.files (fields_at fields places) stands.file.path in
    differ (other_rows picks (object objects name) head.bytes fragment.rows found head.says.0 head.held head.says.1 stands.is ∙ sym states)
no_scan_fragment objects fields places fragment kept name reason.Missing place refuses is = refuses
no_scan_fragment objects fields places fragment kept name reason.Size place refuses is = refuses
no_scan_fragment objects fields places fragment kept name reason.Short place refuses is = refuses
no_scan_fragment objects fields places fragment kept name (reason.Manifest why) place refuses is = refuses
no_scan_fragment objects fields places fragment kept name (reason.Page why) place refuses is = refuses
no_scan_fragment objects fields places fragment kept name (reason.Join error) place refuses is = refuses

-- and so does one in a row of which a field has no value
pub no_scan_value : (objects : List Object) (fields : List (PlainField ℕ)) (places : List ℕ) (fragment : Fragment) (kept : List Row) (f : PlainField ℕ) (row : ℕ) (name : Name) (why : Reason) (place : ℕ) → AreFields (fields_from fields)
    → Contains (fields_at fields places) f → RefusesValue objects fragment.files fragment.rows f row (Outside name why place) → FragmentGives objects fields fragment kept → ⊥
no_scan_value objects fields places fragment kept f row name (reason.Page why) place are one refuses is =
    let (top, there) = All-contains (IsAt fields) (fields_at fields places) f (asked_at fields places) one in
    no_leaf_fragment objects fields fragment kept top f name why place there refuses is
no_scan_value objects fields places fragment kept f row name (reason.Join error) place are one (at_row, blamed, none) is =
    let (top, there) = All-contains (IsAt fields) (fields_at fields places) f (asked_at fields places) one in
    no_fragment objects fields fragment kept top row f error are there none is
no_scan_value objects fields places fragment kept f row name (reason.File why) place are one refuses is = refuses
no_scan_value objects fields places fragment kept f row name (reason.Rows found stated) place are one refuses is = refuses
no_scan_value objects fields places fragment kept f row name reason.Missing place are one refuses is = refuses
no_scan_value objects fields places fragment kept f row name reason.Size place are one refuses is = refuses
no_scan_value objects fields places fragment kept f row name reason.Short place are one refuses is = refuses
no_scan_value objects fields places fragment kept f row name (reason.Manifest why) place are one refuses is = refuses

-- so a version in which a reason of a scan stands, stands for no table
pub no_scan_table : (objects : List Object) (version : ℕ) (t : Table) (m : PlainManifest) (places : List ℕ) (name : Name) (why : Reason) (place : ℕ) → RefusesScan objects m places (Outside name why place) → HasManifest objects version m → StandsFor objects version t → ⊥
no_scan_table objects version t m places name why place (inl refused) has stands =
    let gives = gives_in_table objects version t m refused.fragment has refused.is_one stands in
    no_scan_fragment objects m.fields places refused.fragment gives.0 name why place refused.refuses gives.1
no_scan_table objects version t m places name why place (inr refused) has stands =
    let gives = gives_in_table objects version t m refused.fragment has refused.is_one stands in
    no_scan_value objects m.fields places refused.fragment gives.0 refused.field refused.row name why place (manifest_fields _ version m has.held.says) refused.is_asked refused.refuses gives.1
