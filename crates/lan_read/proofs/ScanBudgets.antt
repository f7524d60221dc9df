-- Where a version stands for a table, the objects hold all that its scan asks, and so there is a budget of it.
use Rattle.std.proofs.Common.{◌≡◌, inl, inr, sym, ap, subst, refl, rules, ℕ, ◌+◌, ◌<◌, Bool, true, List, [], ◌∷◌, length, get_or, arith, zero, suc}
use Rattle.std.specs.Prelude.{ℤ, pos, negsuc, All, Option, Some, None, slice_get}
use Rattle.std.specs.List.{range_with_len}
use Rattle.std.specs.Option.{option_or}
use Rattle.std.proofs.lemmas.Bool.{cases_Bool}
use Rattle.std.proofs.lemmas.List.Elements.{All-append, All-cons, All-head, All-nil, All-tail}
use Rattle.std.proofs.lemmas.Option.{same_Some}
use Rattle.lan_levels.specs.PlainSlots.{PlainSlot}
use Rattle.lan_model.specs.declared.tree.Layer.{Layer}
use Rattle.lan_model.specs.declared.tree.Layer.TheVariants as layer
use Rattle.lan_model.specs.declared.tree.Leaf.{Leaf}
use Rattle.lan_model.specs.declared.tree.Ty.{Ty, the_lemmas}
use Rattle.lan_model.specs.declared.tree.Ty.TheVariants as ty
use Rattle.lan_model.specs.Leaves.{PlainLeaf, leaves_of, leaves_of_members, plain_leaf}
use Rattle.lan_model.specs.Plain.{PlainType, primitive, vector, text, bytes, list, struct, PlainField, field, PlainFields, no_fields, one_field, plain_type}
use Rattle.lan_model.specs.Table.{Table}
use Rattle.lan_schema.specs.FieldTree.{signed}
use Rattle.lan_schema.specs.Forest.{same}
use Rattle.lan_schema.proofs.ForestLaws.{same_self}
use Rattle.lan_meta.specs.declared.page.PageMeta.{PageMeta}
use Rattle.lan_page.specs.ColumnCursors.{PlainCursor, at_first}
use Rattle.lan_page.specs.Columns.{HoldsPages}
use Rattle.lan_store.specs.Budget.{Budget, nothing, plus}
use Rattle.lan_store.specs.declared.name.Object.{Object}
use Rattle.lan_store.specs.Objects.{object}
use Rattle.lan_file.specs.Heads.{HasHead, Pick}
use Rattle.lan_manifest.specs.Manifests.{PlainManifest, plain_manifest}
use Rattle.lan_manifest.specs.declared.manifest.DataFile.{DataFile}
use Rattle.lan_manifest.specs.declared.manifest.Fragment.{Fragment}
use Rattle.lan_manifest.specs.declared.manifest.Manifest.{Manifest}
use Rattle.lan_read.specs.FieldReaders.{HoldsIn, ReaderHolds}
use Rattle.lan_read.specs.Given.{Given, IsWhole}
use Rattle.lan_read.specs.Opened.{AreNewCursors, AreNewReaders, IsNewCursor, IsNewReader, Use, column_listed, opening_due, own_column, use_of}
use Rattle.lan_read.specs.Rows.{FragmentGives, PhysicalRows, column_slots, values_at, data_name}
use Rattle.lan_read.specs.Scanned.{fields_at}
use Rattle.lan_read.specs.Scans.{FragmentDue, FragmentsDue, ScanDue, readers_due, scan_start}
use Rattle.lan_read.specs.Tables.{HasManifest, StandsFor}
use Rattle.lan_read.proofs.JoinedRows.{each_from}
use Rattle.lan_read.proofs.ReadableFields.{manifest_whole}
use Rattle.lan_read.proofs.RowLists.{Row}
use Rattle.lan_read.proofs.RowRuns.{column_of_rows}
use Rattle.lan_read.proofs.ScanReasons.{used_held}
use Rattle.lan_read.proofs.SingleTable.{one_manifest_held, whole_at}
use Rattle.lan_read.proofs.UsedColumns.{asked_at, option_cases, use_gives}

-- a leaf as it is stored
abbrev IsStored : PlainLeaf → Type 0
IsStored leaf = (l : Leaf) × (plain_leaf l ≡ leaf)

as_stored : (id top : ℕ) (layers : List Layer) (t : Ty) (plain : PlainType ℕ) → plain_type t ≡ plain → All IsStored (record { id = id; top = top; ty = plain; layers = layers } ∷ [])
as_stored id top layers t plain is = All-cons IsStored _ [] (record { id = id; top = top; ty = t; layers = layers }, λ i. record { id = id; top = top; ty = is i; layers = layers }) (All-nil IsStored)

mutual
  stored_leaves : (f : PlainField ℕ) (top : ℕ) (outer : List Layer) → All IsStored (leaves_of f top outer)
  stored_leaves (field id name nullable (primitive p)) top outer = as_stored id top (layer.Item nullable ∷ outer) (ty.Bits p) (primitive p) (search (rules, the_lemmas))
  stored_leaves (field id name nullable (vector p n)) top outer = as_stored id top (layer.Item nullable ∷ outer) (ty.Vector p n) (vector p n) (search (rules, the_lemmas))
  stored_leaves (field id name nullable text) top outer = as_stored id top (layer.Item nullable ∷ outer) ty.Text text (search (rules, the_lemmas))
  stored_leaves (field id name nullable bytes) top outer = as_stored id top (layer.Item nullable ∷ outer) ty.Bytes bytes (search (rules, the_lemmas))
  stored_leaves (field id name nullable (list item)) top outer = stored_leaves item top (layer.List nullable ∷ outer)
  stored_leaves (field id name nullable (struct members)) top outer = stored_members members nullable 0 top outer

  stored_members : (fs : PlainFields ℕ) (n : Bool) (m top : ℕ) (outer : List Layer) → All IsStored (leaves_of_members fs n m top outer)
  stored_members no_fields n m top outer = All-nil IsStored
  stored_members (one_field f fs) n m top outer =
      All-append IsStored (leaves_of f top (layer.Struct n m ∷ outer)) (leaves_of_members fs n (m + 1) top outer) (stored_leaves f top (layer.Struct n m ∷ outer)) (stored_members fs n (m + 1) top outer)

-- a column that is listed for a number is found, or another is
column_found : (ids columns : List ℤ) (z : ℤ) (column k : ℕ) → slice_get ids k ≡ Some z → slice_get columns k ≡ Some (pos column) → (found : ℕ) × (column_listed ids columns z ≡ Some found)
column_found [] columns z column k at there = absurd (cc at)
column_found (i ∷ ids) [] z column k at there = absurd (cc there)
column_found (i ∷ ids) (c ∷ columns) z column zero at there =
    let is : same i z ≡ true = subst (λ (w : ℤ). same i w ≡ true) (same_Some i z at) (same_self i) in
    let own : own_column c ≡ Some column = ap own_column (same_Some c (pos column) there) in
    (column, rw is (ap (λ (o : Option ℕ). option_or o (column_listed ids columns z)) own))
column_found (i ∷ ids) (pos n ∷ columns) z column (suc k) at there =
    let (found, is) = column_found ids columns z column k at there in
    elim (cases_Bool (same i z)) [
      | inl here ↦ (n, rw here refl)
      | inr other ↦ (found, rw other is)
    ]
column_found (i ∷ ids) (negsuc n ∷ columns) z column (suc k) at there =
    let (found, is) = column_found ids columns z column k at there in
    elim (cases_Bool (same i z)) [
      | inl here ↦ (found, rw here is)
      | inr other ↦ (found, rw other is)
    ]

-- so a leaf that is given is read of a column
use_found : (files : List DataFile) (leaf : PlainLeaf) (file : DataFile) (column k : ℕ) → k < length files → get_or files k file ≡ file → column_listed file.ids file.columns (signed leaf.id) ≡ Some column → (used : Use) × (use_of files leaf ≡ Some used)
use_found [] leaf file column k below is found = absurd (omega (arith, below))
use_found (g ∷ files) leaf file column zero below is found =
    let here : column_listed g.ids g.columns (signed leaf.id) ≡ Some column = subst (λ (f : DataFile). column_listed f.ids f.columns (signed leaf.id) ≡ Some column) (sym is) found in
    (record { path = g.path; pick = record { column = column; leaf = leaf } }, rw here refl)
use_found (g ∷ files) leaf file column (suc k) below is found =
    let (used, later) = use_found files leaf file column k (omega (arith, below)) is found in
    elim (option_cases (column_listed g.ids g.columns (signed leaf.id))) [
      | inl none ↦ (used, rw none later)
      | inr (own, here) ↦ (record { path = g.path; pick = record { column = own; leaf = leaf } }, rw here refl)
    ]

pub given_use : (files : List DataFile) (leaf : PlainLeaf) → Given files leaf → (used : Use) × (use_of files leaf ≡ Some used)
given_use files leaf at =
    let (k, id, column) = at.listed in
    let (found, is) = column_found at.file.ids at.file.columns (signed leaf.id) at.column k id column in
    use_found files leaf at.file found at.is_one.0 at.is_one.1 at.is_one.2 is

-- a new cursor, whose column is held
abbrev HasCursor : List Object → List DataFile → ℕ → PlainLeaf → Type 0
HasCursor objects files count leaf = (c : PlainCursor) × IsNewCursor objects files count leaf c × HoldsIn objects c

new_cursor : (objects : List Object) (fields : List (PlainField ℕ)) (files : List DataFile) (count : ℕ) (rows : List Row) (top : ℕ) (f : PlainField ℕ) → PhysicalRows objects fields files count rows → slice_get fields top ≡ Some f
    → All (λ leaf. Given files leaf → HasCursor objects files count leaf) (leaves_of f 0 [])
new_cursor objects fields files count rows top f is there k d below at =
    let leaf : PlainLeaf = get_or (leaves_of f 0 []) k d in
    let (used, found) = given_use files leaf at in
    let gives = use_gives files leaf used found in
    let held = used_held objects fields files count rows top f is there k d below used found in
    let (stored, stored_is) = stored_leaves f 0 [] k d below in
    let pages : List PageMeta = held.says.0 in
    let as_pick = subst (λ (p : Pick). HasHead (p ∷ []) held.bytes count (pages ∷ [])) gives.pick held.says.1 in
    let holds = column_of_rows objects fields files count rows top f is there k d below (record { name = data_name used.path; leaf = leaf; pages = pages })
    (record { at = gives.at; named = ap data_name gives.path; leaf_is = refl; held = record { bytes = held.bytes; held = held.held; size = held.size; says = as_pick } }) in
    let slots : List PlainSlot = column_slots leaf (values_at top rows) in (
      at_first (data_name used.path) stored pages,
      record { used = used; is_first = found; of_leaf = stored; leaf_is = stored_is; pages = pages; new = refl; held = record { bytes = held.bytes; held = held.held; size = held.size; says = held.says.1 } },
      (slots, subst (λ (l : PlainLeaf). HoldsPages l pages (object objects (data_name used.path)) slots) (sym stored_is) holds),
    )

new_cursors : (objects : List Object) (files : List DataFile) (count : ℕ) (leaves : List PlainLeaf) → All (HasCursor objects files count) leaves → (cs : List PlainCursor) × AreNewCursors objects files count leaves cs × All (HoldsIn objects) cs
new_cursors objects files count [] each = ([], tt, All-nil (HoldsIn objects))
new_cursors objects files count (leaf ∷ leaves) each =
    let Has : PlainLeaf → Type 0 = HasCursor objects files count in
    let (c, new, holds) = All-head Has leaf leaves each in
    let (cs, news, all) = new_cursors objects files count leaves (All-tail Has leaf leaves each) in
    (c ∷ cs, (new, news), All-cons (HoldsIn objects) c cs holds all)

-- a new reader, whose columns are held
abbrev HasReader : List Object → List DataFile → ℕ → PlainField ℕ → Type 0
HasReader objects files count f = (r : Option (List PlainCursor)) × IsNewReader objects files count f r × ReaderHolds objects r

new_reader : (objects : List Object) (fields : List (PlainField ℕ)) (files : List DataFile) (count : ℕ) (rows : List Row) (top : ℕ) (f : PlainField ℕ) → PhysicalRows objects fields files count rows → slice_get fields top ≡ Some f → IsWhole files f → HasReader objects files count f
new_reader objects fields files count rows top f is there (inl given) =
    let has = new_cursor objects fields files count rows top f is there in
    let (cs, news, all) = new_cursors objects files count (leaves_of f 0 []) (λ k d below. has k d below (given k d below)) in
    (Some cs, news, all)
new_reader objects fields files count rows top f is there (inr none) = (None, none, tt)

new_readers : (objects : List Object) (files : List DataFile) (count : ℕ) (fields : List (PlainField ℕ)) → All (HasReader objects files count) fields → (rs : List (Option (List PlainCursor))) × AreNewReaders objects files count fields rs × All (ReaderHolds objects) rs
new_readers objects files count [] each = ([], tt, All-nil (ReaderHolds objects))
new_readers objects files count (f ∷ fields) each =
    let Has : PlainField ℕ → Type 0 = HasReader objects files count in
    let (r, new, holds) = All-head Has f fields each in
    let (rs, news, all) = new_readers objects files count fields (All-tail Has f fields each) in
    (r ∷ rs, (new, news), All-cons (ReaderHolds objects) r rs holds all)

-- a fragment that gives rows has a budget
abbrev HasDue : List Object → List (PlainField ℕ) → Fragment → Type 0
HasDue objects asked f = (due : Budget) × FragmentDue objects asked f due

pub fragment_due : (objects : List Object) (fields : List (PlainField ℕ)) (places : List ℕ) (f : Fragment) (kept : List Row) → All (IsWhole f.files) fields → FragmentGives objects fields f kept → (due : Budget) × FragmentDue objects (fields_at fields places) f due
fragment_due objects fields places f kept whole is =
    let asked : List (PlainField ℕ) = fields_at fields places in
    let each : All (HasReader objects f.files f.rows) asked =
    λ k d below.
    let (top, there) = asked_at fields places k d below in
    new_reader objects fields f.files f.rows is.physical top (get_or asked k d) is.rows there (whole_at f.files fields top (get_or asked k d) whole there)
    in
    let (readers, new, hold) = new_readers objects f.files f.rows asked each in
    (plus (opening_due objects asked f) (readers_due objects readers (range_with_len 0 f.rows)), record { readers = readers; new = new; hold = hold; is = refl })

fragments_due : (objects : List Object) (asked : List (PlainField ℕ)) (fs : List Fragment) → All (HasDue objects asked) fs → (due : Budget) × FragmentsDue objects asked fs due
fragments_due objects asked [] each = (nothing, refl)
fragments_due objects asked (f ∷ fs) each =
    let (mine, here) = All-head (HasDue objects asked) f fs each in
    let (later, rest) = fragments_due objects asked fs (All-tail (HasDue objects asked) f fs each) in
    (plus mine later, (mine, later, here, rest, refl))

-- and so has a scan of a version that stands
pub scan_due : (objects : List Object) (version : ℕ) (t : Table) (m : Manifest) (places : List ℕ) → HasManifest objects version (plain_manifest m) → StandsFor objects version t → (due : Budget) × ScanDue objects (scan_start m places) due
scan_due objects version t m places has stands =
    let plain : PlainManifest = plain_manifest m in
    let same : stands.manifest ≡ plain = one_manifest_held objects version stands.manifest plain stands.has has in
    let Gives : PlainManifest → Fragment → Type 0 = λ n f. (kept : List Row) × FragmentGives objects n.fields f kept in
    let each : All (Gives plain) plain.fragments = subst (λ (n : PlainManifest). All (Gives n) n.fragments) same (each_from objects stands.manifest.fields stands.manifest.fragments t.rows stands.rows) in
    let whole = manifest_whole _ version plain has.held.says in
    let (later, behind) = fragments_due objects (fields_at plain.fields places) plain.fragments (λ k d below. fragment_due objects plain.fields places _ (each k d below).0 (whole k d below) (each k d below).1) in
    (plus nothing later, record { hand = nothing; later = later; at_hand = refl; behind = behind; is = refl })
