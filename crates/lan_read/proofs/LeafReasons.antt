-- Where a column isn't held as its head says, there are no such rows.
use Rattle.std.proofs.Common.{◌≡◌, sym, subst, ℕ, ◌^◌, ◌≤◌, List, [], ◌∷◌, length, arith}
use Rattle.std.specs.Prelude.{All, Contains, Some, slice_get}
use Rattle.std.proofs.lemmas.List.Elements.{All-contains}
use Rattle.lan_model.specs.Leaves.{PlainLeaf, leaves_of}
use Rattle.lan_model.specs.Plain.{PlainField}
use Rattle.lan_model.specs.Table.{Table}
use Rattle.lan_meta.specs.declared.page.PageMeta.{PageMeta}
use Rattle.lan_meta.specs.PageKeeps.{KeepsRules}
use Rattle.lan_meta.proofs.LawTerms.{pages_keep}
use Rattle.lan_page.specs.Columns.{ColumnReasonStands, HoldsPages}
use Rattle.lan_page.specs.declared.fault.PageReason.{PageReason}
use Rattle.lan_page.proofs.LawTerms.{columns_refute}
use Rattle.lan_store.specs.declared.name.Name.{Name}
use Rattle.lan_store.specs.declared.name.Object.{Object}
use Rattle.lan_store.specs.Objects.{object}
use Rattle.lan_file.specs.Heads.{HasHead}
use Rattle.lan_file.specs.Parts.{footer_of}
use Rattle.lan_manifest.specs.Manifests.{PlainManifest}
use Rattle.lan_manifest.specs.declared.manifest.DataFile.{DataFile}
use Rattle.lan_manifest.specs.declared.manifest.Fragment.{Fragment}
use Rattle.lan_read.specs.FieldReaders.{GivesLeaf, LeafReasonStands, ReadColumn}
use Rattle.lan_read.specs.Rows.{FragmentGives, PhysicalRows, column_slots, values_at}
use Rattle.lan_read.specs.Tables.{HasManifest, StandsFor}
use Rattle.lan_read.proofs.HeldColumns.{one_pick, only_one}
use Rattle.lan_read.proofs.RowLists.{Row}
use Rattle.lan_read.proofs.RowRuns.{column_of_rows, gives_in_table}

-- the pages that a head gives keep to the rules
pub pages_kept : (bytes : List ℕ) (count column : ℕ) (leaf : PlainLeaf) (pages : List PageMeta) → length bytes ≤ 2 ^ 30 → HasHead (one_pick column leaf) bytes count (pages ∷ []) → All (KeepsRules leaf) pages
pages_kept bytes count column leaf pages small head =
    let (found, others, is, picked, rest) = head.columns_are in
    let tables = head.whole.regions.tables in
    let early : (footer_of bytes).columns_at ≤ 2 ^ 63 = omega (arith, tables.columns, tables.column_table, tables.globals_table, small) in
    subst (All (KeepsRules leaf)) (sym (only_one pages found others is)) (pages_keep _ leaf (footer_of bytes).columns_at found early picked.pages_are)

pub no_leaf_rows : (objects : List Object) (fields : List (PlainField ℕ)) (files : List DataFile) (count : ℕ) (rows : List Row) (top : ℕ) (f : PlainField ℕ) (name : Name) (why : PageReason) (place : ℕ) → slice_get fields top ≡ Some f
    → LeafReasonStands objects files count (leaves_of f 0 []) name why place → PhysicalRows objects fields files count rows → ⊥
no_leaf_rows objects fields files count rows top f name why place at stands is =
    let column = stands.column in
    let gives = stands.gives in
    let Holds : PlainLeaf → Type 0 = λ leaf. (column : ReadColumn) → GivesLeaf objects files count leaf column → HoldsPages column.leaf column.pages (object objects column.name) (column_slots leaf (values_at top rows)) in
    let holds = All-contains Holds (leaves_of f 0 []) stands.leaf (column_of_rows objects fields files count rows top f is at) stands.is_one column gives in
    let why_stands = subst (λ (n : Name). ColumnReasonStands column.leaf column.pages (object objects n) why place) stands.named stands.stands in
    columns_refute column.leaf column.pages (object objects column.name) (column_slots stands.leaf (values_at top rows)) why place (pages_kept gives.held.bytes count gives.at.column column.leaf column.pages gives.held.size gives.held.says) why_stands holds

pub no_leaf_fragment : (objects : List Object) (fields : List (PlainField ℕ)) (fragment : Fragment) (kept : List Row) (top : ℕ) (f : PlainField ℕ) (name : Name) (why : PageReason) (place : ℕ) → slice_get fields top ≡ Some f
    → LeafReasonStands objects fragment.files fragment.rows (leaves_of f 0 []) name why place → FragmentGives objects fields fragment kept → ⊥
no_leaf_fragment objects fields fragment kept top f name why place at stands is = no_leaf_rows objects fields fragment.files fragment.rows is.physical top f name why place at stands is.rows

pub no_leaf_table : (objects : List Object) (version : ℕ) (t : Table) (m : PlainManifest) (fragment : Fragment) (top : ℕ) (f : PlainField ℕ) (name : Name) (why : PageReason) (place : ℕ) → HasManifest objects version m → Contains m.fragments fragment → slice_get m.fields top ≡ Some f
    → LeafReasonStands objects fragment.files fragment.rows (leaves_of f 0 []) name why place → StandsFor objects version t → ⊥
no_leaf_table objects version t m fragment top f name why place has one at reason stands =
    let gives = gives_in_table objects version t m fragment has one stands in
    no_leaf_fragment objects m.fields fragment gives.0 top f name why place at reason gives.1
