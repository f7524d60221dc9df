-- What is known of an object's bytes once its tables were read.
use Rattle.std.proofs.Common.{◌≡◌, sym, ◌∙◌, ap, subst, ℕ, ◌+◌, ◌*◌, ◌-◌, ◌^◌, ◌<◌, ◌≤◌, List, length, arith}
use Rattle.std.specs.Prelude.{All, Contains, IsSomeAnd, Option, Some, Err}
use Rattle.std.proofs.lemmas.List.{get_or-map, length-map}
use Rattle.std.proofs.lemmas.List.Elements.{All-map, All-weaker}
use Rattle.lan_bytes.specs.Placed.{Placed}
use Rattle.lan_store.specs.Budget.{IsWithin, range, plus}
use Rattle.lan_file.specs.declared.head.ColumnPick.{ColumnPick}
use Rattle.lan_file.specs.declared.head_fault.HeadFault.{HeadFault}
use Rattle.lan_file.specs.declared.head_fault.HeadFault.TheVariants.{Outside}
use Rattle.lan_file.specs.declared.head_fault.HeadReason.TheVariants.{Region, Descriptor, Column}
use Rattle.lan_file.specs.declared.opening.Opened.{Opened}
use Rattle.lan_file.specs.declared.tables.Tables.{Tables}
use Rattle.lan_file.specs.declared.tail.Extent.{Extent}
use Rattle.lan_file.specs.declared.tail.Footer.{Footer}
use Rattle.lan_file.specs.Heads.{Pick, pick_of, picks_of, placed, column_at, tables_budget, head_budget, KeepsRegions, IsWhole, LiesRight, IsThere}
use Rattle.lan_file.specs.HeadReasons.{HeadBreaks}
use Rattle.lan_file.specs.Opening.{IsOpened}
use Rattle.lan_file.specs.Parts.{part, footer_of, extent_in, descriptor_of, InOrder, HasColumn}
use Rattle.lan_file.specs.Tables.{IsTablesOf, AreTables, entry_in, column_in, descriptor_in, KeepsColumn, KeepsParts, HasParts, JudgesTables}
use Rattle.lan_file.proofs.PartLemmas.{part-part, length-part}

-- a fact of the bytes that are held
pub held_is : {X : Type 0} (o : Option X) (P : X → Type 0) (x : X) → IsSomeAnd o P → o ≡ Some x → P x
held_is {X} o P x p is = subst (λ (h : Option X). IsSomeAnd h P) is p

pub tables_ok : (bytes metadata : List ℕ) (o : Opened) → IsOpened bytes o → metadata ≡ part bytes o.footer.columns_at (o.size - 40 - o.footer.columns_at) → IsTablesOf bytes (record { footer = o.footer; metadata = metadata })
tables_ok bytes metadata o opened read = record {
  small = opened.small;
  file = opened.file;
  tables = opened.tables;
  footer = opened.footer;
  metadata = read ∙ ap (λ (n : ℕ). part bytes o.footer.columns_at (n - 40 - o.footer.columns_at)) opened.size ∙ ap (λ (f : Footer). part bytes f.columns_at (length bytes - 40 - f.columns_at)) opened.footer;
}

pub tables_are : (metadata : List ℕ) (o : Opened) → o.size ≤ 2 ^ 30 → InOrder o.size o.footer → length metadata ≡ o.size - 40 - o.footer.columns_at → AreTables (record { footer = o.footer; metadata = metadata })
tables_are metadata o small order size =
    let whole : o.size ≡ o.footer.columns_at + length metadata + 40 = omega (arith, order.columns, order.column_table, order.globals_table, size) in
    record {
      order = subst (λ (n : ℕ). InOrder n o.footer) whole order;
      small = omega (arith, whole, small);
    }

-- both ranges cost no more than is allowed
pub tables_within : (bytes : List ℕ) (o : Opened) → IsOpened bytes o → IsWithin (plus (range 40) (range (o.size - 40 - o.footer.columns_at))) (tables_budget bytes)
tables_within bytes o opened = record {
  ranges = omega arith;
  bytes = omega (arith, opened.size, ap (λ (f : Footer). f.columns_at) opened.footer);
}

-- ---- entries

-- the entry of a table in the metadata is that in the file
entry_there : (bytes : List ℕ) (t : Tables) (at : ℕ) → IsTablesOf bytes t → t.footer.columns_at ≤ at → at + 16 ≤ length bytes - 40 → entry_in t at ≡ extent_in (part bytes at 16)
entry_there bytes t at is behind within =
    let first : t.footer.columns_at ≡ (footer_of bytes).columns_at = ap (λ (f : Footer). f.columns_at) is.footer in
    ap (λ (l : List ℕ). extent_in (part l (at - t.footer.columns_at) 16)) is.metadata
    ∙ ap extent_in (part-part bytes (footer_of bytes).columns_at (length bytes - 40 - (footer_of bytes).columns_at) (at - t.footer.columns_at) at 16 (omega (arith, behind, within, first)) (omega (arith, behind, first)))

pub column_there : (bytes : List ℕ) (t : Tables) (number : ℕ) → IsTablesOf bytes t → number < t.footer.columns → column_in t number ≡ column_at bytes number
column_there bytes t number is there =
    let order : InOrder (length bytes) t.footer = subst (λ (f : Footer). InOrder (length bytes) f) (sym is.footer) is.tables in
    entry_there bytes t (t.footer.column_table + 16 * number) is (omega (arith, order.columns)) (omega (arith, order.column_table, order.globals_table, there))
    ∙ ap (λ (f : Footer). extent_in (part bytes (f.column_table + 16 * number) 16)) is.footer

pub descriptor_there : (bytes : List ℕ) (t : Tables) → IsTablesOf bytes t → 0 < t.footer.globals → descriptor_in t ≡ descriptor_of bytes
descriptor_there bytes t is there =
    let order : InOrder (length bytes) t.footer = subst (λ (f : Footer). InOrder (length bytes) f) (sym is.footer) is.tables in
    entry_there bytes t t.footer.globals_table is (omega (arith, order.columns, order.column_table)) (omega (arith, order.globals_table, there))
    ∙ ap (λ (f : Footer). extent_in (part bytes f.globals_table 16)) is.footer

-- the metadata of a column, read in the tables
pub view_there : (bytes : List ℕ) (t : Tables) (number : ℕ) (column : Extent) (view : Placed) → IsTablesOf bytes t → number < t.footer.columns → HasColumn t.footer (column_in t number) → column ≡ column_in t number
    → view ≡ record { base = t.footer.columns_at + (column.at - t.footer.columns_at); bytes = part t.metadata (column.at - t.footer.columns_at) column.size } → view ≡ placed bytes (column_at bytes number)
view_there bytes t number column view is there kept at view_is =
    let has : HasColumn t.footer column = subst (HasColumn t.footer) (sym at) kept in
    let order : InOrder (length bytes) t.footer = subst (λ (f : Footer). InOrder (length bytes) f) (sym is.footer) is.tables in
    let first : t.footer.columns_at ≡ (footer_of bytes).columns_at = ap (λ (f : Footer). f.columns_at) is.footer in
    let long = length bytes - 40 - (footer_of bytes).columns_at in
    let base : t.footer.columns_at + (column.at - t.footer.columns_at) ≡ column.at = omega (arith, has.behind) in
    let same : part t.metadata (column.at - t.footer.columns_at) column.size ≡ part bytes column.at column.size =
    ap (λ (l : List ℕ). part l (column.at - t.footer.columns_at) column.size) is.metadata
    ∙ part-part bytes (footer_of bytes).columns_at long (column.at - t.footer.columns_at) column.at column.size (omega (arith, has.behind, has.before, order.columns, order.column_table, order.globals_table, first)) (omega (arith, has.behind, first)) in
    view_is ∙ (λ i. record { base = base i; bytes = same i }) ∙ ap (placed bytes) (at ∙ column_there bytes t number is there)

-- ---- what a survey gives

pub all_of_map : (P : Pick → Type 0) (picks : List ColumnPick) → All P (picks_of picks) → All (λ (p : ColumnPick). P (pick_of p)) picks
all_of_map P picks all = λ k d below. subst P (get_or-map pick_of picks k d (pick_of d) below) (all k (pick_of d) (omega (arith, length-map picks pick_of, below)))

pub contains_map : (picks : List ColumnPick) (p : ColumnPick) → Contains picks p → Contains (picks_of picks) (pick_of p)
contains_map picks p h = (h.0, omega (arith, length-map picks pick_of, h.1), get_or-map pick_of picks h.0 p (pick_of p) h.1 ∙ ap pick_of h.2)

keeps_there : (bytes : List ℕ) (t : Tables) (p : ColumnPick) → IsTablesOf bytes t → KeepsColumn t p → LiesRight bytes (pick_of p)
keeps_there bytes t p is keeps = λ below.
    let there : p.column < t.footer.columns = omega (arith, below, ap (λ (f : Footer). f.columns) is.footer) in
    let P : Footer → Type 0 = λ f. HasColumn f (column_at bytes p.column) in
    let Q : Extent → Type 0 = λ e. HasColumn t.footer e in
    subst P is.footer (subst Q (column_there bytes t p.column is there) (keeps there))

lies_here : (bytes : List ℕ) (t : Tables) (p : ColumnPick) → IsTablesOf bytes t → LiesRight bytes (pick_of p) → KeepsColumn t p
lies_here bytes t p is lies = λ there.
    let below : p.column < (footer_of bytes).columns = omega (arith, there, ap (λ (f : Footer). f.columns) is.footer) in
    let P : Footer → Type 0 = λ f. HasColumn f (column_at bytes p.column) in
    let Q : Extent → Type 0 = λ e. HasColumn t.footer e in
    subst Q (sym (column_there bytes t p.column is there)) (subst P (sym is.footer) (lies below))

pub regions_kept : (bytes : List ℕ) (t : Tables) (picks : List ColumnPick) → IsTablesOf bytes t → KeepsParts t picks → KeepsRegions (picks_of picks) bytes
regions_kept bytes t picks is kept = record {
  tables = is.tables;
  descriptor = λ some.
      let there : 0 < t.footer.globals = omega (arith, some, ap (λ (f : Footer). f.globals) is.footer) in
      omega (arith, kept.descriptor there, ap (λ (e : Extent). e.at) (descriptor_there bytes t is there), ap (λ (e : Extent). e.size) (descriptor_there bytes t is there), ap (λ (f : Footer). f.columns_at) is.footer);
  columns = All-map (LiesRight bytes) pick_of picks (All-weaker (KeepsColumn t) (λ (p : ColumnPick). LiesRight bytes (pick_of p)) (λ p keeps. keeps_there bytes t p is keeps) picks kept.columns);
}

parts_kept : (bytes : List ℕ) (t : Tables) (picks : List ColumnPick) → IsTablesOf bytes t → KeepsRegions (picks_of picks) bytes → KeepsParts t picks
parts_kept bytes t picks is kept = record {
  descriptor = λ there.
      let some : 0 < (footer_of bytes).globals = omega (arith, there, ap (λ (f : Footer). f.globals) is.footer) in
      omega (arith, kept.descriptor some, ap (λ (e : Extent). e.at) (descriptor_there bytes t is there), ap (λ (e : Extent). e.size) (descriptor_there bytes t is there), ap (λ (f : Footer). f.columns_at) is.footer);
  columns = All-weaker (λ (p : ColumnPick). LiesRight bytes (pick_of p)) (KeepsColumn t) (λ p lies. lies_here bytes t p is lies) picks (all_of_map (LiesRight bytes) picks kept.columns);
}

-- what has all parts that are asked is whole
pub survey_ok : (bytes : List ℕ) (t : Tables) (picks : List ColumnPick) → IsTablesOf bytes t → HasParts t picks → IsWhole (picks_of picks) bytes
survey_ok bytes t picks is has = record {
  file = is.file;
  regions = regions_kept bytes t picks is has.kept;
  described = omega (arith, has.described, ap (λ (f : Footer). f.globals) is.footer);
  there = All-map (IsThere bytes) pick_of picks (All-weaker (λ (p : ColumnPick). p.column < t.footer.columns) (λ (p : ColumnPick). IsThere bytes (pick_of p)) (λ p below. omega (arith, below, ap (λ (f : Footer). f.columns) is.footer)) picks has.there);
}

end_there : (bytes : List ℕ) (t : Tables) → IsTablesOf bytes t → t.footer.columns_at + length t.metadata ≡ length bytes - 40
end_there bytes t is =
    let order = is.tables in
    let first : t.footer.columns_at ≡ (footer_of bytes).columns_at = ap (λ (f : Footer). f.columns_at) is.footer in
    let size = length-part bytes (footer_of bytes).columns_at (length bytes - 40 - (footer_of bytes).columns_at) (omega (arith, order.columns, order.column_table, order.globals_table)) in
    let long : length t.metadata ≡ length bytes - 40 - (footer_of bytes).columns_at = ap length is.metadata ∙ size in
    omega (arith, first, long, order.columns, order.column_table, order.globals_table)

-- a part that isn't there is a reason
pub survey_err : (bytes : List ℕ) (t : Tables) (picks : List ColumnPick) (e : HeadFault) → IsTablesOf bytes t → JudgesTables t picks (Err e) → HeadBreaks (picks_of picks) (Some bytes) e
survey_err bytes t picks (Outside Region place) is j = (is.small, is.file, λ kept. j.0 (parts_kept bytes t picks is kept), j.1 ∙ end_there bytes t is)
survey_err bytes t picks (Outside Descriptor place) is j =
    (is.small, is.file, regions_kept bytes t picks is j.0, ap (λ (f : Footer). f.globals) (sym is.footer) ∙ j.1, j.2 ∙ ap (λ (f : Footer). f.globals_table) is.footer)
survey_err bytes t picks (Outside (Column number) place) is j = (
  is.small,
  is.file,
  regions_kept bytes t picks is j.0,
  omega (arith, j.1, ap (λ (f : Footer). f.globals) is.footer),
  record { pick = pick_of j.2.pick; asked = contains_map picks j.2.pick j.2.asked; is = j.2.is },
  omega (arith, j.2.lacks, ap (λ (f : Footer). f.columns) is.footer),
  j.3 ∙ ap (λ (f : Footer). f.column_table) is.footer,
)
survey_err bytes t picks e is j = absurd j

-- the descriptor lies within the file
pub descriptor_within : (bytes : List ℕ) (t : Tables) (picks : List ColumnPick) (d : Extent) → IsTablesOf bytes t → HasParts t picks → d ≡ descriptor_in t → d.at + d.size ≤ length bytes
descriptor_within bytes t picks d is has at =
    let kept = has.kept.descriptor has.described in
    let first : t.footer.columns_at ≡ (footer_of bytes).columns_at = ap (λ (f : Footer). f.columns_at) is.footer in
    let order = is.tables in
    omega (arith, kept, first, order.columns, order.column_table, order.globals_table, ap (λ (e : Extent). e.at) at, ap (λ (e : Extent). e.size) at)

-- all three ranges cost no more than is allowed
pub head_within : (bytes : List ℕ) (t : Tables) (picks : List ColumnPick) (d : Extent) → IsTablesOf bytes t → HasParts t picks → d ≡ descriptor_in t → IsWithin (plus (tables_budget bytes) (range d.size)) (head_budget bytes)
head_within bytes t picks d is has at = record {
  ranges = omega arith;
  bytes = omega (arith, ap (λ (e : Extent). e.size) at, ap (λ (e : Extent). e.size) (descriptor_there bytes t is has.described));
}

-- the same of tables alone
pub tables_in_head : (bytes : List ℕ) → IsWithin (tables_budget bytes) (head_budget bytes)
tables_in_head bytes = record { ranges = omega arith; bytes = omega arith }
