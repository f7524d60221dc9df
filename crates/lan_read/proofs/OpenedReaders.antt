-- The readers that a fragment is opened with: they read its fields, and all such readers ask the same.
use Rattle.std.proofs.Common.{◌≡◌, inl, inr, sym, ◌∙◌, ap, ap₂, refl, subst, ℕ, suc, Bool, true, false, cond, List, [], ◌∷◌, drop, arith}
use Rattle.std.specs.Prelude.{◌⊎◌, ℤ, pos, negsuc, All, Option, Some, None, option_map, slice_get}
use Rattle.std.specs.Option.{option_or}
use Rattle.std.proofs.lemmas.Bool.{cases_Bool}
use Rattle.std.proofs.lemmas.List.Elements.{All-cons, All-head, All-nil, All-tail}
use Rattle.std.proofs.lemmas.Option.{same_Some}
use Rattle.lan_model.specs.Leaves.{PlainLeaf, leaves_of}
use Rattle.lan_model.specs.Plain.{PlainField}
use Rattle.lan_schema.specs.FieldTree.{signed}
use Rattle.lan_schema.specs.Forest.{same}
use Rattle.lan_schema.proofs.ForestLaws.{same_is}
use Rattle.lan_meta.specs.declared.page.PageMeta.{PageMeta}
use Rattle.lan_page.specs.ColumnBudgets.{pages_due}
use Rattle.lan_page.specs.ColumnCursors.{PlainCursor}
use Rattle.lan_store.specs.Budget.{Budget, plus}
use Rattle.lan_store.specs.Objects.{object}
use Rattle.lan_store.specs.declared.name.Object.{Object}
use Rattle.lan_file.specs.Heads.{HasHead}
use Rattle.lan_file.proofs.LawTerms.{one_head}
use Rattle.lan_manifest.specs.declared.manifest.DataFile.{DataFile}
use Rattle.lan_read.specs.FieldReaders.{GiveLeaves, GivesLeaf, HoldsIn, ReadColumn, ReaderHolds, ReaderKnows, ReadsField, column_read, columns_read, cursors_due, values_due}
use Rattle.lan_read.specs.Given.{Given}
use Rattle.lan_read.specs.Opened.{AreNewCursors, AreNewReaders, IsNewCursor, IsNewReader, Use, column_listed, own_column, use_in, use_of}
use Rattle.lan_read.specs.Rows.{IsHeld, data_name}
use Rattle.lan_read.specs.Scans.{ReadersKnow, readers_due}
use Rattle.lan_read.proofs.ReadValues.{holds_later}
use Rattle.lan_read.proofs.SingleTable.{held_one, only_item}
use Rattle.lan_read.proofs.ValuesDue.{due_in}

-- ---- the column that a leaf has first

abbrev Listed : List ℤ → List ℤ → ℤ → ℕ → Type 0
Listed ids columns id column = (k : ℕ) × (slice_get ids k ≡ Some id) × (slice_get columns k ≡ Some (pos column))

listed_behind : (ids columns : List ℤ) (i c id : ℤ) (column : ℕ) → Listed ids columns id column → Listed (i ∷ ids) (c ∷ columns) id column
listed_behind ids columns i c id column listed = (suc listed.0, listed.1, listed.2)

column_here : (ids columns : List ℤ) (i c id : ℤ) (column : ℕ) (rest : Option ℕ) → i ≡ id → option_or (own_column c) rest ≡ Some column → (rest ≡ Some column → Listed ids columns id column) → Listed (i ∷ ids) (c ∷ columns) id column
column_here ids columns i (pos n) id column rest here at behind = (0, ap (λ (z : ℤ). Some z) here, ap (λ (k : ℕ). Some (pos k)) (same_Some n column at))
column_here ids columns i (negsuc n) id column rest here at behind = listed_behind ids columns i (negsuc n) id column (behind at)

is_listed_at : (ids columns : List ℤ) (id : ℤ) (column : ℕ) → column_listed ids columns id ≡ Some column → Listed ids columns id column
is_listed_at [] columns id column at = absurd (cc at)
is_listed_at (i ∷ ids) [] id column at = absurd (cc at)
is_listed_at (i ∷ ids) (c ∷ columns) id column at =
    let rest : Option ℕ = column_listed ids columns id in
    let Is : Bool → Type 0 = λ b. cond b (option_or (own_column c) rest) rest ≡ Some column in
    elim (cases_Bool (same i id)) [
      | inl is ↦
          let first : Is true = subst Is is at in
          column_here ids columns i c id column rest (same_is i id is) first (is_listed_at ids columns id column)
      | inr not ↦
          let later : Is false = subst Is not at in
          listed_behind ids columns i c id column (is_listed_at ids columns id column later)
    ]

-- what a use is of
abbrev use_at : {files : List DataFile} {leaf : PlainLeaf} → Given files leaf → Use
use_at {files} {leaf} at = record { path = at.file.path; pick = record { column = at.column; leaf = leaf } }

given_here : (file : DataFile) (files : List DataFile) (leaf : PlainLeaf) (o : Option ℕ) (used : Use) → column_listed file.ids file.columns (signed leaf.id) ≡ o → option_map (λ column. record { path = file.path; pick = record { column = column; leaf = leaf } }) o ≡ Some used
    → (at : Given (file ∷ files) leaf) × (used ≡ use_at at)
given_here file files leaf None used listed at = absurd (cc at)
given_here file files leaf (Some column) used listed at =
    (record { file = file; is_one = (0, omega arith, refl); column = column; listed = is_listed_at file.ids file.columns (signed leaf.id) column listed }, sym (same_Some _ used at))

given_later : (file : DataFile) (files : List DataFile) (leaf : PlainLeaf) (used : Use) → (at : Given files leaf) × (used ≡ use_at at) → (at : Given (file ∷ files) leaf) × (used ≡ use_at at)
given_later file files leaf used (at, is) = (record { file = at.file; is_one = (suc at.is_one.0, omega (arith, at.is_one.1), at.is_one.2); column = at.column; listed = at.listed }, is)

first_or : {X : Type 0} (o p : Option X) (x : X) → option_or o p ≡ Some x → (o ≡ Some x) ⊎ (p ≡ Some x)
first_or None p x at = inr at
first_or (Some y) p x at = inl at

pub use_given : (files : List DataFile) (leaf : PlainLeaf) (used : Use) → use_of files leaf ≡ Some used → (at : Given files leaf) × (used ≡ use_at at)
use_given [] leaf used at = absurd (cc at)
use_given (file ∷ files) leaf used at = elim (first_or (use_in file leaf) (use_of files leaf) used at) [
  | inl here ↦ given_here file files leaf (column_listed file.ids file.columns (signed leaf.id)) used refl here
  | inr later ↦ given_later file files leaf used (use_given files leaf used later)
]

-- ---- its cursor

abbrev column_of : {objects : List Object} {files : List DataFile} {count : ℕ} {leaf : PlainLeaf} {c : PlainCursor} → IsNewCursor objects files count leaf c → ReadColumn
column_of {objects} {files} {count} {leaf} {c} is = record { name = data_name is.used.path; leaf = leaf; pages = is.pages }

new_column : (objects : List Object) (files : List DataFile) (count : ℕ) (leaf : PlainLeaf) (c : PlainCursor) (is : IsNewCursor objects files count leaf c) → column_read c ≡ column_of is
new_column objects files count leaf c is = ap column_read is.new ∙ ap (λ (l : PlainLeaf). record { name = data_name is.used.path; leaf = l; pages = is.pages }) is.leaf_is

new_gives : (objects : List Object) (files : List DataFile) (count : ℕ) (leaf : PlainLeaf) (c : PlainCursor) → IsNewCursor objects files count leaf c → GivesLeaf objects files count leaf (column_read c)
new_gives objects files count leaf c is =
    let given = use_given files leaf is.used is.is_first in
    let Held : Use → Type 0 = λ used. IsHeld objects (data_name is.used.path) (λ bytes. HasHead (used.pick ∷ []) bytes count (is.pages ∷ [])) in
    subst (GivesLeaf objects files count leaf) (sym (new_column objects files count leaf c is))
    (record { at = given.0; named = ap (λ (used : Use). data_name used.path) given.1; leaf_is = refl; held = subst Held given.1 is.held })

pages_one : (objects : List Object) (count : ℕ) (u v : Use) (ps qs : List PageMeta) → u ≡ v → IsHeld objects (data_name u.path) (λ bytes. HasHead (u.pick ∷ []) bytes count (ps ∷ [])) → IsHeld objects (data_name v.path) (λ bytes. HasHead (v.pick ∷ []) bytes count (qs ∷ []))
    → ps ≡ qs
pages_one objects count u v ps qs same a b =
    let Has : List PageMeta → List ℕ → Type 0 = λ pages bytes. HasHead (u.pick ∷ []) bytes count (pages ∷ []) in
    let there : IsHeld objects (data_name u.path) (Has qs) = subst (λ (w : Use). IsHeld objects (data_name w.path) (λ bytes. HasHead (w.pick ∷ []) bytes count (qs ∷ []))) (sym same) b in
    only_item (one_head (u.pick ∷ []) a.bytes count count (ps ∷ []) (qs ∷ []) a.says (held_one objects (data_name u.path) (Has ps) (Has qs) a there)).1

new_one : (objects : List Object) (files : List DataFile) (count : ℕ) (leaf : PlainLeaf) (c d : PlainCursor) → IsNewCursor objects files count leaf c → IsNewCursor objects files count leaf d → column_read c ≡ column_read d
new_one objects files count leaf c d a b =
    let used : a.used ≡ b.used = same_Some a.used b.used (sym a.is_first ∙ b.is_first) in
    let pages : a.pages ≡ b.pages = pages_one objects count a.used b.used a.pages b.pages used a.held b.held in
    new_column objects files count leaf c a
    ∙ ap₂ (λ (u : Use) (ps : List PageMeta). record { name = data_name u.path; leaf = leaf; pages = ps }) used pages
    ∙ sym (new_column objects files count leaf d b)

abbrev first_due : List Object → List ℕ → ReadColumn → Budget
first_due objects rows column = pages_due column.leaf (object objects column.name) (drop 0 column.pages) 0 false 0 rows

new_due : (objects : List Object) (files : List DataFile) (count : ℕ) (leaf : PlainLeaf) (c : PlainCursor) (rows : List ℕ) → IsNewCursor objects files count leaf c → due_in objects c rows ≡ first_due objects rows (column_read c)
new_due objects files count leaf c rows is = subst (λ (x : PlainCursor). due_in objects x rows ≡ first_due objects rows (column_read x)) (sym is.new) refl

-- ---- those of a field

new_cursors_give : (objects : List Object) (files : List DataFile) (count : ℕ) (leaves : List PlainLeaf) (cursors : List PlainCursor) → AreNewCursors objects files count leaves cursors → GiveLeaves objects files count leaves (columns_read cursors)
new_cursors_give objects files count [] [] new = tt
new_cursors_give objects files count [] (c ∷ cursors) new = absurd new
new_cursors_give objects files count (leaf ∷ leaves) [] new = absurd new
new_cursors_give objects files count (leaf ∷ leaves) (c ∷ cursors) new = (new_gives objects files count leaf c new.0, new_cursors_give objects files count leaves cursors new.1)

new_columns : (objects : List Object) (files : List DataFile) (count : ℕ) (leaves : List PlainLeaf) (cs ds : List PlainCursor) → AreNewCursors objects files count leaves cs → AreNewCursors objects files count leaves ds → columns_read cs ≡ columns_read ds
new_columns objects files count [] [] [] a b = refl
new_columns objects files count [] [] (d ∷ ds) a b = absurd b
new_columns objects files count [] (c ∷ cs) ds a b = absurd a
new_columns objects files count (leaf ∷ leaves) [] ds a b = absurd a
new_columns objects files count (leaf ∷ leaves) (c ∷ cs) [] a b = absurd b
new_columns objects files count (leaf ∷ leaves) (c ∷ cs) (d ∷ ds) a b =
    ap₂ (λ (x : ReadColumn) (xs : List ReadColumn). x ∷ xs) (new_one objects files count leaf c d a.0 b.0) (new_columns objects files count leaves cs ds a.1 b.1)

new_cursors_due : (objects : List Object) (files : List DataFile) (count : ℕ) (leaves : List PlainLeaf) (cs ds : List PlainCursor) (rows : List ℕ) → AreNewCursors objects files count leaves cs → AreNewCursors objects files count leaves ds
    → cursors_due objects cs rows ≡ cursors_due objects ds rows
new_cursors_due objects files count [] [] [] rows a b = refl
new_cursors_due objects files count [] [] (d ∷ ds) rows a b = absurd b
new_cursors_due objects files count [] (c ∷ cs) ds rows a b = absurd a
new_cursors_due objects files count (leaf ∷ leaves) [] ds rows a b = absurd a
new_cursors_due objects files count (leaf ∷ leaves) (c ∷ cs) [] rows a b = absurd b
new_cursors_due objects files count (leaf ∷ leaves) (c ∷ cs) (d ∷ ds) rows a b =
    ap₂ plus (new_due objects files count leaf c rows a.0 ∙ ap (first_due objects rows) (new_one objects files count leaf c d a.0 b.0) ∙ sym (new_due objects files count leaf d rows b.0)) (new_cursors_due objects files count leaves cs ds rows a.1 b.1)

-- where no file gives a leaf, there are none
no_cursors : (objects : List Object) (files : List DataFile) (count : ℕ) (leaves : List PlainLeaf) (cursors : List PlainCursor) → All (λ leaf. Given files leaf → ⊥) leaves → AreNewCursors objects files count leaves cursors → cursors ≡ []
no_cursors objects files count [] [] none new = refl
no_cursors objects files count [] (c ∷ cursors) none new = absurd new
no_cursors objects files count (leaf ∷ leaves) [] none new = absurd new
no_cursors objects files count (leaf ∷ leaves) (c ∷ cursors) none new = absurd (All-head (λ leaf. Given files leaf → ⊥) leaf leaves none (use_given files leaf new.0.used new.0.is_first).0)

new_reader_reads : (objects : List Object) (files : List DataFile) (count : ℕ) (f : PlainField ℕ) (r : Option (List PlainCursor)) → IsNewReader objects files count f r → ReadsField objects files count f r
new_reader_reads objects files count f None new = new
new_reader_reads objects files count f (Some cursors) new = new_cursors_give objects files count (leaves_of f 0 []) cursors new

-- another new reader asks the same
pub record AsksSame (objects : List Object) (r q : Option (List PlainCursor)) : Type 0 where
  pub holds : ReaderHolds objects r → ReaderHolds objects q
  pub due : (rows : List ℕ) → values_due objects r rows ≡ values_due objects q rows

asks_nothing : (objects : List Object) (cursors : List PlainCursor) → cursors ≡ [] → AsksSame objects None (Some cursors) × AsksSame objects (Some cursors) None
asks_nothing objects cursors none = (
  record { holds = λ holds. subst (All (HoldsIn objects)) (sym none) (All-nil (HoldsIn objects)); due = λ rows. sym (ap (λ (cs : List PlainCursor). cursors_due objects cs rows) none) },
  record { holds = λ holds. tt; due = λ rows. ap (λ (cs : List PlainCursor). cursors_due objects cs rows) none },
)

new_reader_one : (objects : List Object) (files : List DataFile) (count : ℕ) (f : PlainField ℕ) (r q : Option (List PlainCursor)) → IsNewReader objects files count f r → IsNewReader objects files count f q → AsksSame objects r q
new_reader_one objects files count f None None a b = record { holds = λ holds. holds; due = λ rows. refl }
new_reader_one objects files count f None (Some ds) a b = (asks_nothing objects ds (no_cursors objects files count (leaves_of f 0 []) ds a b)).0
new_reader_one objects files count f (Some cs) None a b = (asks_nothing objects cs (no_cursors objects files count (leaves_of f 0 []) cs b a)).1
new_reader_one objects files count f (Some cs) (Some ds) a b = record {
  holds = λ holds. holds_later objects cs ds (sym (new_columns objects files count (leaves_of f 0 []) cs ds a b)) holds;
  due = λ rows. new_cursors_due objects files count (leaves_of f 0 []) cs ds rows a b;
}

-- ---- those of a fragment

-- they read its fields, and know what they have in memory
pub new_readers_know : (objects : List Object) (files : List DataFile) (count : ℕ) (fields : List (PlainField ℕ)) (readers : List (Option (List PlainCursor))) → AreNewReaders objects files count fields readers → All (ReaderKnows objects) readers
    → ReadersKnow objects files count fields readers
new_readers_know objects files count [] [] new know = tt
new_readers_know objects files count [] (r ∷ readers) new know = absurd new
new_readers_know objects files count (f ∷ fields) [] new know = absurd new
new_readers_know objects files count (f ∷ fields) (r ∷ readers) new know =
    (new_reader_reads objects files count f r new.0, All-head (ReaderKnows objects) r readers know, new_readers_know objects files count fields readers new.1 (All-tail (ReaderKnows objects) r readers know))

pub new_readers_hold : (objects : List Object) (files : List DataFile) (count : ℕ) (fields : List (PlainField ℕ)) (rs qs : List (Option (List PlainCursor))) → AreNewReaders objects files count fields rs → AreNewReaders objects files count fields qs
    → All (ReaderHolds objects) rs → All (ReaderHolds objects) qs
new_readers_hold objects files count [] rs [] a b holds = All-nil (ReaderHolds objects)
new_readers_hold objects files count [] rs (q ∷ qs) a b holds = absurd b
new_readers_hold objects files count (f ∷ fields) rs [] a b holds = absurd b
new_readers_hold objects files count (f ∷ fields) [] (q ∷ qs) a b holds = absurd a
new_readers_hold objects files count (f ∷ fields) (r ∷ rs) (q ∷ qs) a b holds =
    All-cons (ReaderHolds objects) q qs ((new_reader_one objects files count f r q a.0 b.0).holds (All-head (ReaderHolds objects) r rs holds)) (new_readers_hold objects files count fields rs qs a.1 b.1 (All-tail (ReaderHolds objects) r rs holds))

pub new_readers_due : (objects : List Object) (files : List DataFile) (count : ℕ) (fields : List (PlainField ℕ)) (rs qs : List (Option (List PlainCursor))) (rows : List ℕ) → AreNewReaders objects files count fields rs → AreNewReaders objects files count fields qs
    → readers_due objects rs rows ≡ readers_due objects qs rows
new_readers_due objects files count [] [] [] rows a b = refl
new_readers_due objects files count [] [] (q ∷ qs) rows a b = absurd b
new_readers_due objects files count [] (r ∷ rs) qs rows a b = absurd a
new_readers_due objects files count (f ∷ fields) [] qs rows a b = absurd a
new_readers_due objects files count (f ∷ fields) (r ∷ rs) [] rows a b = absurd b
new_readers_due objects files count (f ∷ fields) (r ∷ rs) (q ∷ qs) rows a b = ap₂ plus ((new_reader_one objects files count f r q a.0 b.0).due rows) (new_readers_due objects files count fields rs qs rows a.1 b.1)
