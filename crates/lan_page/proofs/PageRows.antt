-- The rows of pages, and of the pages of a column.
use Rattle.std.proofs.Common.{◌≡◌, ℕ, zero, suc, ◌+◌, ◌<◌, List, [], ◌∷◌, ◌++◌, Option, Some, None, length, take, drop, get_or, replicate, slice_get, refl, ap, ap₂, sym, subst, ◌∙◌, arith}
use Rattle.std.specs.Prelude.{All, Contains}
use Rattle.std.proofs.lemmas.List.{drop_more}
use Rattle.std.proofs.lemmas.List.Sums.{sum_by-cons, sum_by_more}
use Rattle.lan_model.specs.Leaves.{PlainLeaf}
use Rattle.lan_levels.specs.declared.slot.State.{State}
use Rattle.lan_levels.specs.declared.slot.State.TheVariants as state
use Rattle.lan_levels.specs.ConstantSlots.{constant_slots, own_piece}
use Rattle.lan_levels.specs.PlainSlots.{PlainPiece, nothing, PlainSlot}
use Rattle.lan_levels.specs.SlotsOf.{lists_in, slot}
use Rattle.lan_levels.specs.ZipForm.{PlainForm}
use Rattle.lan_levels.specs.ZipRows.{slots_of_rows}
use Rattle.lan_levels.specs.ZipSlots.{FirstBegins, AreRows, IsZip}
use Rattle.lan_levels.proofs.ZipSpelling.{parted}
use Rattle.lan_index.proofs.RowSlots.{spelled_reps, starts_of, first_of}
use Rattle.lan_meta.specs.declared.page.Layout.{Layout}
use Rattle.lan_meta.specs.declared.page.Layout.TheVariants.{Constant, Mini, Zip}
use Rattle.lan_meta.specs.declared.page.PageMeta.{PageMeta}
use Rattle.lan_meta.specs.PageKeeps.{KeepsRules}
use Rattle.lan_meta.specs.PageOf.{page_form, LaidOut, ZipOf}
use Rattle.lan_meta.specs.PageRules.{FitLayers, slots_of}
use Rattle.lan_meta.specs.Stage.{IsStaged}
use Rattle.lan_page.specs.Columns.{rows_of, HoldsPages}
use Rattle.lan_page.specs.Held.{held_buffers, HoldsPage}
use Rattle.lan_page.specs.PieceRows.{HasRows}
use Rattle.lan_page.specs.Walks.{RowsAre}
use Rattle.lan_page.proofs.RowPlaces.{rows_behind, rows_ahead}

-- ---- the slots of so many rows begin so many

same_rows : (st : State) (v : PlainPiece) (n : ℕ) → HasRows 0 n (replicate n (slot 0 st v))
same_rows st v zero = record { starts_are = refl; first = tt; alone = λ e. refl }
same_rows st v (suc n) = let later = same_rows st v n in let count = later.starts_are in let many = later.alone refl in record { starts_are = omega arith; first = refl; alone = λ e. omega arith }

constant_has : (leaf : PlainLeaf) (value : Option (List ℕ)) (n : ℕ) → HasRows 0 n (constant_slots leaf.ty n value)
constant_has leaf (Some v) n = same_rows state.Here (own_piece leaf.ty v) n
constant_has leaf None n = same_rows (state.Null 0) nothing n

alone_rows : (lists rows : ℕ) (slots : List PlainSlot) → AreRows lists rows slots → lists ≡ 0 → length slots ≡ rows
alone_rows zero rows slots a e = a
alone_rows (suc l) rows slots a e = absurd (omega arith)

zip_has : (f : PlainForm) (rows : ℕ) (bytes : List ℕ) (slots : List PlainSlot) → IsZip f rows bytes slots → HasRows f.lists rows slots
zip_has f rows bytes slots z =
    let reps = spelled_reps f (length slots) bytes (parted slots []) z.are in
    record { starts_are = starts_of f.lists rows slots reps z.rows_are; first = first_of f.lists rows slots reps z.rows_are; alone = alone_rows f.lists rows slots z.rows_are }

pub rows_have : (leaf : PlainLeaf) (layout : Layout) (rows : ℕ) (bytes : List ℕ) (slots : List PlainSlot) → FitLayers layout leaf.layers → RowsAre leaf layout rows bytes slots → HasRows (lists_in leaf.layers) rows slots
rows_have leaf (Constant codes count value) rows bytes slots fit are =
    subst (λ (n : ℕ). HasRows n rows slots) (sym fit.1) (subst (HasRows 0 rows) (sym are) (constant_has leaf value rows))
rows_have leaf (Mini codes count values) rows bytes slots fit are = absurd are
rows_have leaf (Zip codes count values) rows bytes slots fit are = zip_has (page_form leaf codes values) rows bytes slots are

laid_zip : (f : PlainForm) (rows : ℕ) (buffers : List (List ℕ)) (slots : List PlainSlot) → ZipOf f rows buffers slots → HasRows f.lists rows slots
laid_zip f rows [] slots z = absurd z
laid_zip f rows (content ∷ more) slots z = zip_has f rows content slots z.0

laid_has : (leaf : PlainLeaf) (page : PageMeta) (buffers : List (List ℕ)) (slots : List PlainSlot) (layout : Layout) → page.layout ≡ layout → KeepsRules leaf page → LaidOut leaf page.rows layout buffers slots → HasRows (lists_in leaf.layers) page.rows slots
laid_has leaf page buffers slots (Constant codes count value) e k laid =
    let fit = subst (λ (l : Layout). FitLayers l leaf.layers) e k.layers in
    let many : count ≡ page.rows = sym (ap slots_of e) ∙ k.alone fit.1 in
    rows_have leaf (Constant codes count value) page.rows [] slots fit (laid.1 ∙ ap (λ (n : ℕ). constant_slots leaf.ty n value) many)
laid_has leaf page buffers slots (Mini codes count values) e k laid = absurd (subst IsStaged e k.staged)
laid_has leaf page buffers slots (Zip codes count values) e k laid = laid_zip (page_form leaf codes values) page.rows buffers slots laid

-- the slots of a page that is held are those of its rows
pub page_has : (leaf : PlainLeaf) (page : PageMeta) (held : Option (List ℕ)) (slots : List PlainSlot) → KeepsRules leaf page → HoldsPage leaf page held slots → HasRows (lists_in leaf.layers) page.rows slots
page_has leaf page held slots k h = laid_has leaf page (held_buffers page held) slots page.layout refl k h.stands.laid

-- ---- the rows of a column's pages

pub first_rules : (leaf : PlainLeaf) (page : PageMeta) (pages : List PageMeta) → All (KeepsRules leaf) (page ∷ pages) → KeepsRules leaf page
first_rules leaf page pages k = k 0 page (omega arith)

pub later_rules : (leaf : PlainLeaf) (page : PageMeta) (pages : List PageMeta) → All (KeepsRules leaf) (page ∷ pages) → All (KeepsRules leaf) pages
later_rules leaf page pages k = λ n d less. k (suc n) d (omega arith)

pub got_page : (pages : List PageMeta) (k : ℕ) (page : PageMeta) → slice_get pages k ≡ Some page → (k < length pages) × (get_or pages k page ≡ page)
got_page [] k page e = absurd (cc)
got_page (p ∷ pages) zero page e = (omega arith, cc)
got_page (p ∷ pages) (suc k) page e = let h = got_page pages k page e in let less = h.0 in (omega arith, h.1)

pub rules_at : (leaf : PlainLeaf) (pages : List PageMeta) (k : ℕ) (page : PageMeta) → slice_get pages k ≡ Some page → All (KeepsRules leaf) pages → KeepsRules leaf page
rules_at leaf pages k page e all = let g = got_page pages k page e in subst (KeepsRules leaf) g.1 (all k page g.0)

pub contains_at : (pages : List PageMeta) (k : ℕ) (page : PageMeta) → slice_get pages k ≡ Some page → Contains pages page
contains_at [] k page e = absurd (cc)
contains_at (p ∷ pages) zero page e = (0, omega arith, cc)
contains_at (p ∷ pages) (suc k) page e = let h = contains_at pages k page e in let less = h.1 in (suc (h.0), omega arith, h.2)

pub pages_from : (pages : List PageMeta) (k : ℕ) (page : PageMeta) → slice_get pages k ≡ Some page → drop k pages ≡ page ∷ drop (k + 1) pages
pages_from pages k page e = let g = got_page pages k page e in drop_more pages k page g.0 ∙ ap (λ (p : PageMeta). p ∷ drop (k + 1) pages) g.1

pub rows_to : (pages : List PageMeta) (k : ℕ) (page : PageMeta) → slice_get pages k ≡ Some page → rows_of (take (k + 1) pages) ≡ rows_of (take k pages) + page.rows
rows_to pages k page e = let g = got_page pages k page e in sum_by_more (λ (p : PageMeta). p.rows) pages k page g.0 ∙ ap (λ (p : PageMeta). rows_of (take k pages) + p.rows) g.1

begins_append : (lists : ℕ) (xs ys : List PlainSlot) → FirstBegins lists xs → FirstBegins lists ys → FirstBegins lists (xs ++ ys)
begins_append lists [] ys a b = b
begins_append lists (x ∷ xs) ys a b = a

-- the first slot of a column begins a row
column_begins : (leaf : PlainLeaf) (pages : List PageMeta) (held : Option (List ℕ)) (slots : List PlainSlot) → All (KeepsRules leaf) pages → HoldsPages leaf pages held slots → FirstBegins (lists_in leaf.layers) slots
column_begins leaf [] held slots k h = subst (FirstBegins (lists_in leaf.layers)) (sym h) tt
column_begins leaf (page ∷ pages) held slots k (first, later, e, here, rest) =
    let has = page_has leaf page held first (first_rules leaf page pages k) here in
    subst (FirstBegins (lists_in leaf.layers)) (sym e) (begins_append (lists_in leaf.layers) first later has.first (column_begins leaf pages held later (later_rules leaf page pages k) rest))

-- a page of a column that is held, in whose slots a row is the same as in the column's
pub record PageOfColumn (leaf : PlainLeaf) (page : PageMeta) (held : Option (List ℕ)) (first row : ℕ) (all : List PlainSlot) : Type 0 where
  pub slots : List PlainSlot
  pub holds : HoldsPage leaf page held slots
  pub same : slots_of_rows (lists_in leaf.layers) row (row + 1) slots ≡ slots_of_rows (lists_in leaf.layers) (first + row) (first + row + 1) all

pub page_of_column : (leaf : PlainLeaf) (pages : List PageMeta) (held : Option (List ℕ)) (all : List PlainSlot) (k row : ℕ) (page : PageMeta) → All (KeepsRules leaf) pages → HoldsPages leaf pages held all → slice_get pages k ≡ Some page → row < page.rows
    → PageOfColumn leaf page held (rows_of (take k pages)) row all
page_of_column leaf [] held all k row page rules h e less = absurd (cc)
page_of_column leaf (p ∷ pages) held all zero row page rules (first, later, whole, here, rest) e less =
    let lists = lists_in leaf.layers in
    let is : p ≡ page = cc in
    let has = page_has leaf p held first (first_rules leaf p pages rules) here in
    let count = has.starts_are in
    let many = ap (λ (q : PageMeta). q.rows) is in
    let begins = column_begins leaf pages held later (later_rules leaf p pages rules) rest in
    let zero_plus : 0 + row ≡ row = omega arith in
    record {
      slots = first;
      holds = subst (λ (q : PageMeta). HoldsPage leaf q held first) is here;
      same = sym (rows_ahead lists row first later (omega arith) begins) ∙ ap₂ (λ (n : ℕ) (xs : List PlainSlot). slots_of_rows lists n (n + 1) xs) (sym zero_plus) (sym whole);
    }
page_of_column leaf (p ∷ pages) held all (suc k) row page rules (first, later, whole, here, rest) e less =
    let lists = lists_in leaf.layers in
    let has = page_has leaf p held first (first_rules leaf p pages rules) here in
    let inner = page_of_column leaf pages held later k row page (later_rules leaf p pages rules) rest e less in
    let n = rows_of (take k pages) in
    let count : rows_of (p ∷ take k pages) ≡ p.rows + n = sum_by-cons (λ (q : PageMeta). q.rows) p (take k pages) in
    let place : p.rows + (n + row) ≡ rows_of (p ∷ take k pages) + row = omega arith in
    record {
      slots = inner.slots;
      holds = inner.holds;
      same = inner.same ∙ sym (rows_behind lists p.rows (n + row) first later has.starts_are) ∙ ap₂ (λ (m : ℕ) (xs : List PlainSlot). slots_of_rows lists m (m + 1) xs) place (sym whole);
    }
