-- The pages of a file's column lie in the object, and have the column's slots.
use Rattle.std.proofs.Common.{◌≡◌, sym, ◌∙◌, subst, ℕ, ◌≤◌, List, [], ◌∷◌, length, arith}
use Rattle.std.specs.Prelude.{All, Option, Some}
use Rattle.std.proofs.lemmas.List.Elements.{All-cons, All-head, All-nil, All-tail}
use Rattle.lan_bytes.specs.Placed.{Placed}
use Rattle.lan_model.specs.Leaves.{PlainLeaf}
use Rattle.lan_model.specs.declared.range.Range.{Range}
use Rattle.lan_levels.specs.PlainSlots.{PlainSlot}
use Rattle.lan_wire.specs.Messages.{ReadEach}
use Rattle.lan_wire.specs.Values.{parts_under}
use Rattle.lan_meta.specs.declared.page.PageMeta.{PageMeta}
use Rattle.lan_meta.specs.Columns.{ColumnOf, StandsForPage}
use Rattle.lan_meta.specs.PageRules.{EndBefore}
use Rattle.lan_page.specs.Columns.{HoldsPages}
use Rattle.lan_page.specs.Held.{HasBuffers, held_buffers}
use Rattle.lan_file.specs.FileOf.{PagesStand}
use Rattle.lan_file.specs.Heads.{HasHead, IsThere, LiesRight, Pick}
use Rattle.lan_file.specs.Parts.{footer_of}
use Rattle.lan_file.proofs.LawTerms.{one_head}
use Rattle.lan_read.specs.Joined.{HasSlots}
use Rattle.lan_read.proofs.LeafTops.{below_top, column_of, laid_out}

abbrev pub one_pick : ℕ → PlainLeaf → List Pick
one_pick column leaf = record { column = column; leaf = leaf } ∷ []

abbrev EndsBefore : ℕ → PageMeta → Type 0
EndsBefore end page = EndBefore end page.buffers

-- the buffers of a column's pages end where its metadata may begin
page_ends : (leaf : PlainLeaf) (end : ℕ) (part : Placed) (page : PageMeta) → StandsForPage leaf end part page → EndsBefore end page
page_ends leaf end part page is = subst (EndsBefore end) (sym is.is) is.obeys.region

each_ends : (leaf : PlainLeaf) (end : ℕ) (parts : List Placed) (pages : List PageMeta) → ReadEach (StandsForPage leaf end) parts pages → All (EndsBefore end) pages
each_ends leaf end [] pages none = subst (All (EndsBefore end)) (sym none) (All-nil (EndsBefore end))
each_ends leaf end (part ∷ parts) pages (first, rest, is, here, later) =
    subst (All (EndsBefore end)) (sym is) (All-cons (EndsBefore end) first rest (page_ends leaf end part first here) (each_ends leaf end parts rest later))

column_ends : (leaf : PlainLeaf) (end : ℕ) (message : Placed) (pages : List PageMeta) → ColumnOf message leaf end pages → All (EndsBefore end) pages
column_ends leaf end message pages is = each_ends leaf end (parts_under 2 is.items) pages is.said

-- and so the object has them
has_buffers : (bytes : List ℕ) (end : ℕ) (buffers : List Range) → end ≤ length bytes → EndBefore end buffers → HasBuffers (Some bytes) buffers
has_buffers bytes end [] long ends = tt
has_buffers bytes end (b ∷ buffers) long ends = λ k d within. omega (arith, ends k d within, long)

pages_held : (leaf : PlainLeaf) (bytes : List ℕ) (end : ℕ) (pages : List PageMeta) (slots : List PlainSlot) → end ≤ length bytes → All (EndsBefore end) pages → PagesStand bytes leaf pages slots → HoldsPages leaf pages (Some bytes) slots
pages_held leaf bytes end [] slots long ends stand = stand
pages_held leaf bytes end (page ∷ pages) slots long ends (first, later, is, here, behind) = (
  first,
  later,
  is,
  record { has = has_buffers bytes end page.buffers long (All-head (EndsBefore end) page pages ends); stands = here },
  pages_held leaf bytes end pages later long (All-tail (EndsBefore end) page pages ends) behind,
)

pub only_one : {X : Type 0} (x y : X) (ys : List X) → x ∷ [] ≡ y ∷ ys → x ≡ y
only_one {X} x y ys e = cc

-- the pages by a file's head hold the slots that its column has
pub column_held : (bytes : List ℕ) (count column : ℕ) (leaf : PlainLeaf) (pages : List PageMeta) (slots : List PlainSlot) → HasHead (one_pick column leaf) bytes count (pages ∷ []) → HasSlots bytes count column leaf slots → HoldsPages leaf pages (Some bytes) slots
column_held bytes count column leaf pages slots head has =
    let (found, others, found_is, picked, none) = head.columns_are in
    let (stood, more, first, later, stood_is, slots_are, stand, behind) = has.stand in
    let same : pages ∷ [] ≡ has.columns = (one_head (one_pick column leaf) bytes count count (pages ∷ []) has.columns head has.head).1 in
    let as_stood : pages ≡ stood = only_one pages stood more (same ∙ stood_is) in
    let as_found : pages ≡ found = only_one pages found others found_is in
    let as_slots : slots ≡ first = only_one slots first later slots_are in
    let tables = head.whole.regions.tables in
    let long : (footer_of bytes).columns_at ≤ length bytes = omega (arith, tables.columns, tables.column_table, tables.globals_table) in
    let ends = subst (All (EndsBefore (footer_of bytes).columns_at)) (sym as_found) (column_ends leaf (footer_of bytes).columns_at _ found picked.pages_are) in
    let stands : PagesStand bytes leaf pages slots = subst (λ (l : List PlainSlot). PagesStand bytes leaf pages l) (sym as_slots) (subst (λ (ps : List PageMeta). PagesStand bytes leaf ps first) (sym as_stood) stand) in
    pages_held leaf bytes (footer_of bytes).columns_at pages slots long ends stands

-- ---- below whatever top field

-- a head has a leaf's pages, whatever the place of the leaf's top field
pub head_of_leaf : (bytes : List ℕ) (count column top : ℕ) (leaf : PlainLeaf) (pages : List PageMeta) → HasHead (one_pick column (below_top top leaf)) bytes count (pages ∷ []) → HasHead (one_pick column leaf) bytes count (pages ∷ [])
head_of_leaf bytes count column top leaf pages head =
    let before : Pick = record { column = column; leaf = below_top top leaf } in
    let pick : Pick = record { column = column; leaf = leaf } in
    let (first, later, is, picked, rest) = head.columns_are in
    record {
      whole = record {
        file = head.whole.file;
        regions = record {
          tables = head.whole.regions.tables;
          descriptor = head.whole.regions.descriptor;
          columns = All-cons (LiesRight bytes) pick [] (All-head (LiesRight bytes) before [] head.whole.regions.columns) (All-nil (LiesRight bytes));
        };
        described = head.whole.described;
        there = All-cons (IsThere bytes) pick [] (All-head (IsThere bytes) before [] head.whole.there) (All-nil (IsThere bytes));
      };
      rows_are = head.rows_are;
      columns_are = (first, later, is, record { pages_are = column_of top _ leaf _ first picked.pages_are; rows_are = picked.rows_are }, rest);
    }

-- and so an object holds its pages
pub holds_below : (top : ℕ) (leaf : PlainLeaf) (pages : List PageMeta) (held : Option (List ℕ)) (slots : List PlainSlot) → HoldsPages leaf pages held slots → HoldsPages (below_top top leaf) pages held slots
holds_below top leaf [] held slots holds = holds
holds_below top leaf (page ∷ pages) held slots (first, later, is, here, rest) = (
  first,
  later,
  is,
  record {
    has = here.has;
    stands = record { laid = laid_out leaf.top page.rows (below_top top leaf) page.layout (held_buffers page held) first here.stands.laid; count = here.stands.count; rows_are = here.stands.rows_are };
  },
  holds_below top leaf pages held later rest,
)
