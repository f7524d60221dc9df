-- The place of a leaf's top field is no matter to its column, and each column of a file is one by itself.
use Rattle.std.proofs.Common.{◌≡◌, sym, ◌∙◌, ap, refl, ℕ, zero, suc, List, [], ◌∷◌, subst}
use Rattle.std.specs.Prelude.{All, Some, slice_get}
use Rattle.std.proofs.lemmas.Option.{same_Some}
use Rattle.std.proofs.lemmas.List.Elements.{All-cons, All-nil, All-head, All-tail}
use Rattle.lan_bytes.specs.Placed.{Placed}
use Rattle.lan_model.specs.Leaves.{PlainLeaf}
use Rattle.lan_levels.specs.PlainSlots.{PlainSlot}
use Rattle.lan_wire.specs.Messages.{ReadEach}
use Rattle.lan_wire.specs.Values.{parts_under}
use Rattle.lan_meta.specs.declared.page.Layout.{Layout}
use Rattle.lan_meta.specs.declared.page.Layout.TheVariants.{Constant, Mini, Zip}
use Rattle.lan_meta.specs.declared.page.PageMeta.{PageMeta}
use Rattle.lan_meta.specs.Columns.{ColumnOf, StandsForPage}
use Rattle.lan_meta.specs.PageOf.{buffers_in, LaidOut}
use Rattle.lan_file.specs.FileOf.{ColumnsStand, IsFileOf, PagesStand}
use Rattle.lan_file.specs.Heads.{HasHead, IsThere, LiesRight, Pick, PickedColumn, PickedColumns}

-- the leaf below another top field
abbrev pub below_top : ℕ → PlainLeaf → PlainLeaf
below_top top leaf = record leaf { top = top }

-- ---- the place is no matter

page_stands : (top end : ℕ) (leaf : PlainLeaf) (part : Placed) (page : PageMeta) → StandsForPage (below_top top leaf) end part page → StandsForPage leaf end part page
page_stands top end leaf part page p = record {
  whole = p.whole;
  said = p.said;
  obeys = record { layers = p.obeys.layers; counts = p.obeys.counts; values = p.obeys.values; bits = p.obeys.bits; region = p.obeys.region };
  is = p.is;
}

read_each_as : {M : Type 0} (Say Other : Placed → M → Type 0) → ((part : Placed) (m : M) → Say part m → Other part m) → (parts : List Placed) (ms : List M) → ReadEach Say parts ms → ReadEach Other parts ms
read_each_as {M} Say Other as_other [] ms p = p
read_each_as {M} Say Other as_other (part ∷ parts) ms (first, rest, is, here, later) = (first, rest, is, as_other part first here, read_each_as Say Other as_other parts rest later)

pub column_of : (top end : ℕ) (leaf : PlainLeaf) (message : Placed) (pages : List PageMeta) → ColumnOf message (below_top top leaf) end pages → ColumnOf message leaf end pages
column_of top end leaf message pages p = record {
  items = p.items;
  reads = p.reads;
  said = read_each_as (StandsForPage (below_top top leaf) end) (StandsForPage leaf end) (page_stands top end leaf) (parts_under 2 p.items) pages p.said;
}

pub laid_out : (top rows : ℕ) (leaf : PlainLeaf) (layout : Layout) (buffers : List (List ℕ)) (slots : List PlainSlot) → LaidOut (below_top top leaf) rows layout buffers slots → LaidOut leaf rows layout buffers slots
laid_out top rows leaf (Constant codes count value) buffers slots p = p
laid_out top rows leaf (Mini codes count values) buffers slots p = p
laid_out top rows leaf (Zip codes count values) buffers slots p = p

pages_stand : (top : ℕ) (bytes : List ℕ) (leaf : PlainLeaf) (pages : List PageMeta) (slots : List PlainSlot) → PagesStand bytes (below_top top leaf) pages slots → PagesStand bytes leaf pages slots
pages_stand top bytes leaf [] slots p = p
pages_stand top bytes leaf (page ∷ pages) slots (first, later, is, here, rest) = (
  first,
  later,
  is,
  record { laid = laid_out top page.rows leaf page.layout (buffers_in bytes page.buffers) first here.laid; count = here.count; rows_are = here.rows_are },
  pages_stand top bytes leaf pages later rest,
)

-- ---- one column

-- a file of columns is one where none is asked
pub no_column : (picks : List Pick) (bytes : List ℕ) (rows : ℕ) (columns : List (List PageMeta)) → HasHead picks bytes rows columns → HasHead [] bytes rows []
no_column picks bytes rows columns head = record {
  whole = record {
    file = head.whole.file;
    regions = record { tables = head.whole.regions.tables; descriptor = head.whole.regions.descriptor; columns = All-nil (LiesRight bytes) };
    described = head.whole.described;
    there = All-nil (IsThere bytes);
  };
  rows_are = head.rows_are;
  columns_are = refl;
}

abbrev one_pick : ℕ → PlainLeaf → List Pick
one_pick column leaf = record { column = column; leaf = leaf } ∷ []

-- what a column by itself needs of a file
record HasOne (bytes : List ℕ) (rows : ℕ) (pick : Pick) (slots : List PlainSlot) : Type 0 where
  lies : LiesRight bytes pick
  there : IsThere bytes pick
  pages : List PageMeta
  picked : PickedColumn bytes rows pick pages
  stand : PagesStand bytes pick.leaf pages slots

one_by_itself : (picks : List Pick) (bytes : List ℕ) (rows : ℕ) (all : List (List PlainSlot)) (pick : Pick) (slots : List PlainSlot) → IsFileOf picks bytes rows all → HasOne bytes rows pick slots → IsFileOf (pick ∷ []) bytes rows (slots ∷ [])
one_by_itself picks bytes rows all pick slots file one = record {
  columns = one.pages ∷ [];
  head = record {
    whole = record {
      file = file.head.whole.file;
      regions = record { tables = file.head.whole.regions.tables; descriptor = file.head.whole.regions.descriptor; columns = All-cons (LiesRight bytes) pick [] one.lies (All-nil (LiesRight bytes)) };
      described = file.head.whole.described;
      there = All-cons (IsThere bytes) pick [] one.there (All-nil (IsThere bytes));
    };
    rows_are = file.head.rows_are;
    columns_are = (one.pages, [], refl, one.picked, refl);
  };
  stand = (one.pages, [], slots, [], refl, refl, one.stand, (refl, refl));
}

cons_parts : {X : Type 0} (x y : X) (xs ys : List X) → x ∷ xs ≡ y ∷ ys → (x ≡ y) × (xs ≡ ys)
cons_parts {X} x y xs ys e =
    let first : x ≡ y = cc in
    let rest : xs ≡ ys = cc in
    (first, rest)

one_of : (picks : List Pick) (bytes : List ℕ) (rows k : ℕ) (columns : List (List PageMeta)) (all : List (List PlainSlot)) (pick : Pick) → slice_get picks k ≡ Some pick → All (LiesRight bytes) picks → All (IsThere bytes) picks
    → PickedColumns bytes rows picks columns → ColumnsStand bytes picks columns all → (slots : List PlainSlot) × (slice_get all k ≡ Some slots) × HasOne bytes rows pick slots
one_of [] bytes rows k columns all pick at lie there picked stand = absurd (cc at)
one_of (p ∷ picks) bytes rows zero columns all pick at lie there (found, others, found_is, here, rest) (pages, more, first, later, columns_is, all_is, stands, behind) =
    let same : p ≡ pick = same_Some p pick at in
    let as_pages : found ≡ pages = (cons_parts found pages others more (sym found_is ∙ columns_is)).0 in (
      first,
      ap (λ (l : List (List PlainSlot)). slice_get l 0) all_is,
      subst (λ (q : Pick). HasOne bytes rows q first) same
          (record { lies = All-head (LiesRight bytes) p picks lie; there = All-head (IsThere bytes) p picks there; pages = pages; picked = subst (PickedColumn bytes rows p) as_pages here; stand = stands }),
    )
one_of (p ∷ picks) bytes rows (suc k) columns all pick at lie there (found, others, found_is, here, rest) (pages, more, first, later, columns_is, all_is, stands, behind) =
    let as_more : others ≡ more = (cons_parts found pages others more (sym found_is ∙ columns_is)).1 in
    let (slots, slots_at, one) = one_of picks bytes rows k more later pick at (All-tail (LiesRight bytes) p picks lie) (All-tail (IsThere bytes) p picks there) (subst (PickedColumns bytes rows picks) as_more rest) behind in
    (slots, ap (λ (l : List (List PlainSlot)). slice_get l (suc k)) all_is ∙ slots_at, one)

-- a column of a file by itself, below any top field
pub column_by_itself : (picks : List Pick) (bytes : List ℕ) (rows k column top : ℕ) (leaf : PlainLeaf) (all : List (List PlainSlot)) (slots : List PlainSlot) → slice_get picks k ≡ Some (record { column = column; leaf = below_top top leaf }) → slice_get all k ≡ Some slots
    → IsFileOf picks bytes rows all → IsFileOf (one_pick column leaf) bytes rows (slots ∷ [])
column_by_itself picks bytes rows k column top leaf all slots at slots_at file =
    let (found, found_at, one) = one_of picks bytes rows k file.columns all (record { column = column; leaf = below_top top leaf }) at file.head.whole.regions.columns file.head.whole.there file.head.columns_are file.stand in
    let same : found ≡ slots = same_Some found slots (sym found_at ∙ slots_at) in
    one_by_itself picks bytes rows all (record { column = column; leaf = leaf }) slots file (record {
      lies = one.lies;
      there = one.there;
      pages = one.pages;
      picked = record { pages_are = column_of top _ leaf _ one.pages one.picked.pages_are; rows_are = one.picked.rows_are };
      stand = subst (PagesStand bytes leaf one.pages) same (pages_stand top bytes leaf one.pages found one.stand);
    })
