-- A file that is written of pages which stand for slots is a file of these slots, and bytes are a file of one list of them.
use Rattle.std.proofs.Common.{◌≡◌, sym, ◌∙◌, subst, ℕ, zero, suc, ◌^◌, ◌<◌, List, [], ◌∷◌, ◌++◌, length}
use Rattle.std.specs.Prelude.{Some, slice_get}
use Rattle.lan_levels.specs.PlainSlots.{PlainSlot}
use Rattle.lan_model.specs.Leaves.{PlainLeaf}
use Rattle.lan_model.specs.Plain.{PlainFields}
use Rattle.lan_meta.specs.declared.page.BuiltPage.{BuiltPage}
use Rattle.lan_meta.specs.declared.page.PageMeta.{PageMeta}
use Rattle.lan_meta.specs.PageOf.{IsPage, buffers_in}
use Rattle.lan_meta.proofs.LawTerms.{one_list}
use Rattle.lan_file.specs.FileOf.{PagesStand, ColumnsStand, IsFileOf, AreWritten, BuiltStand, AreBuilt}
use Rattle.lan_file.specs.FileText.{with_buffers, places_behind, with_pages, page_behind, pages_behind, with_columns, columns_behind, file_text}
use Rattle.lan_file.specs.Heads.{Pick}
use Rattle.lan_file.proofs.FileBack.{buffers_there, pages_grown, columns_grown, file_back, file_grown}
use Rattle.lan_file.proofs.FileLaid.{Grown, grown_then}
use Rattle.lan_file.proofs.HeadLaws.{one_head}

-- ---- pages that stand for slots do so in the file

page_stands : (leaf : PlainLeaf) (before : List ℕ) (page : BuiltPage) (file : List ℕ) (slots : List PlainSlot) → Grown (with_buffers before page.buffers) file → IsPage leaf (page_behind [] page) page.buffers slots
    → IsPage leaf (page_behind before page) (buffers_in file (places_behind before page.buffers)) slots
page_stands leaf before page file slots g is =
    let there : IsPage leaf (page_behind before page) page.buffers slots = record { laid = is.laid; count = is.count; rows_are = is.rows_are } in
    subst (λ (buffers : List (List ℕ)). IsPage leaf (page_behind before page) buffers slots) (sym (buffers_there before page.buffers file g)) there

pages_stand : (leaf : PlainLeaf) (before : List ℕ) (pages : List BuiltPage) (file : List ℕ) (slots : List PlainSlot) → Grown (with_pages before pages) file → BuiltStand leaf pages slots → PagesStand file leaf (pages_behind before pages) slots
pages_stand leaf before [] file slots g stand = stand
pages_stand leaf before (p ∷ ps) file slots g stand =
    let next = with_buffers before p.buffers in
    (stand.0, stand.1, stand.2, page_stands leaf before p file stand.0 (grown_then next (with_pages next ps) file (pages_grown next ps) g) stand.3, pages_stand leaf next ps file stand.1 g stand.4)

column_stands : (leaf : PlainLeaf) (before : List ℕ) (columns : List (List BuiltPage)) (n : ℕ) (built : List BuiltPage) (pages : List PageMeta) (file : List ℕ) (slots : List PlainSlot) → Grown (with_columns before columns) file → slice_get columns n ≡ Some built
    → slice_get (columns_behind before columns) n ≡ Some pages → BuiltStand leaf built slots → PagesStand file leaf pages slots
column_stands leaf before [] n built pages file slots g is there stand = absurd (cc is)
column_stands leaf before (c ∷ cs) zero built pages file slots g is there stand =
    let next = with_pages before c in
    let same : c ≡ built = cc in
    let placed : pages_behind before c ≡ pages = cc in
    let first : BuiltStand leaf c slots = subst (λ (b : List BuiltPage). BuiltStand leaf b slots) (sym same) stand in
    subst (λ (ps : List PageMeta). PagesStand file leaf ps slots) placed (pages_stand leaf before c file slots (grown_then next (with_columns next cs) file (columns_grown next cs) g) first)
column_stands leaf before (c ∷ cs) (suc n) built pages file slots g is there stand = column_stands leaf (with_pages before c) cs n built pages file slots g is there stand

columns_stand : (file : List ℕ) (rows : ℕ) (columns : List (List BuiltPage)) (picks : List Pick) (found : List (List PageMeta)) (slots : List (List PlainSlot)) → Grown (with_columns [] columns) file → AreWritten rows columns picks found → AreBuilt columns picks slots
    → ColumnsStand file picks found slots
columns_stand file rows columns [] found slots g w b = (w, b)
columns_stand file rows columns (pick ∷ picks) found slots g w b = (
  w.0,
  w.1,
  b.0,
  b.1,
  w.2,
  b.2,
  column_stands pick.leaf [] columns pick.column b.3.pages w.0 file b.0 g b.3.there w.3.there b.3.stand,
  columns_stand file rows columns picks w.1 b.1 g w.4 b.4,
)

pub file_stands : (fields : PlainFields ℕ) (rows : ℕ) (columns : List (List BuiltPage)) (picks : List Pick) (found : List (List PageMeta)) (slots : List (List PlainSlot)) → rows < 2 ^ 64 → length columns < 2 ^ 32 → length (file_text fields rows columns) < 2 ^ 64
    → AreWritten rows columns picks found → AreBuilt columns picks slots → IsFileOf picks (file_text fields rows columns) rows slots
file_stands fields rows columns picks found slots few few_columns small w b = record {
  columns = found;
  head = file_back fields rows columns picks found few few_columns small w;
  stand = columns_stand (file_text fields rows columns) rows columns picks found slots (file_grown fields rows columns) w b;
}

-- ---- bytes are a file of one list of slots

one_pages : (bytes : List ℕ) (leaf : PlainLeaf) (pages : List PageMeta) (xs ys : List PlainSlot) → PagesStand bytes leaf pages xs → PagesStand bytes leaf pages ys → xs ≡ ys
one_pages bytes leaf [] xs ys p q = p ∙ sym q
one_pages bytes leaf (page ∷ pages) xs ys p q =
    let first : p.0 ≡ q.0 = one_list leaf page (buffers_in bytes page.buffers) p.0 q.0 p.3 q.3 in
    let later : p.1 ≡ q.1 = one_pages bytes leaf pages p.1 q.1 p.4 q.4 in
    p.2 ∙ (λ i. first i ++ later i) ∙ sym q.2

same_cons : {X : Type 0} (x y : X) (xs ys : List X) → x ≡ y → xs ≡ ys → x ∷ xs ≡ y ∷ ys
same_cons {X} x y xs ys p q = λ i. p i ∷ q i

one_columns : (bytes : List ℕ) (picks : List Pick) (cs ds : List (List PageMeta)) (xs ys : List (List PlainSlot)) → cs ≡ ds → ColumnsStand bytes picks cs xs → ColumnsStand bytes picks ds ys → xs ≡ ys
one_columns bytes [] cs ds xs ys e p q = p.1 ∙ sym q.1
one_columns bytes (pick ∷ picks) cs ds xs ys e p q =
    let whole : p.0 ∷ p.1 ≡ q.0 ∷ q.1 = sym p.4 ∙ e ∙ q.4 in
    let pages : p.0 ≡ q.0 = cc in
    let more : p.1 ≡ q.1 = cc in
    let here : PagesStand bytes pick.leaf q.0 p.2 = subst (λ (ps : List PageMeta). PagesStand bytes pick.leaf ps p.2) pages p.6 in
    p.5 ∙ same_cons p.2 q.2 p.3 q.3 (one_pages bytes pick.leaf q.0 p.2 q.2 here q.6) (one_columns bytes picks p.1 q.1 p.3 q.3 more p.7 q.7) ∙ sym q.5

pub one_file : (picks : List Pick) (bytes : List ℕ) (m n : ℕ) (xs ys : List (List PlainSlot)) → IsFileOf picks bytes m xs → IsFileOf picks bytes n ys → (m ≡ n) × (xs ≡ ys)
one_file picks bytes m n xs ys p q =
    let same = one_head picks bytes m n p.columns q.columns p.head q.head in
    (same.0, one_columns bytes picks p.columns q.columns xs ys same.1 p.stand q.stand)
