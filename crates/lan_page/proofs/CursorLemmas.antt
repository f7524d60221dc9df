-- A reader of a column: what it asks, and what it lends.
use Rattle.std.proofs.Common.{◌≡◌, ◌==◌, ℕ, ◌+◌, ◌-◌, ◌<◌, ◌≤◌, Bool, false, cond, List, ◌∷◌, Option, Some, None, is_some, Result, Ok, Err, inl, inr, drop, slice_get, refl, ap, ap₂, sym, subst, ◌∙◌, arith}
use Rattle.std.specs.Prelude.{◌↔◌, IsTrue, Contains, IsSomeAnd, IfSome, IfErr}
use Rattle.std.proofs.lemmas.Bool.{lt-ltb, le-ltb, eq-eqb, ne_eqb, cases_lt}
use Rattle.lan_model.specs.declared.tree.Leaf.{Leaf}
use Rattle.lan_model.specs.Leaves.{PlainLeaf, plain_leaf}
use Rattle.lan_levels.specs.PlainSlots.{PlainSlot}
use Rattle.lan_levels.specs.SlotsOf.{lists_in}
use Rattle.lan_levels.specs.ZipRows.{slots_of_rows}
use Rattle.lan_store.specs.Budget.{Budget, nothing, plus, IsWithin}
use Rattle.lan_store.specs.Objects.{object}
use Rattle.lan_store.specs.declared.name.Name.{Name}
use Rattle.lan_store.specs.declared.name.Object.{Object}
use Rattle.lan_meta.specs.declared.page.PageMeta.{PageMeta}
use Rattle.lan_levels.specs.Stretch.{bytes_in, cover}
use Rattle.lan_page.specs.declared.fault.PageFault.{PageFault}
use Rattle.lan_page.specs.declared.fault.PageFault.TheVariants.{Outside, Store, Memory}
use Rattle.lan_page.specs.declared.fault.PageReason.TheVariants.{Missing, Short, Index, Content, Zip as ZipReason, Start, Rows}
use Rattle.lan_page.specs.Asking.{AnswersOf, index_budget, content_budget, first_len}
use Rattle.lan_page.specs.Giving.{FailsZip, RefusesRows}
use Rattle.lan_page.specs.Held.{held_buffers, held_run, first_of, HoldsPage}
use Rattle.lan_page.specs.ColumnCursors.{PlainCursor, cursor_name, cursor_leaf, cursor_pages, row_at, next_row, reach, IsCursor, Knows, AreRowsOf, AnswersRows, most_of, seek_most, LiesIn, ReadsSame, RefusesPage, RefusesColumn}
use Rattle.lan_page.specs.Columns.{AreSlotsOfRow}
use Rattle.lan_page.specs.PieceRows.{PlainRows, slots_at_hand}
use Rattle.lan_page.proofs.PageRows.{pages_from, page_of_column}
use Rattle.lan_page.proofs.RowPlaces.{row_within}

-- ---- what is asked

most_here : (known : Bool) (page : PageMeta) (pages : List PageMeta) (row : ℕ) → row < page.rows → most_of known (page ∷ pages) row ≡ plus (cond known nothing (index_budget page)) (content_budget page.buffers (first_len page.buffers))
most_here known page pages row less =
    ap (λ (b : Bool). let m : Budget = cond b (plus (cond known nothing (index_budget page)) (content_budget page.buffers (first_len page.buffers))) (most_of false pages (row - page.rows)) in m) (lt-ltb row page.rows less)

most_later : (known : Bool) (page : PageMeta) (pages : List PageMeta) (row : ℕ) → page.rows ≤ row → most_of known (page ∷ pages) row ≡ most_of false pages (row - page.rows)
most_later known page pages row le =
    ap (λ (b : Bool). let m : Budget = cond b (plus (cond known nothing (index_budget page)) (content_budget page.buffers (first_len page.buffers))) (most_of false pages (row - page.rows)) in m) (le-ltb row page.rows le)

-- of the page in which the row lies
pub most_found : (pages : List PageMeta) (k first row : ℕ) (known : Bool) (page : PageMeta) → slice_get pages k ≡ Some page → row < first + page.rows → first ≤ row
    → most_of known (drop k pages) (row - first) ≡ plus (cond known nothing (index_budget page)) (content_budget page.buffers (first_len page.buffers))
most_found pages k first row known page e less le = ap (λ (ps : List PageMeta). most_of known ps (row - first)) (pages_from pages k page e) ∙ most_here known page (drop (k + 1) pages) (row - first) (omega arith)

-- of a page before it
pub most_next : (pages : List PageMeta) (k first row : ℕ) (known : Bool) (page : PageMeta) → slice_get pages k ≡ Some page → first ≤ row → page.rows ≤ row - first
    → most_of known (drop k pages) (row - first) ≡ most_of false (drop (k + 1) pages) (row - (first + page.rows))
most_next pages k first row known page e le over =
    let less : row - first - page.rows ≡ row - (first + page.rows) = omega arith in
    ap (λ (ps : List PageMeta). most_of known ps (row - first)) (pages_from pages k page e) ∙ most_later known page (drop (k + 1) pages) (row - first) over ∙ ap (most_of false (drop (k + 1) pages)) less

pub known_still : (known : Bool) (n : ℕ) → cond (n == n) known false ≡ known
known_still known n = ap (λ (b : Bool). cond b known false) (eq-eqb n n refl)

pub known_at : (known : Bool) (m n : ℕ) → m ≡ n → cond (m == n) known false ≡ known
known_at known m n e = ap (λ (b : Bool). cond b known false) (eq-eqb m n e)

pub unknown_at : (known : Bool) (m n : ℕ) → (m ≡ n → ⊥) → cond (m == n) known false ≡ false
unknown_at known m n e = ap (λ (b : Bool). cond b known false) (ne_eqb m n e)

-- ---- why a row isn't had

pub page_refuses : (leaf : PlainLeaf) (pages : List PageMeta) (page : PageMeta) (held : Option (List ℕ)) (fault : PageFault) → Contains pages page → RefusesPage leaf page held fault → RefusesColumn leaf pages held fault
page_refuses leaf pages page held (Outside why place) is h = record { page = page; is_one = is; stands = h }
page_refuses leaf pages page held Store is h = tt
page_refuses leaf pages page held Memory is h = tt

pub index_refuses : {A : Type 0} (Holds : A → Type 0) (leaf : PlainLeaf) (page : PageMeta) (held : Option (List ℕ)) (fault : PageFault) → AnswersOf page held Holds (Err fault) → RefusesPage leaf page held fault
index_refuses {A} Holds leaf page held (Outside Missing place) h = h
index_refuses {A} Holds leaf page held (Outside Short place) h = h
index_refuses {A} Holds leaf page held (Outside (Index f) place) h = h
index_refuses {A} Holds leaf page held (Outside (Content n) place) h = h
index_refuses {A} Holds leaf page held (Outside (ZipReason f) place) h = absurd h
index_refuses {A} Holds leaf page held (Outside Start place) h = h
index_refuses {A} Holds leaf page held (Outside Rows place) h = h
index_refuses {A} Holds leaf page held Store h = tt
index_refuses {A} Holds leaf page held Memory h = tt

-- the bytes of a piece aren't the slots of its rows
pub piece_refuses : (leaf : PlainLeaf) (page : PageMeta) (held : Option (List ℕ)) (row past : ℕ) (bytes : List ℕ) (fault : PageFault) → row < past → past ≤ page.rows → bytes ≡ bytes_in (first_of (held_buffers page held)) (cover (held_run leaf page held) row past)
    → RefusesRows leaf page (past - row) bytes fault → RefusesPage leaf page held fault
piece_refuses leaf page held row past bytes (Outside Missing place) less le e h = absurd h
piece_refuses leaf page held row past bytes (Outside Short place) less le e h = absurd h
piece_refuses leaf page held row past bytes (Outside (Index f) place) less le e h = absurd h
piece_refuses leaf page held row past bytes (Outside (Content n) place) less le e h = absurd h
piece_refuses leaf page held row past bytes (Outside (ZipReason f) place) less le e h =
    record { row = row; past = past; some = less; within = le; fails = subst (λ (bs : List ℕ). FailsZip leaf page.layout (past - row) bs f) e h.0; at = h.1 }
piece_refuses leaf page held row past bytes (Outside Start place) less le e h = absurd h
piece_refuses leaf page held row past bytes (Outside Rows place) less le e h = absurd h
piece_refuses leaf page held row past bytes Store less le e h = absurd h
piece_refuses leaf page held row past bytes Memory less le e h = tt

-- ---- where a row lies

pub some_page : (o : Option PageMeta) (P : PageMeta → Type 0) → IsSomeAnd o P → (page : PageMeta) × (o ≡ Some page) × P page
some_page None P h = absurd h
some_page (Some page) P h = (page, refl, h)

-- ---- what is lent

pub row_is_lent : (c : PlainCursor) (r : PlainRows) (held : Option (List ℕ)) → IsCursor (plain_leaf c.leaf) c.pages c.page c.first c.rows → c.rows ≡ Some r → r.from ≤ r.row → r.row < r.past → Knows c held → AreSlotsOfRow (plain_leaf c.leaf) c.pages held (c.first + r.row) (slots_at_hand r)
row_is_lent c r held is e behind before knows all h =
    let lists = lists_in (plain_leaf c.leaf).layers in
    let are = subst (λ (o : Option PlainRows). IfSome o (λ (x : PlainRows). (x.lists ≡ lists_in (plain_leaf c.leaf).layers) × IsSomeAnd (slice_get c.pages c.page) (λ (p : PageMeta). x.past ≤ p.rows))) e is.rows_are in
    let page = some_page (slice_get c.pages c.page) (λ (p : PageMeta). r.past ≤ p.rows) are.1 in
    let within = page.2 in
    let q = page_of_column (plain_leaf c.leaf) c.pages held all c.page r.row page.0 is.rules h page.1 (omega arith) in
    let known = subst (λ (o : Option PlainRows). IfSome o (AreRowsOf (plain_leaf c.leaf) page.0 held q.slots)) e (knows.rows page.0 page.1 q.slots q.holds) in
    ap₂ (λ (n : ℕ) (xs : List PlainSlot). slots_of_rows n (r.row - r.from) (r.row - r.from + 1) xs) are.0 known.slots_are
    ∙ row_within lists r.from r.past r.row q.slots behind before
    ∙ q.same
    ∙ ap (λ (n : ℕ). slots_of_rows lists (n + r.row) (n + r.row + 1) all) (sym is.first_is)

pub run_is_lent : (c : PlainCursor) (r : PlainRows) (xs : List PlainSlot) (held : Option (List ℕ)) → IsCursor (plain_leaf c.leaf) c.pages c.page c.first c.rows → c.rows ≡ Some r → r.from ≤ r.row → r.row < r.past → xs ≡ slots_at_hand r → Knows c held
    → AreSlotsOfRow (cursor_leaf c) (cursor_pages c) held (next_row c) xs
run_is_lent c r xs held is e behind before same knows =
    subst (λ (o : Option PlainRows). AreSlotsOfRow (plain_leaf c.leaf) c.pages held (c.first + row_at o) xs) (sym e)
    (subst (AreSlotsOfRow (plain_leaf c.leaf) c.pages held (c.first + r.row)) (sym same) (row_is_lent c r held is e behind before knows))

-- ---- a row is sought

pub not_reached : (b : Bool) (row end : ℕ) → (IsTrue b ↔ (row < end)) → b ≡ false → end ≤ row
not_reached b row end h e = elim (cases_lt row end) [
  | inl less ↦ let t = h.1 less in absurd (cc)
  | inr ge ↦ ge
]

-- what is asked for a row behind the piece at hand, by the page to which the reader turns
pub seek_most_is : (c t : PlainCursor) (row : ℕ) (page : PageMeta) → reach c ≤ row → most_of (is_some c.index) (drop c.page c.pages) (row - c.first) ≡ most_of (is_some t.index) (drop t.page t.pages) (row - t.first) → LiesIn t.pages t.page t.first row → slice_get t.pages t.page ≡ Some page
    → seek_most c row ≡ plus (cond (is_some t.index) nothing (index_budget page)) (content_budget page.buffers (first_len page.buffers))
seek_most_is c t row page le turned lies e =
    let there = subst (λ (o : Option PageMeta). IsSomeAnd o (λ (p : PageMeta). row < t.first + p.rows)) e lies.before in
    ap (λ (b : Bool). let m : Budget = cond b nothing (most_of (is_some c.index) (drop c.page c.pages) (row - c.first)) in m) (le-ltb row (reach c) le)
    ∙ turned
    ∙ most_found t.pages t.page t.first row (is_some t.index) page e there lies.behind

pub more_within : (a b m : Budget) → m ≡ plus a b → IsWithin a m
more_within a b m e = let x = ap (λ (n : Budget). n.ranges) e in let y = ap (λ (n : Budget). n.bytes) e in record { ranges = omega arith; bytes = omega arith }

-- the page's rows are what was read
pub knows_read : (c : PlainCursor) (held : Option (List ℕ)) (page : PageMeta) (r : PlainRows) → slice_get c.pages c.page ≡ Some page → Knows c held → AnswersRows (cursor_leaf c) page held (Ok r) → Knows (record c { rows = Some r }) held
knows_read c held page r e k a = record {
  index = k.index;
  rows = λ p at slots h. let same : page ≡ p = cc in subst (λ (q : PageMeta). (xs : List PlainSlot) → HoldsPage (cursor_leaf c) q held xs → AreRowsOf (cursor_leaf c) q held xs r) same a slots h;
}

pub refuses_same : {A : Type 0} (result : Result A PageFault) (a b : PlainCursor) (all : List Object) → ReadsSame a b → IfErr result (RefusesColumn (cursor_leaf b) (cursor_pages b) (object all (cursor_name b))) → IfErr result (RefusesColumn (cursor_leaf a) (cursor_pages a) (object all (cursor_name a)))
refuses_same {A} result a b all s h =
    subst (λ (n : Name). IfErr result (RefusesColumn (plain_leaf a.leaf) a.pages (object all n))) s.name
    (subst (λ (ps : List PageMeta). IfErr result (RefusesColumn (plain_leaf a.leaf) ps (object all b.name))) s.pages (subst (λ (l : Leaf). IfErr result (RefusesColumn (plain_leaf l) b.pages (object all b.name))) s.leaf h))

pub reads_then : (a b c : PlainCursor) → ReadsSame a b → ReadsSame b c → ReadsSame a c
reads_then a b c h k = record { name = k.name ∙ h.name; leaf = k.leaf ∙ h.leaf; pages = k.pages ∙ h.pages }
