-- What a step of a reader of a column takes off what is still due.
use Rattle.std.proofs.Common.{◌≡◌, ℕ, zero, suc, ◌+◌, ◌-◌, ◌<◌, ◌≤◌, Bool, true, false, ◌&&◌, cond, List, [], ◌∷◌, Option, Some, None, is_some, IsSome, Result, Ok, Err, OnOk, take, drop, slice_get, refl, ap, ap₂, sym, subst, ◌∙◌, arith}
use Rattle.std.specs.Prelude.{nat_le, nat_lt, IsSomeAnd}
use Rattle.std.proofs.lemmas.List.{drop-drop, drop-take, take-take}
use Rattle.std.proofs.lemmas.Bool.{lt-ltb, le-leb, lt-leb}
use Rattle.std.proofs.lemmas.List.Sums.{sum_by-cons, sum_by-take-drop}
use Rattle.lan_model.specs.declared.range.Range.{Range}
use Rattle.lan_model.specs.declared.tree.Leaf.{Leaf}
use Rattle.lan_model.specs.Leaves.{PlainLeaf, plain_leaf}
use Rattle.lan_levels.specs.Past.{past}
use Rattle.lan_levels.specs.Pieces.{piece, pieces_from}
use Rattle.lan_levels.specs.PlainSlots.{PlainSlot}
use Rattle.lan_levels.specs.Stretch.{Stretch, size}
use Rattle.lan_index.proofs.PieceLemmas.{pieces_skip, pieces_take}
use Rattle.lan_store.specs.Budget.{Budget, nothing, plus, IsWithin, Asks, Spends, unless_refused}
use Rattle.lan_store.specs.Telling.{Telling}
use Rattle.lan_store.proofs.LawTerms.{spends_step}
use Rattle.lan_meta.specs.declared.page.PageMeta.{PageMeta}
use Rattle.lan_page.specs.declared.fault.PageFault.{PageFault}
use Rattle.lan_page.specs.Asking.{index_budget, content_budget, piece_budget}
use Rattle.lan_page.specs.ColumnBudgets.{parts_due, index_due, rows_in, page_due, pages_due, still_due}
use Rattle.lan_page.specs.ColumnCursors.{PlainCursor, cursor_leaf, row_past, reach, ReadsSame, StaysAt, StaysIn, LiesIn}
use Rattle.lan_page.specs.Columns.{rows_of, HoldsPages}
use Rattle.lan_page.specs.Held.{held_run, HoldsPage}
use Rattle.lan_page.proofs.CursorLemmas.{some_page}
use Rattle.lan_page.proofs.PageRows.{pages_from}

-- ---- by the definitions

parts_more : (bs : List Range) (s : Stretch) (parts : List Stretch) → parts_due bs (s ∷ parts) ≡ plus (content_budget bs (size s)) (parts_due bs parts)
unfolding parts_due
parts_more bs s parts = refl

due_none : (leaf : PlainLeaf) (held : Option (List ℕ)) (first : ℕ) (known : Bool) (q : ℕ) (kept : List ℕ) → pages_due leaf held [] first known q kept ≡ nothing
unfolding pages_due
due_none leaf held first known q kept = refl

pub due_more : (leaf : PlainLeaf) (held : Option (List ℕ)) (page : PageMeta) (pages : List PageMeta) (first : ℕ) (known : Bool) (q : ℕ) (kept : List ℕ)
    → pages_due leaf held (page ∷ pages) first known q kept ≡ plus (page_due leaf page held known q (rows_in first page.rows kept)) (pages_due leaf held pages (first + page.rows) false 0 kept)
unfolding pages_due
due_more leaf held page pages first known q kept = refl

row_test : (first rows row : ℕ) (kept : List ℕ) → rows_in first rows (row ∷ kept) ≡ cond (nat_le first row && nat_lt row (first + rows)) ((row - first) ∷ rows_in first rows kept) (rows_in first rows kept)
unfolding rows_in
row_test first rows row kept = refl

-- ---- budgets

pub same_within : (a : Budget) → IsWithin a a
same_within a = record { ranges = omega arith; bytes = omega arith }

behind : (a b c : Budget) → IsWithin a b → IsWithin a (plus c b)
behind a b c h = let x = h.ranges in let y = h.bytes in record { ranges = omega arith; bytes = omega arith }

-- ---- rows in pages

rows_has : (first rows row : ℕ) (kept : List ℕ) → first ≤ row → row < first + rows → rows_in first rows (row ∷ kept) ≡ (row - first) ∷ rows_in first rows kept
rows_has first rows row kept le less =
    row_test first rows row kept ∙ ap₂ (λ (a b : Bool). let xs : List ℕ = cond (a && b) ((row - first) ∷ rows_in first rows kept) (rows_in first rows kept) in xs) (le-leb first row le) (lt-ltb row (first + rows) less)

rows_not : (first rows row : ℕ) (kept : List ℕ) → row < first → rows_in first rows (row ∷ kept) ≡ rows_in first rows kept
rows_not first rows row kept less =
    row_test first rows row kept ∙ ap (λ (a : Bool). let xs : List ℕ = cond (a && nat_lt row (first + rows)) ((row - first) ∷ rows_in first rows kept) (rows_in first rows kept) in xs) (lt-leb first row less)

-- pages that begin behind a row have nothing of it
due_behind : (leaf : PlainLeaf) (held : Option (List ℕ)) (pages : List PageMeta) (first : ℕ) (known : Bool) (q row : ℕ) (kept : List ℕ) → row < first → pages_due leaf held pages first known q (row ∷ kept) ≡ pages_due leaf held pages first known q kept
due_behind leaf held [] first known q row kept less = due_none leaf held first known q (row ∷ kept) ∙ sym (due_none leaf held first known q kept)
due_behind leaf held (page ∷ pages) first known q row kept less =
    due_more leaf held page pages first known q (row ∷ kept)
    ∙ ap₂ (λ (xs : List ℕ) (b : Budget). plus (page_due leaf page held known q xs) b) (rows_not first page.rows row kept less) (due_behind leaf held pages (first + page.rows) false 0 row kept (omega arith))
    ∙ sym (due_more leaf held page pages first known q kept)

due_here : (leaf : PlainLeaf) (held : Option (List ℕ)) (page : PageMeta) (pages : List PageMeta) (first : ℕ) (known : Bool) (q row : ℕ) (kept : List ℕ) → first ≤ row → row < first + page.rows
    → pages_due leaf held (page ∷ pages) first known q (row ∷ kept) ≡ plus (page_due leaf page held known q ((row - first) ∷ rows_in first page.rows kept)) (pages_due leaf held pages (first + page.rows) false 0 kept)
due_here leaf held page pages first known q row kept le less =
    due_more leaf held page pages first known q (row ∷ kept)
    ∙ ap₂ (λ (xs : List ℕ) (b : Budget). plus (page_due leaf page held known q xs) b) (rows_has first page.rows row kept le less) (due_behind leaf held pages (first + page.rows) false 0 row kept less)

-- a step in the page at hand is a step of the whole
pub step_here : (leaf : PlainLeaf) (held : Option (List ℕ)) (pages rest : List PageMeta) (page : PageMeta) (first : ℕ) (known now : Bool) (q p row : ℕ) (kept : List ℕ) (most : Budget) → pages ≡ page ∷ rest → first ≤ row → row < first + page.rows
    → IsWithin (plus most (page_due leaf page held now p (rows_in first page.rows kept))) (page_due leaf page held known q ((row - first) ∷ rows_in first page.rows kept))
    → IsWithin (plus most (pages_due leaf held pages first now p kept)) (pages_due leaf held pages first known q (row ∷ kept))
step_here leaf held pages rest page first known now q p row kept most e le less h =
    let later = pages_due leaf held rest (first + page.rows) false 0 kept in
    let a : pages_due leaf held pages first now p kept ≡ plus (page_due leaf page held now p (rows_in first page.rows kept)) later = ap (λ (ps : List PageMeta). pages_due leaf held ps first now p kept) e ∙ due_more leaf held page rest first now p kept in
    let b : pages_due leaf held pages first known q (row ∷ kept) ≡ plus (page_due leaf page held known q ((row - first) ∷ rows_in first page.rows kept)) later =
    ap (λ (ps : List PageMeta). pages_due leaf held ps first known q (row ∷ kept)) e ∙ due_here leaf held page rest first known q row kept le less in
    let x = h.ranges in
    let y = h.bytes in
    let w : IsWithin (plus most (plus (page_due leaf page held now p (rows_in first page.rows kept)) later)) (plus (page_due leaf page held known q ((row - first) ∷ rows_in first page.rows kept)) later) = record { ranges = omega arith; bytes = omega arith } in
    subst (IsWithin (plus most (pages_due leaf held pages first now p kept))) (sym b) (subst (λ (x : Budget). IsWithin (plus most x) (plus (page_due leaf page held known q ((row - first) ∷ rows_in first page.rows kept)) later)) (sym a) w)

-- a change of what is known of the page at hand, with the row still to come
pub turn_here : (leaf : PlainLeaf) (held : Option (List ℕ)) (pages rest : List PageMeta) (page : PageMeta) (first : ℕ) (known now : Bool) (q p row : ℕ) (kept : List ℕ) (most : Budget) → pages ≡ page ∷ rest → first ≤ row → row < first + page.rows
    → IsWithin (plus most (page_due leaf page held now p ((row - first) ∷ rows_in first page.rows kept))) (page_due leaf page held known q ((row - first) ∷ rows_in first page.rows kept))
    → IsWithin (plus most (pages_due leaf held pages first now p (row ∷ kept))) (pages_due leaf held pages first known q (row ∷ kept))
turn_here leaf held pages rest page first known now q p row kept most e le less h =
    let later = pages_due leaf held rest (first + page.rows) false 0 kept in
    let there = (row - first) ∷ rows_in first page.rows kept in
    let a : pages_due leaf held pages first now p (row ∷ kept) ≡ plus (page_due leaf page held now p there) later = ap (λ (ps : List PageMeta). pages_due leaf held ps first now p (row ∷ kept)) e ∙ due_here leaf held page rest first now p row kept le less in
    let b : pages_due leaf held pages first known q (row ∷ kept) ≡ plus (page_due leaf page held known q there) later = ap (λ (ps : List PageMeta). pages_due leaf held ps first known q (row ∷ kept)) e ∙ due_here leaf held page rest first known q row kept le less in
    let x = h.ranges in
    let y = h.bytes in
    let w : IsWithin (plus most (plus (page_due leaf page held now p there) later)) (plus (page_due leaf page held known q there) later) = record { ranges = omega arith; bytes = omega arith } in
    subst (IsWithin (plus most (pages_due leaf held pages first now p (row ∷ kept)))) (sym b) (subst (λ (x : Budget). IsWithin (plus most x) (plus (page_due leaf page held known q there) later)) (sym a) w)

-- ---- steps in a page

less_index : (known : Bool) (page : PageMeta) (row : ℕ) (kept : List ℕ) → IsWithin (index_due known page kept) (index_due known page (row ∷ kept))
less_index known page row [] = record { ranges = omega arith; bytes = omega arith }
less_index known page row (x ∷ kept) = same_within (cond known nothing (index_budget page))

-- a row in memory
pub page_skip : (leaf : PlainLeaf) (page : PageMeta) (held : Option (List ℕ)) (known : Bool) (q row : ℕ) (kept : List ℕ) → row < q → IsWithin (plus nothing (page_due leaf page held known q kept)) (page_due leaf page held known q (row ∷ kept))
page_skip leaf page held known q row kept less =
    let same = ap (parts_due page.buffers) (pieces_skip (held_run leaf page held) page.rows q row kept less) in
    let w = less_index known page row kept in
    let x = w.ranges in
    let y = w.bytes in
    let pr = ap (λ (b : Budget). b.ranges) same in
    let pb = ap (λ (b : Budget). b.bytes) same in
    record { ranges = omega arith; bytes = omega arith }

-- the index is asked
pub page_opens : (leaf : PlainLeaf) (page : PageMeta) (held : Option (List ℕ)) (known : Bool) (q row : ℕ) (kept : List ℕ) → IsWithin (plus (cond known nothing (index_budget page)) (page_due leaf page held true q (row ∷ kept))) (page_due leaf page held known q (row ∷ kept))
page_opens leaf page held known q row kept = record { ranges = omega arith; bytes = omega arith }

known_none : (page : PageMeta) (kept : List ℕ) → index_due true page kept ≡ nothing
known_none page [] = refl
known_none page (x ∷ kept) = refl

-- a piece is asked
pub page_reads : (leaf : PlainLeaf) (page : PageMeta) (held : Option (List ℕ)) (row : ℕ) (kept : List ℕ)
    → IsWithin (plus (content_budget page.buffers (size (piece (held_run leaf page held) page.rows row))) (page_due leaf page held true (past (held_run leaf page held) page.rows row) kept)) (page_due leaf page held true 0 (row ∷ kept))
page_reads leaf page held row kept =
    let r = held_run leaf page held in
    let same : parts_due page.buffers (pieces_from r page.rows 0 (row ∷ kept)) ≡ plus (content_budget page.buffers (size (piece r page.rows row))) (parts_due page.buffers (pieces_from r page.rows (past r page.rows row) kept)) =
    ap (parts_due page.buffers) (pieces_take r page.rows 0 row kept (omega arith)) ∙ parts_more page.buffers (piece r page.rows row) (pieces_from r page.rows (past r page.rows row) kept) in
    let none = known_none page kept in
    let nr = ap (λ (b : Budget). b.ranges) none in
    let nb = ap (λ (b : Budget). b.bytes) none in
    let pr = ap (λ (b : Budget). b.ranges) same in
    let pb = ap (λ (b : Budget). b.bytes) same in
    record { ranges = omega arith; bytes = omega arith }

-- the piece at hand is let go for a row behind it
pub page_lets : (leaf : PlainLeaf) (page : PageMeta) (held : Option (List ℕ)) (known : Bool) (q row : ℕ) (kept : List ℕ) → q ≤ row → IsWithin (plus nothing (page_due leaf page held known 0 (row ∷ kept))) (page_due leaf page held known q (row ∷ kept))
page_lets leaf page held known q row kept le =
    let r = held_run leaf page held in
    let same = ap (parts_due page.buffers) (pieces_take r page.rows 0 row kept (omega arith) ∙ sym (pieces_take r page.rows q row kept le)) in
    let pr = ap (λ (b : Budget). b.ranges) same in
    let pb = ap (λ (b : Budget). b.bytes) same in
    record { ranges = omega arith; bytes = omega arith }

-- ---- later pages

due_later : (leaf : PlainLeaf) (held : Option (List ℕ)) (pages : List PageMeta) (n first : ℕ) (known : Bool) (q : ℕ) (kept : List ℕ)
    → IsWithin (pages_due leaf held (drop (suc n) pages) (first + rows_of (take (suc n) pages)) false 0 kept) (pages_due leaf held pages first known q kept)
due_later leaf held [] n first known q kept =
    let a = due_none leaf held (first + 0) false 0 kept in
    let ar = ap (λ (b : Budget). b.ranges) a in
    let ab = ap (λ (b : Budget). b.bytes) a in
    record { ranges = omega arith; bytes = omega arith }
due_later leaf held (page ∷ pages) zero first known q kept =
    let only : rows_of (page ∷ []) ≡ page.rows = omega arith in
    let here = due_more leaf held page pages first known q kept in
    subst (IsWithin (pages_due leaf held pages (first + rows_of (page ∷ [])) false 0 kept)) (sym here)
    (behind (pages_due leaf held pages (first + rows_of (page ∷ [])) false 0 kept) (pages_due leaf held pages (first + page.rows) false 0 kept) (page_due leaf page held known q (rows_in first page.rows kept))
    (subst (λ (m : ℕ). IsWithin (pages_due leaf held pages (first + m) false 0 kept) (pages_due leaf held pages (first + page.rows) false 0 kept)) (sym only) (same_within (pages_due leaf held pages (first + page.rows) false 0 kept))))
due_later leaf held (page ∷ pages) (suc m) first known q kept =
    let here = due_more leaf held page pages first known q kept in
    let inner = due_later leaf held pages m (first + page.rows) false 0 kept in
    let count = sum_by-cons (λ (p : PageMeta). p.rows) page (take (suc m) pages) in
    let place : first + page.rows + rows_of (take (suc m) pages) ≡ first + rows_of (page ∷ take (suc m) pages) = omega arith in
    subst (IsWithin (pages_due leaf held (drop (suc m) pages) (first + rows_of (page ∷ take (suc m) pages)) false 0 kept)) (sym here)
    (behind (pages_due leaf held (drop (suc m) pages) (first + rows_of (page ∷ take (suc m) pages)) false 0 kept) (pages_due leaf held pages (first + page.rows) false 0 kept) (page_due leaf page held known q (rows_in first page.rows kept))
    (subst (λ (n : ℕ). IsWithin (pages_due leaf held (drop (suc m) pages) n false 0 kept) (pages_due leaf held pages (first + page.rows) false 0 kept)) place inner))

rows_split : (pages : List PageMeta) (k n : ℕ) → rows_of (take (k + n) pages) ≡ rows_of (take k pages) + rows_of (take n (drop k pages))
rows_split pages k n =
    let f = λ (p : PageMeta). p.rows in
    let front = ap rows_of (take-take k (k + n) pages (omega arith)) in
    let back = ap rows_of (drop-take k n pages) in
    let whole = sum_by-take-drop f (take (k + n) pages) k in
    omega arith

-- the reader turns to a later page
pub due_turned : (leaf : PlainLeaf) (held : Option (List ℕ)) (pages : List PageMeta) (k m first last : ℕ) (known : Bool) (q : ℕ) (kept : List ℕ) → k < m → first ≡ rows_of (take k pages) → last ≡ rows_of (take m pages)
    → IsWithin (pages_due leaf held (drop m pages) last false 0 kept) (pages_due leaf held (drop k pages) first known q kept)
due_turned leaf held pages k m first last known q kept less e f =
    let n = m - k - 1 in
    let count : k + suc n ≡ m = omega arith in
    let there : drop (suc n) (drop k pages) ≡ drop m pages = drop-drop (suc n) k pages ∙ ap (λ (x : ℕ). drop x pages) count in
    let split = rows_split pages k (suc n) in
    let same = ap (λ (x : ℕ). rows_of (take x pages)) count in
    let begins : first + rows_of (take (suc n) (drop k pages)) ≡ last = omega arith in
    subst (λ (ps : List PageMeta). IsWithin (pages_due leaf held ps last false 0 kept) (pages_due leaf held (drop k pages) first known q kept)) there
    (subst (λ (x : ℕ). IsWithin (pages_due leaf held (drop (suc n) (drop k pages)) x false 0 kept) (pages_due leaf held (drop k pages) first known q kept)) begins (due_later leaf held (drop k pages) n first known q kept))

-- ---- steps of a reader

pub due_same : (c : PlainCursor) (held : Option (List ℕ)) (kept : List ℕ) (leaf : Leaf) (pages : List PageMeta) (page first : ℕ) (known : Bool) (q : ℕ) → c.leaf ≡ leaf → c.pages ≡ pages → c.page ≡ page → c.first ≡ first → is_some c.index ≡ known → row_past c.rows ≡ q
    → still_due c held kept ≡ pages_due (plain_leaf leaf) held (drop page pages) first known q kept
due_same c held kept leaf pages page first known q a b d e f h = λ i. pages_due (plain_leaf (a i)) held (drop (d i) (b i)) (e i) (f i) (h i) kept

lies_before : (pages : List PageMeta) (k first row : ℕ) (page : PageMeta) → slice_get pages k ≡ Some page → LiesIn pages k first row → row < first + page.rows
lies_before pages k first row page e lies = subst (λ (o : Option PageMeta). IsSomeAnd o (λ (p : PageMeta). row < first + p.rows)) e lies.before

pub one_page : (pages : List PageMeta) (k first row : ℕ) → LiesIn pages k first row → (page : PageMeta) × (slice_get pages k ≡ Some page)
one_page pages k first row lies = let p = some_page (slice_get pages k) (λ (p : PageMeta). row < first + p.rows) lies.before in (p.0, p.1)

-- a row in memory is sought
pub due_advanced : (c n : PlainCursor) (held : Option (List ℕ)) (row : ℕ) (kept : List ℕ) → ReadsSame c n → StaysIn c n → LiesIn c.pages c.page c.first row → row < reach c → IsWithin (plus nothing (still_due n held kept)) (still_due c held (row ∷ kept))
due_advanced c n held row kept same stays lies less =
    let page = one_page c.pages c.page c.first row lies in
    let before = lies_before c.pages c.page c.first row page.0 page.1 lies in
    let behind = lies.behind in
    let after = due_same n held kept c.leaf c.pages c.page c.first (is_some c.index) (row_past c.rows) same.leaf same.pages stays.page stays.first (ap (λ (o : Option (List ℕ)). is_some o) stays.index) stays.past in
    subst (λ (b : Budget). IsWithin (plus nothing b) (still_due c held (row ∷ kept))) (sym after)
    (step_here (cursor_leaf c) held (drop c.page c.pages) (drop (c.page + 1) c.pages) page.0 c.first (is_some c.index) (is_some c.index) (row_past c.rows) (row_past c.rows) row kept nothing (pages_from c.pages c.page page.0 page.1) behind before
    (page_skip (cursor_leaf c) page.0 held (is_some c.index) (row_past c.rows) (row - c.first) (rows_in c.first page.0.rows kept) (omega arith)))

-- the piece at hand is let go
pub due_let : (c n : PlainCursor) (held : Option (List ℕ)) (row : ℕ) (kept : List ℕ) → ReadsSame c n → n.page ≡ c.page → n.first ≡ c.first → n.index ≡ c.index → n.rows ≡ None → LiesIn c.pages c.page c.first row → reach c ≤ row
    → IsWithin (plus nothing (still_due n held (row ∷ kept))) (still_due c held (row ∷ kept))
due_let c n held row kept same at first index none lies le =
    let page = one_page c.pages c.page c.first row lies in
    let before = lies_before c.pages c.page c.first row page.0 page.1 lies in
    let behind = lies.behind in
    let after = due_same n held (row ∷ kept) c.leaf c.pages c.page c.first (is_some c.index) 0 same.leaf same.pages at first (ap (λ (o : Option (List ℕ)). is_some o) index) (ap row_past none) in
    subst (λ (b : Budget). IsWithin (plus nothing b) (still_due c held (row ∷ kept))) (sym after)
    (turn_here (cursor_leaf c) held (drop c.page c.pages) (drop (c.page + 1) c.pages) page.0 c.first (is_some c.index) (is_some c.index) (row_past c.rows) 0 row kept nothing (pages_from c.pages c.page page.0 page.1) behind before
    (page_lets (cursor_leaf c) page.0 held (is_some c.index) (row_past c.rows) (row - c.first) (rows_in c.first page.0.rows kept) (omega arith)))

-- the index is fetched
pub due_opened : (t o : PlainCursor) (held : Option (List ℕ)) (row : ℕ) (kept : List ℕ) (page : PageMeta) → ReadsSame t o → StaysAt t o → IsSome o.index → t.rows ≡ None → slice_get t.pages t.page ≡ Some page → LiesIn t.pages t.page t.first row
    → IsWithin (plus (cond (is_some t.index) nothing (index_budget page)) (still_due o held (row ∷ kept))) (still_due t held (row ∷ kept))
due_opened t o held row kept page same stays known none e lies =
    let before = lies_before t.pages t.page t.first row page e lies in
    let behind = lies.behind in
    let asked = cond (is_some t.index) nothing (index_budget page) in
    let after = due_same o held (row ∷ kept) t.leaf t.pages t.page t.first true 0 same.leaf same.pages stays.page stays.first known (ap row_past stays.rows) in
    let first = due_same t held (row ∷ kept) t.leaf t.pages t.page t.first (is_some t.index) 0 refl refl refl refl refl (ap row_past none) in
    let step = turn_here (cursor_leaf t) held (drop t.page t.pages) (drop (t.page + 1) t.pages) page t.first (is_some t.index) true 0 0 row kept asked (pages_from t.pages t.page page e) behind before
    (page_opens (cursor_leaf t) page held (is_some t.index) 0 (row - t.first) (rows_in t.first page.rows kept)) in
    subst (λ (b : Budget). IsWithin (plus asked b) (still_due t held (row ∷ kept))) (sym after)
    (subst (IsWithin (plus asked (pages_due (cursor_leaf t) held (drop t.page t.pages) t.first true 0 (row ∷ kept)))) (sym first) step)

-- and where that is refused, no more is due
pub index_within : (t : PlainCursor) (held : Option (List ℕ)) (row : ℕ) (kept : List ℕ) (page : PageMeta) → t.rows ≡ None → slice_get t.pages t.page ≡ Some page → LiesIn t.pages t.page t.first row → IsWithin (plus (cond (is_some t.index) nothing (index_budget page)) nothing) (still_due t held (row ∷ kept))
index_within t held row kept page none e lies =
    let before = lies_before t.pages t.page t.first row page e lies in
    let behind = lies.behind in
    let asked = cond (is_some t.index) nothing (index_budget page) in
    let first = due_same t held (row ∷ kept) t.leaf t.pages t.page t.first (is_some t.index) 0 refl refl refl refl refl (ap row_past none) in
    let step = turn_here (cursor_leaf t) held (drop t.page t.pages) (drop (t.page + 1) t.pages) page t.first (is_some t.index) true 0 0 row kept asked (pages_from t.pages t.page page e) behind before
    (page_opens (cursor_leaf t) page held (is_some t.index) 0 (row - t.first) (rows_in t.first page.rows kept)) in
    let x = step.ranges in
    let y = step.bytes in
    let fr = ap (λ (b : Budget). b.ranges) first in
    let fb = ap (λ (b : Budget). b.bytes) first in
    record { ranges = omega arith; bytes = omega arith }

-- the piece is fetched
pub due_read : (o : PlainCursor) (held : Option (List ℕ)) (row : ℕ) (kept : List ℕ) (page : PageMeta) → IsSome o.index → o.rows ≡ None → slice_get o.pages o.page ≡ Some page → LiesIn o.pages o.page o.first row
    → IsWithin (plus (piece_budget (cursor_leaf o) page held (row - o.first)) (pages_due (cursor_leaf o) held (drop o.page o.pages) o.first true (past (held_run (cursor_leaf o) page held) page.rows (row - o.first)) kept)) (still_due o held (row ∷ kept))
due_read o held row kept page known none e lies =
    let before = lies_before o.pages o.page o.first row page e lies in
    let behind = lies.behind in
    let asked = piece_budget (cursor_leaf o) page held (row - o.first) in
    let q = past (held_run (cursor_leaf o) page held) page.rows (row - o.first) in
    let first = due_same o held (row ∷ kept) o.leaf o.pages o.page o.first true 0 refl refl refl refl known (ap row_past none) in
    subst (IsWithin (plus asked (pages_due (cursor_leaf o) held (drop o.page o.pages) o.first true q kept))) (sym first)
    (step_here (cursor_leaf o) held (drop o.page o.pages) (drop (o.page + 1) o.pages) page o.first true true 0 q row kept asked (pages_from o.pages o.page page e) behind before
    (page_reads (cursor_leaf o) page held (row - o.first) (rows_in o.first page.rows kept)))

pub spends_read : {A : Type 0} (result : Result A PageFault) (before asked x y : Budget) (s t : Telling) → Asks asked s t → IsWithin (plus asked x) before → OnOk result (y ≡ x) → Spends before (unless_refused result y) s t
spends_read {A} (Ok a) before asked x y s t h w e = spends_step before y asked s t h (subst (λ (b : Budget). IsWithin (plus asked b) before) (sym e) w)
spends_read {A} (Err fault) before asked x y s t h w e = let wr = w.ranges in let wb = w.bytes in let less : IsWithin (plus asked nothing) before = record { ranges = omega arith; bytes = omega arith } in spends_step before nothing asked s t h less

pub free : (a b : Budget) → IsWithin a b → IsWithin (plus nothing a) b
free a b h = let x = h.ranges in let y = h.bytes in record { ranges = omega arith; bytes = omega arith }

pub free_then : (a b c : Budget) → IsWithin a b → IsWithin (plus nothing b) c → IsWithin a c
free_then a b c h k = let x = h.ranges in let y = h.bytes in let z = k.ranges in let w = k.bytes in record { ranges = omega arith; bytes = omega arith }

pub same_page : (pages : List PageMeta) (k : ℕ) (a b : PageMeta) → slice_get pages k ≡ Some a → slice_get pages k ≡ Some b → a ≡ b
same_page pages k a b e f = cc

pub lies_same : (pages : List PageMeta) (k m first last row : ℕ) → LiesIn pages k first row → k ≡ m → last ≡ rows_of (take m pages) → LiesIn pages m last row
lies_same pages k m first last row lies e h =
    let begins : first ≡ last = lies.first_is ∙ ap (λ (x : ℕ). rows_of (take x pages)) e ∙ sym h in
    subst (λ (x : ℕ). LiesIn pages m x row) begins (subst (λ (x : ℕ). LiesIn pages x first row) e lies)

pub lies_at : (t o : PlainCursor) (row : ℕ) → ReadsSame t o → StaysAt t o → LiesIn t.pages t.page t.first row → LiesIn o.pages o.page o.first row
lies_at t o row same stays lies =
    subst (λ (ps : List PageMeta). LiesIn ps o.page o.first row) (sym same.pages) (subst (λ (k : ℕ). LiesIn t.pages k o.first row) (sym stays.page) (subst (λ (f : ℕ). LiesIn t.pages t.page f row) (sym stays.first) lies))

-- a page of a column that is held
pub holds_at : (leaf : PlainLeaf) (pages : List PageMeta) (held : Option (List ℕ)) (all : List PlainSlot) (k : ℕ) (page : PageMeta) → HoldsPages leaf pages held all → slice_get pages k ≡ Some page → (slots : List PlainSlot) × HoldsPage leaf page held slots
holds_at leaf [] held all k page h e = absurd (cc)
holds_at leaf (p ∷ pages) held all zero page (first, later, whole, here, rest) e = let is : p ≡ page = cc in (first, subst (λ (q : PageMeta). HoldsPage leaf q held first) is here)
holds_at leaf (p ∷ pages) held all (suc k) page (first, later, whole, here, rest) e = holds_at leaf pages held later k page rest e
