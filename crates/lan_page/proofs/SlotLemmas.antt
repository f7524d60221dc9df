-- The slots of some rows of a page that is held.
use Rattle.std.proofs.Common.{◌≡◌, ℕ, zero, suc, ◌+◌, ◌-◌, ◌<◌, ◌≤◌, inl, inr, Bool, true, false, cond, List, [], ◌∷◌, ◌++◌, Option, Some, None, Result, Ok, length, take, drop, replicate, refl, ap, ap₂, sym, subst, ◌∙◌, arith, append_assoc}
use Rattle.std.proofs.lemmas.Bool.{le-ltb, cases_lt}
use lib.Dec.{ltb}
use Rattle.lan_model.specs.Leaves.{PlainLeaf}
use Rattle.lan_levels.specs.declared.shape.ValueKind.{ValueKind}
use Rattle.lan_levels.specs.declared.slot.State.{State}
use Rattle.lan_levels.specs.declared.slot.State.TheVariants as state
use Rattle.lan_levels.specs.Codes.{states_of}
use Rattle.lan_levels.specs.ConstantSlots.{constant_slots, own_piece}
use Rattle.lan_levels.specs.PlainSlots.{PlainPiece, nothing, PlainSlot}
use Rattle.lan_levels.specs.SlotsOf.{lists_in, slot}
use Rattle.lan_levels.specs.ZipForm.{PlainForm, digits, word_size}
use Rattle.lan_levels.specs.ZipRows.{slots_before, slots_of_rows}
use Rattle.lan_levels.specs.ZipSlots.{spelled, Part, AreRows, IsZip}
use Rattle.lan_levels.specs.ZipSlots.{slot as read_slot, cut as read_cut}
use Rattle.lan_levels.proofs.ZipFirst.{first_nil}
use Rattle.lan_levels.proofs.ZipWalks.{no_more}
use Rattle.lan_meta.specs.declared.page.Layout.{Layout}
use Rattle.lan_meta.specs.declared.page.Layout.TheVariants.{Constant, Mini, Zip}
use Rattle.lan_meta.specs.declared.page.PageMeta.{PageMeta}
use Rattle.lan_meta.specs.PageKeeps.{KeepsRules}
use Rattle.lan_meta.specs.PageOf.{page_form, ZipOf, LaidOut, buffers_in}
use Rattle.lan_meta.specs.PageRules.{FitLayers, slots_of}
use Rattle.lan_meta.specs.Stage.{IsStaged}
use Rattle.lan_model.specs.declared.range.Range.{Range}
use Rattle.lan_page.specs.declared.cut.RowCut.{RowCut}
use Rattle.lan_page.specs.declared.fault.PageFault.{PageFault}
use Rattle.lan_page.specs.Cuts.{IsCut}
use Rattle.lan_page.specs.Giving.{GivesRows}
use Rattle.lan_page.specs.Held.{bytes_held, held_buffers, HoldsPage}
use Rattle.lan_page.specs.Walks.{RowsAre}
use Rattle.lan_page.specs.PieceRows.{HasRows, GrewByRows}
use Rattle.lan_page.proofs.PageLemmas.{rows_zip}
use Rattle.lan_page.proofs.PageRows.{rows_have}

-- ---- bytes are the slots of so many rows at most once

some_digits : (a b c d e : Bool) → 0 < cond a 1 (cond b 2 (cond c 3 (cond d 4 (cond e 5 6))))
some_digits true b c d e = omega arith
some_digits false true c d e = omega arith
some_digits false false true d e = omega arith
some_digits false false false true e = omega arith
some_digits false false false false true = omega arith
some_digits false false false false false = omega arith

digits_some : (n : ℕ) → 0 < n → 0 < digits n
digits_some n lt =
    let P : Bool → Type 0 = λ b. 0 < cond b 0 (cond (ltb n 2) 1 (cond (ltb n 4) 2 (cond (ltb n 8) 3 (cond (ltb n 16) 4 (cond (ltb n 32) 5 6))))) in
    subst P (sym (le-ltb n 1 lt)) (some_digits (ltb n 2) (ltb n 4) (ltb n 8) (ltb n 16) (ltb n 32))

some_word : (b : Bool) → 0 < cond b 1 2
some_word true = omega arith
some_word false = omega arith

word_some : (n : ℕ) → 0 < n → 0 < word_size n
word_some n lt =
    let P : Bool → Type 0 = λ b. 0 < cond b 0 (cond (ltb n 9) 1 2) in
    subst P (sym (le-ltb n 1 lt)) (some_word (ltb n 9))

same_part : (f : PlainForm) (all : List ℕ) (xs ys : List PlainSlot) → length xs ≡ length ys → spelled f (length xs) all ≡ Some (record { slots = xs; rest = [] }) → spelled f (length ys) all ≡ Some (record { slots = ys; rest = [] }) → xs ≡ ys
same_part f all xs ys n p q =
    let a : Part = record { slots = xs; rest = [] } in
    let b : Part = record { slots = ys; rest = [] } in
    let e : Some a ≡ Some b = sym p ∙ ap (λ (k : ℕ). spelled f k all) n ∙ q in
    let same : a ≡ b = cc in
    ap (λ (part : Part). part.slots) same

none_shorter : (f : PlainForm) (all : List ℕ) (xs ys : List PlainSlot) → 0 < f.word → length xs < length ys → spelled f (length xs) all ≡ Some (record { slots = xs; rest = [] }) → spelled f (length ys) all ≡ Some (record { slots = ys; rest = [] }) → ⊥
none_shorter f all xs ys some lt p q =
    no_more f (length xs) (length ys) all (record { slots = xs; rest = [] }) (record { slots = ys; rest = [] }) p (λ s next e. let no : read_cut ≡ read_slot s next = sym (first_nil f some) ∙ e in cc) lt q

same_length : (f : PlainForm) (rows : ℕ) (all : List ℕ) (xs ys : List PlainSlot) (lists : ℕ) → (0 < lists → 0 < f.word) → AreRows lists rows xs → AreRows lists rows ys → spelled f (length xs) all ≡ Some (record { slots = xs; rest = [] })
    → spelled f (length ys) all ≡ Some (record { slots = ys; rest = [] }) → length xs ≡ length ys
same_length f rows all xs ys zero some a b p q = a ∙ sym b
same_length f rows all xs ys (suc l) some a b p q =
    let word = some (omega arith) in
    elim (cases_lt (length xs) (length ys)) [
      | inl lt ↦ absurd (none_shorter f all xs ys word lt p q)
      | inr ge ↦ elim (cases_lt (length ys) (length xs)) [
        | inl lt ↦ absurd (none_shorter f all ys xs word lt q p)
        | inr le ↦ omega arith
      ]
    ]

one_zip : (f : PlainForm) (rows : ℕ) (all : List ℕ) (xs ys : List PlainSlot) → (0 < f.lists → 0 < f.word) → IsZip f rows all xs → IsZip f rows all ys → xs ≡ ys
one_zip f rows all xs ys some p q = same_part f all xs ys (same_length f rows all xs ys f.lists some p.rows_are q.rows_are p.are q.are) p.are q.are

pub form_some : (leaf : PlainLeaf) (codes : List ℕ) (values : ValueKind) → 0 < (page_form leaf codes values).lists → 0 < (page_form leaf codes values).word
form_some leaf codes values lt =
    let some = digits_some (lists_in leaf.layers) lt in
    word_some (digits (lists_in leaf.layers) + digits (length (states_of codes) - 1)) (omega arith)

pub one_rows : (leaf : PlainLeaf) (layout : Layout) (rows : ℕ) (bytes : List ℕ) (xs ys : List PlainSlot) → RowsAre leaf layout rows bytes xs → RowsAre leaf layout rows bytes ys → xs ≡ ys
one_rows leaf (Constant codes count value) rows bytes xs ys p q = p ∙ sym q
one_rows leaf (Mini codes count values) rows bytes xs ys p q = absurd p
one_rows leaf (Zip codes count values) rows bytes xs ys p q = one_zip (page_form leaf codes values) rows bytes xs ys (form_some leaf codes values) p q

-- ---- the slots of rows of a page of one value

before_same : (st : State) (v : PlainPiece) (row n : ℕ) → row ≤ n → length (slots_before 0 row (replicate n (slot 0 st v))) ≡ row
before_same st v zero zero le = refl
before_same st v zero (suc n) le = refl
before_same st v (suc row) zero le = absurd (omega arith)
before_same st v (suc row) (suc n) le = ap suc (before_same st v row n (omega arith))

drop_same : (x : PlainSlot) (row n : ℕ) → drop row (replicate n x) ≡ replicate (n - row) x
drop_same x zero n = let e : n ≡ n - 0 = omega arith in ap (λ (k : ℕ). replicate k x) e
drop_same x (suc row) zero = let e : 0 ≡ 0 - suc row = omega arith in ap (λ (k : ℕ). replicate k x) e
drop_same x (suc row) (suc n) = let e : n - row ≡ suc n - suc row = omega arith in drop_same x row n ∙ ap (λ (k : ℕ). replicate k x) e

take_same : (x : PlainSlot) (k n : ℕ) → k ≤ n → take k (replicate n x) ≡ replicate k x
take_same x zero n le = refl
take_same x (suc k) zero le = absurd (omega arith)
take_same x (suc k) (suc n) le = ap (λ (xs : List PlainSlot). x ∷ xs) (take_same x k n (omega arith))

rows_same : (st : State) (v : PlainPiece) (row past n : ℕ) → row ≤ past → past ≤ n → slots_of_rows 0 row past (replicate n (slot 0 st v)) ≡ replicate (past - row) (slot 0 st v)
rows_same st v row past n less le =
    let x = slot 0 st v in
    let a = before_same st v row n (omega arith) in
    let b = before_same st v past n le in
    ap₂ (λ (i j : ℕ). take (j - i) (drop i (replicate n x))) a b ∙ ap (take (past - row)) (drop_same x row n) ∙ take_same x (past - row) (n - row) (omega arith)

constant_rows : (leaf : PlainLeaf) (value : Option (List ℕ)) (row past n : ℕ) → row ≤ past → past ≤ n → slots_of_rows 0 row past (constant_slots leaf.ty n value) ≡ constant_slots leaf.ty (past - row) value
constant_rows leaf (Some v) row past n less le = rows_same state.Here (own_piece leaf.ty v) row past n less le
constant_rows leaf None row past n less le = rows_same (state.Null 0) nothing row past n less le

-- ---- of a page that is held, the cut of rows has their slots

pub some_buffer : (f : PlainForm) (rows : ℕ) (bytes : List ℕ) (slots : List PlainSlot) (bs : List Range) → ZipOf f rows (buffers_in bytes bs) slots → (content : Range) × (more : List Range) × (bs ≡ content ∷ more)
some_buffer f rows bytes slots [] z = absurd z
some_buffer f rows bytes slots (b ∷ bs) z = (b, bs, refl)

rows_by : (leaf : PlainLeaf) (page : PageMeta) (held : Option (List ℕ)) (slots : List PlainSlot) (row past : ℕ) (cut : RowCut) (bytes : List ℕ) (layout : Layout) → page.layout ≡ layout → KeepsRules leaf page → HoldsPage leaf page held slots → row < past → past ≤ page.rows
    → IsCut leaf page held row past cut bytes → RowsAre leaf layout (past - row) bytes (slots_of_rows (lists_in leaf.layers) row past slots)
rows_by leaf page held slots row past cut bytes (Constant codes count value) e k h less le i =
    let fit = subst (λ (l : Layout). FitLayers l leaf.layers) e k.layers in
    let many : count ≡ page.rows = sym (ap slots_of e) ∙ k.alone fit.1 in
    let laid = subst (λ (l : Layout). LaidOut leaf page.rows l (held_buffers page held) slots) e h.stands.laid in
    ap (λ (n : ℕ). slots_of_rows n row past slots) fit.1 ∙ ap (slots_of_rows 0 row past) laid.1 ∙ constant_rows leaf value row past count (omega arith) (omega arith)
rows_by leaf page held slots row past cut bytes (Mini codes count values) e k h less le i = absurd (subst IsStaged e k.staged)
rows_by leaf page held slots row past cut bytes (Zip codes count values) e k h less le i =
    let laid = subst (λ (l : Layout). LaidOut leaf page.rows l (held_buffers page held) slots) e h.stands.laid in
    let some = some_buffer (page_form leaf codes values) page.rows (bytes_held held) slots page.buffers laid in
    rows_zip leaf page held codes count values some.0 some.1 (record { layout = e; buffers = some.2 }) slots row past bytes h less le i.bytes_are

pub rows_are : (leaf : PlainLeaf) (page : PageMeta) (held : Option (List ℕ)) (slots : List PlainSlot) (row past : ℕ) (cut : RowCut) (bytes : List ℕ) → KeepsRules leaf page → HoldsPage leaf page held slots → row < past → past ≤ page.rows → IsCut leaf page held row past cut bytes
    → RowsAre leaf page.layout (past - row) bytes (slots_of_rows (lists_in leaf.layers) row past slots)
rows_are leaf page held slots row past cut bytes k h less le i = rows_by leaf page held slots row past cut bytes page.layout refl k h less le i

-- what a walk gives of so many rows is their slots
pub given_rows : (leaf : PlainLeaf) (page : PageMeta) (row past rows : ℕ) (cut : RowCut) (bytes : List ℕ) (old new given : List PlainSlot) → KeepsRules leaf page → rows ≡ past - row → RowsAre leaf page.layout rows bytes given → new ≡ old ++ given
    → GivesRows leaf page row past cut bytes old new (Ok tt)
given_rows leaf page row past rows cut bytes old new given k many are all held slots h less le i =
    let here = subst (λ (n : ℕ). RowsAre leaf page.layout n bytes given) many are in
    all ∙ ap (λ (xs : List PlainSlot). old ++ xs) (one_rows leaf page.layout (past - row) bytes given _ here (rows_are leaf page held slots row past cut bytes k h less le i))

-- and where it gives none, the page isn't held so
pub refused_rows : (leaf : PlainLeaf) (page : PageMeta) (row past rows : ℕ) (cut : RowCut) (bytes : List ℕ) (old new : List PlainSlot) (result : Result Unit PageFault) → KeepsRules leaf page → rows ≡ past - row → ((slots : List PlainSlot) → RowsAre leaf page.layout rows bytes slots → ⊥)
    → GivesRows leaf page row past cut bytes old new result
refused_rows leaf page row past rows cut bytes old new result k many none held slots h less le i =
    absurd (none _ (subst (λ (n : ℕ). RowsAre leaf page.layout n bytes (slots_of_rows (lists_in leaf.layers) row past slots)) (sym many) (rows_are leaf page held slots row past cut bytes k h less le i)))

-- one slot more is given
pub one_more : (all given left next : List PlainSlot) (s : PlainSlot) → given ++ left ≡ all → left ≡ s ∷ next → (given ++ s ∷ []) ++ next ≡ all
one_more all given left next s e f = append_assoc given (s ∷ []) next ∙ ap (λ (xs : List PlainSlot). given ++ xs) (sym f) ∙ e

pub fewer : (left next : List PlainSlot) (s : PlainSlot) → left ≡ s ∷ next → length next < length left
fewer left next s e = let n = ap (length {A = PlainSlot}) e in omega arith

-- what a walk gives is the slots of so many rows
pub grew_by : (leaf : PlainLeaf) (page : PageMeta) (rows n : ℕ) (bytes : List ℕ) (old new given : List PlainSlot) → KeepsRules leaf page → rows ≡ n → RowsAre leaf page.layout rows bytes given → new ≡ old ++ given → GrewByRows (lists_in leaf.layers) n old new
grew_by leaf page rows n bytes old new given k many are all = record { slots = given; grew = all; are = subst (λ (m : ℕ). HasRows (lists_in leaf.layers) m given) many (rows_have leaf page.layout rows bytes given k.layers are) }
