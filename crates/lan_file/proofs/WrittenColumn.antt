-- The pages that the writer makes of a column's slots stand for them, and are read back.
use Rattle.std.proofs.Common.{◌≡◌, ◌&&◌, ℕ, zero, suc, ◌+◌, ◌^◌, ◌<◌, ◌≤◌, Bool, true, false, cond, List, [], ◌∷◌, ◌++◌, length, map, refl, sym, ◌∙◌, ap, subst, arith, append_assoc, length-append}
use Rattle.std.specs.Prelude.{All}
use Rattle.std.proofs.lemmas.Bool.{eqb-true}
use Rattle.std.proofs.lemmas.List.Elements.{All-nil, All-cons, All-head, All-tail, All-push}
use Rattle.std.proofs.lemmas.List.Sums.{sum_by-cons}
use Rattle.lan_levels.specs.PagesWritten.{is_full, pages_from}
use Rattle.lan_levels.specs.PlainSlots.{PlainSlot}
use Rattle.lan_levels.specs.SlotsOf.{lists_in}
use Rattle.lan_levels.specs.ZipForm.{PlainForm, leaf_form}
use Rattle.lan_levels.specs.ZipSlots.{starts, AreRows}
use Rattle.lan_levels.specs.ZipWritten.{CanStand, begins}
use Rattle.lan_model.specs.Leaves.{PlainLeaf}
use Rattle.lan_meta.specs.declared.page.BuiltPage.{BuiltPage}
use Rattle.lan_meta.specs.declared.page.PageMeta.{PageMeta}
use Rattle.lan_meta.specs.ColumnWritten.{page_written, written}
use Rattle.lan_meta.specs.PageKeeps.{KeepsRules}
use Rattle.lan_meta.specs.PagesTold.{CanBeTold}
use Rattle.lan_zip.proofs.Written.{begins_is}
use Rattle.lan_file.specs.FileOf.{BuiltStand}
use Rattle.lan_file.specs.FileText.{with_buffers, places_behind, with_pages, page_behind, pages_behind}
use Rattle.lan_file.specs.Heads.{rows_in}
use Rattle.lan_file.specs.SlotsWritten.{TakesBytes, IsGiven}
use Rattle.lan_file.specs.Writing.{aligned}
use Rattle.lan_file.proofs.FileBack.{buffers_grown, pages_grown, buffers_end}
use Rattle.lan_file.proofs.FileLaid.{length_grown}
use Rattle.lan_file.proofs.WrittenPage.{Rows, FirstIsSmall, Stood, one_stood}

-- the first buffers of pages are small
abbrev pub AreSmall : List BuiltPage → Type 0
AreSmall [] = Unit {0}
AreSmall (page ∷ pages) = FirstIsSmall page.buffers × AreSmall pages

-- pages that are built stand for slots, and keep to the rules
abbrev pub AllStood : PlainLeaf → List BuiltPage → List PlainSlot → Type 0
AllStood leaf [] slots = slots ≡ []
AllStood leaf (page ∷ pages) slots = (first : List PlainSlot) × (later : List PlainSlot) × (slots ≡ first ++ later) × Stood leaf page first × AllStood leaf pages later

-- ---- where pages are cut

pages_end : (f : PlainForm) (page : List PlainSlot) → pages_from f page [] ≡ page ∷ []
unfolding pages_from
pages_end f page = refl

pages_more : (f : PlainForm) (page : List PlainSlot) (s : PlainSlot) (slots : List PlainSlot) → pages_from f page (s ∷ slots) ≡ cond (begins f.lists s && is_full f page) (page ∷ pages_from f (s ∷ []) slots) (pages_from f (page ++ s ∷ []) slots)
unfolding pages_from
pages_more f page s slots = refl

begun : (b c : Bool) → (b && c) ≡ true → b ≡ true
begun true c e = refl
begun false c e = absurd (cc e)

alone : (leaf : PlainLeaf) (s : PlainSlot) → CanStand (leaf_form leaf) s → s.rep ≡ lists_in leaf.layers → Rows leaf (s ∷ [])
alone leaf s can begins = record { first = s; rest = []; is = refl; begins = begins; can = All-cons (CanStand (leaf_form leaf)) s [] can (All-nil (CanStand (leaf_form leaf))); few = omega arith }

pushed : (leaf : PlainLeaf) (page : List PlainSlot) (s : PlainSlot) → Rows leaf page → CanStand (leaf_form leaf) s → length (page ++ s ∷ []) < 2 ^ 64 → Rows leaf (page ++ s ∷ [])
pushed leaf page s r can few = record {
  first = r.first;
  rest = r.rest ++ s ∷ [];
  is = ap (λ (l : List PlainSlot). l ++ s ∷ []) r.is;
  begins = r.begins;
  can = All-push (CanStand (leaf_form leaf)) page s r.can can;
  few = few;
}

cut_case : (b : Bool) (leaf : PlainLeaf) (page : List PlainSlot) (s : PlainSlot) (slots : List PlainSlot) (ends more : List (List PlainSlot)) → (b ≡ true → AllStood leaf (map (page_written leaf) ends) (s ∷ slots)) → (b ≡ false → AllStood leaf (map (page_written leaf) more) ((page ++ s ∷ []) ++ slots))
    → (b ≡ true → Stood leaf (page_written leaf page) page) → AllStood leaf (map (page_written leaf) (cond b (page ∷ ends) more)) (page ++ s ∷ slots)
cut_case true leaf page s slots ends more cut on here = (page, s ∷ slots, refl, here refl, cut refl)
cut_case false leaf page s slots ends more cut on here = subst (AllStood leaf (map (page_written leaf) more)) (append_assoc page (s ∷ []) slots) (on refl)

small_case : (b : Bool) (leaf : PlainLeaf) (page : List PlainSlot) (ends more : List (List PlainSlot)) → AreSmall (map (page_written leaf) (cond b (page ∷ ends) more)) → b ≡ true → FirstIsSmall (page_written leaf page).buffers × AreSmall (map (page_written leaf) ends)
small_case true leaf page ends more small e = small
small_case false leaf page ends more small e = absurd (cc e)

small_other : (b : Bool) (leaf : PlainLeaf) (page : List PlainSlot) (ends more : List (List PlainSlot)) → AreSmall (map (page_written leaf) (cond b (page ∷ ends) more)) → b ≡ false → AreSmall (map (page_written leaf) more)
small_other true leaf page ends more small e = absurd (cc e)
small_other false leaf page ends more small e = small

cut_stood : (leaf : PlainLeaf) (page slots : List PlainSlot) → length leaf.layers ≤ 16 → TakesBytes leaf.ty → Rows leaf page → All (CanStand (leaf_form leaf)) slots → length page + length slots < 2 ^ 64 → AreSmall (map (page_written leaf) (pages_from (leaf_form leaf) page slots))
    → AllStood leaf (map (page_written leaf) (pages_from (leaf_form leaf) page slots)) (page ++ slots)
cut_stood leaf page [] few takes r can count small =
    let f = leaf_form leaf in
    let P : List (List PlainSlot) → Type 0 = λ ps. AllStood leaf (map (page_written leaf) ps) (page ++ []) in
    let Q : List (List PlainSlot) → Type 0 = λ ps. AreSmall (map (page_written leaf) ps) in
    let one = subst Q (pages_end f page) small in
    subst P (sym (pages_end f page)) (page, [], refl, one_stood leaf page few takes r one.0, refl)
cut_stood leaf page (s ∷ slots) few takes r can count small =
    let f = leaf_form leaf in
    let b = begins f.lists s && is_full f page in
    let ends = pages_from f (s ∷ []) slots in
    let more = pages_from f (page ++ s ∷ []) slots in
    let P : List (List PlainSlot) → Type 0 = λ ps. AllStood leaf (map (page_written leaf) ps) (page ++ s ∷ slots) in
    let Q : List (List PlainSlot) → Type 0 = λ ps. AreSmall (map (page_written leaf) ps) in
    let here = subst Q (pages_more f page s slots) small in
    let one = All-head (CanStand f) s slots can in
    let others = All-tail (CanStand f) s slots can in
    let size = length-append page (s ∷ []) in
    let first : b ≡ true → s.rep ≡ lists_in leaf.layers = λ e. eqb-true s.rep f.lists (sym (begins_is f.lists s one.rep) ∙ begun (begins f.lists s) (is_full f page) e) in
    subst P (sym (pages_more f page s slots))
    (cut_case b leaf page s slots ends more (λ e. cut_stood leaf (s ∷ []) slots few takes (alone leaf s one (first e)) others (omega (arith, count)) (small_case b leaf page ends more here e).1)
    (λ e. cut_stood leaf (page ++ s ∷ []) slots few takes (pushed leaf page s r one (omega (arith, size, count))) others (omega (arith, size, count)) (small_other b leaf page ends more here e))
    (λ e. one_stood leaf page few takes r (small_case b leaf page ends more here e).0))

-- the first slot of rows begins one
first_begins : (lists rows : ℕ) (s : PlainSlot) (slots : List PlainSlot) → AreRows lists rows (s ∷ slots) → s.rep ≤ lists → s.rep ≡ lists
first_begins zero rows s slots are le = omega (arith, le)
first_begins (suc l) rows s slots are le = are.1

pub all_stood : (rows : ℕ) (leaf : PlainLeaf) (slots : List PlainSlot) → IsGiven rows (record { leaf = leaf; slots = slots }) → AreSmall (written leaf slots) → AllStood leaf (written leaf slots) slots
all_stood rows leaf [] g small = refl
all_stood rows leaf (s ∷ slots) g small =
    let f = leaf_form leaf in
    let one = All-head (CanStand f) s slots g.can in
    let first = first_begins (lists_in leaf.layers) rows s slots g.rows_are one.rep in
    cut_stood leaf (s ∷ []) slots g.layers g.bytes (alone leaf s one first) (All-tail (CanStand f) s slots g.can) (omega (arith, g.few)) small

-- ---- what follows of pages in a file

small_buffers : (before : List ℕ) (buffers : List (List ℕ)) → length (with_buffers before buffers) < 2 ^ 64 → FirstIsSmall buffers
small_buffers before [] small = tt
small_buffers before (b ∷ bs) small =
    let next : List ℕ = aligned before ++ b in
    omega (arith, small, length_grown next (with_buffers next bs) (buffers_grown next bs), length-append (aligned before) b)

pub small_pages : (before : List ℕ) (pages : List BuiltPage) → length (with_pages before pages) < 2 ^ 64 → AreSmall pages
small_pages before [] small = tt
small_pages before (page ∷ pages) small =
    let next = with_buffers before page.buffers in
    (small_buffers before page.buffers (omega (arith, small, length_grown next (with_pages next pages) (pages_grown next pages))), small_pages next pages small)

length-places_behind : (before : List ℕ) (buffers : List (List ℕ)) → length (places_behind before buffers) ≡ length buffers
length-places_behind before [] = refl
length-places_behind before (b ∷ bs) = omega (arith, length-places_behind (aligned before ++ b) bs)

stood_keeps : (leaf : PlainLeaf) (before : List ℕ) (page : BuiltPage) (slots : List PlainSlot) → Stood leaf page slots → length (with_buffers before page.buffers) ≤ 2 ^ 63 → KeepsRules leaf (page_behind before page)
stood_keeps leaf before page slots s small = record {
  staged = s.staged;
  layers = s.layers;
  some = s.some;
  slots = s.count;
  alone = s.alone;
  buffers = length-places_behind before page.buffers ∙ s.buffers;
  values = s.values;
  region = buffers_end before page.buffers (2 ^ 63) small;
}

pub all_keep : (leaf : PlainLeaf) (before : List ℕ) (pages : List BuiltPage) (slots : List PlainSlot) → AllStood leaf pages slots → length (with_pages before pages) ≤ 2 ^ 63 → All (KeepsRules leaf) (pages_behind before pages)
all_keep leaf before [] slots s small = All-nil (KeepsRules leaf)
all_keep leaf before (page ∷ pages) slots s small =
    let next = with_buffers before page.buffers in
    All-cons (KeepsRules leaf) (page_behind before page) (pages_behind next pages) (stood_keeps leaf before page s.0 s.3 (omega (arith, small, length_grown next (with_pages next pages) (pages_grown next pages)))) (all_keep leaf next pages s.1 s.4 small)

pub all_told : (leaf : PlainLeaf) (before : List ℕ) (pages : List BuiltPage) (slots : List PlainSlot) → AllStood leaf pages slots → All CanBeTold (pages_behind before pages)
all_told leaf before [] slots s = All-nil CanBeTold
all_told leaf before (page ∷ pages) slots s =
    let next = with_buffers before page.buffers in
    let one = s.3 in
    All-cons CanBeTold (page_behind before page) (pages_behind next pages) (record { rows = omega (arith, one.count, one.few); slots = one.few; bits = one.bits }) (all_told leaf next pages s.1 s.4)

pub all_stand : (leaf : PlainLeaf) (pages : List BuiltPage) (slots : List PlainSlot) → AllStood leaf pages slots → BuiltStand leaf pages slots
all_stand leaf [] slots s = s
all_stand leaf (page ∷ pages) slots s = (s.0, s.1, s.2, s.3.is, all_stand leaf pages s.1 s.4)

pub starts-append : (lists : ℕ) (xs ys : List PlainSlot) → starts lists (xs ++ ys) ≡ starts lists xs + starts lists ys
starts-append lists [] ys = omega arith
starts-append lists (x ∷ xs) ys = omega (arith, starts-append lists xs ys)

pub all_rows : (leaf : PlainLeaf) (before : List ℕ) (pages : List BuiltPage) (slots : List PlainSlot) → AllStood leaf pages slots → rows_in (pages_behind before pages) ≡ starts (lists_in leaf.layers) slots
all_rows leaf before [] slots s = ap (starts (lists_in leaf.layers)) (sym s)
all_rows leaf before (page ∷ pages) slots s =
    let next = with_buffers before page.buffers in
    let lists = lists_in leaf.layers in
    omega (arith, sum_by-cons (λ (m : PageMeta). m.rows) (page_behind before page) (pages_behind next pages), all_rows leaf next pages s.1 s.4, s.3.rows_are, ap (starts lists) s.2, starts-append lists s.0 s.1)
