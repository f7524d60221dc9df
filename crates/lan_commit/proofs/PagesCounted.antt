-- The rows of the pages of a column can be counted where its slots can.
use Rattle.std.proofs.Common.{◌≡◌, ◌&&◌, ◌==◌, ℕ, ◌+◌, ◌≤◌, Bool, true, false, cond, refl, ◌∙◌, ap, List, [], ◌∷◌, ◌++◌, length, map, arith, append_assoc, append-nil}
use Rattle.std.specs.Prelude.{Option, Some, None, sum_by}
use Rattle.std.proofs.lemmas.List.Sums.{sum_by-cons}
use Rattle.lan_file.proofs.WrittenColumn.{starts-append}
use Rattle.lan_levels.specs.PagesWritten.{is_full, pages_from, constant_of}
use Rattle.lan_levels.specs.PlainSlots.{PlainSlot}
use Rattle.lan_levels.specs.SlotsOf.{lists_in}
use Rattle.lan_levels.specs.ZipForm.{PlainForm, leaf_form}
use Rattle.lan_levels.specs.ZipSlots.{starts}
use Rattle.lan_levels.specs.ZipWritten.{begins}
use Rattle.lan_meta.specs.declared.page.BuiltPage.{BuiltPage}
use Rattle.lan_meta.specs.ColumnWritten.{page_by, page_written, written}
use Rattle.lan_model.specs.Leaves.{PlainLeaf}

abbrev rows_of : List BuiltPage → ℕ
rows_of = sum_by (λ (page : BuiltPage). page.rows)

page_rows : (leaf : PlainLeaf) (slots : List PlainSlot) (all : Option (Option (List ℕ))) → (page_by leaf slots all).rows ≡ starts (lists_in leaf.layers) slots
page_rows leaf slots None = refl
page_rows leaf slots (Some value) = refl

rows_more : (leaf : PlainLeaf) (page : List PlainSlot) (pages : List (List PlainSlot)) → rows_of (map (page_written leaf) (page ∷ pages)) ≡ starts (lists_in leaf.layers) page + rows_of (map (page_written leaf) pages)
rows_more leaf page pages =
    sum_by-cons (λ (p : BuiltPage). p.rows) (page_written leaf page) (map (page_written leaf) pages) ∙ ap (λ (n : ℕ). n + rows_of (map (page_written leaf) pages)) (page_rows leaf page (constant_of (leaf_form leaf) page))

pages_end : (f : PlainForm) (page : List PlainSlot) → pages_from f page [] ≡ page ∷ []
unfolding pages_from
pages_end f page = refl

pages_more : (f : PlainForm) (page : List PlainSlot) (s : PlainSlot) (slots : List PlainSlot) → pages_from f page (s ∷ slots) ≡ cond (begins f.lists s && is_full f page) (page ∷ pages_from f (s ∷ []) slots) (pages_from f (page ++ s ∷ []) slots)
unfolding pages_from
pages_more f page s slots = refl

either : (b : Bool) (leaf : PlainLeaf) (page : List PlainSlot) (s : PlainSlot) (slots : List PlainSlot) (ends more : List (List PlainSlot)) → rows_of (map (page_written leaf) ends) ≡ starts (lists_in leaf.layers) (s ∷ slots)
    → rows_of (map (page_written leaf) more) ≡ starts (lists_in leaf.layers) ((page ++ s ∷ []) ++ slots) → rows_of (map (page_written leaf) (cond b (page ∷ ends) more)) ≡ starts (lists_in leaf.layers) (page ++ s ∷ slots)
either true leaf page s slots ends more cut on = omega (arith, rows_more leaf page ends, cut, starts-append (lists_in leaf.layers) page (s ∷ slots))
either false leaf page s slots ends more cut on = on ∙ ap (starts (lists_in leaf.layers)) (append_assoc page (s ∷ []) slots)

pages_rows : (leaf : PlainLeaf) (page slots : List PlainSlot) → rows_of (map (page_written leaf) (pages_from (leaf_form leaf) page slots)) ≡ starts (lists_in leaf.layers) (page ++ slots)
pages_rows leaf page [] =
    let none : rows_of [] ≡ 0 = refl in
    ap (λ (ps : List (List PlainSlot)). rows_of (map (page_written leaf) ps)) (pages_end (leaf_form leaf) page)
    ∙ omega (arith, rows_more leaf page [], none, ap (starts (lists_in leaf.layers)) (append-nil page))
pages_rows leaf page (s ∷ slots) =
    let f = leaf_form leaf in
    ap (λ (ps : List (List PlainSlot)). rows_of (map (page_written leaf) ps)) (pages_more f page s slots)
    ∙ either (begins f.lists s && is_full f page) leaf page s slots (pages_from f (s ∷ []) slots) (pages_from f (page ++ s ∷ []) slots) (pages_rows leaf (s ∷ []) slots) (pages_rows leaf (page ++ s ∷ []) slots)

one_at_most : (b : Bool) → cond b 1 0 ≤ 1
one_at_most true = omega arith
one_at_most false = omega arith

starts_few : (lists : ℕ) (slots : List PlainSlot) → starts lists slots ≤ length slots
starts_few lists [] = omega arith
starts_few lists (s ∷ slots) = omega (arith, one_at_most (s.rep == lists), starts_few lists slots)

-- no more rows than slots
pub rows_few : (leaf : PlainLeaf) (slots : List PlainSlot) → rows_of (written leaf slots) ≤ length slots
rows_few leaf [] = omega (arith, (let none : rows_of [] ≡ 0 = refl in none))
rows_few leaf (s ∷ slots) = omega (arith, pages_rows leaf (s ∷ []) slots, starts_few (lists_in leaf.layers) (s ∷ slots))
