-- What is put into a file, one part after another, is the file's text.
use Rattle.std.proofs.Common.{◌≡◌, refl, sym, ◌∙◌, ap, ℕ, ◌+◌, List, [], ◌∷◌, ◌++◌, length, length-append, append_assoc}
use Rattle.std.specs.Prelude.{sum_by}
use Rattle.std.specs.List.{concat}
use Rattle.std.proofs.lemmas.List.Sums.{sum_by-cons}
use Rattle.lan_meta.specs.declared.page.BuiltPage.{BuiltPage}
use Rattle.lan_meta.specs.declared.page.PageMeta.{PageMeta}
use Rattle.lan_file.specs.FileText.{with_buffers, page_behind, pages_behind, entries_from, file_with}
use Rattle.lan_file.specs.Writing.{aligned, entry_text, footer_for}

-- pages have as many rows with places as without
pub rows_behind : (before : List ℕ) (pages : List BuiltPage) → sum_by (λ (page : PageMeta). page.rows) (pages_behind before pages) ≡ sum_by (λ (page : BuiltPage). page.rows) pages
rows_behind before [] = refl
rows_behind before (p ∷ ps) =
    let next = with_buffers before p.buffers in
    sum_by-cons (λ (page : PageMeta). page.rows) (page_behind before p) (pages_behind next ps) ∙ ap (λ (n : ℕ). p.rows + n) (rows_behind next ps) ∙ sym (sum_by-cons (λ (page : BuiltPage). page.rows) p ps)

-- the parts of a file behind one another
abbrev behind_all : List ℕ → List (List ℕ) → List ℕ → List ℕ
behind_all front messages global = (((front ++ concat messages) ++ entries_from (length front) messages) ++ global) ++ footer_for (length front) (length (front ++ concat messages)) (length messages)

pub file_put : (o1 o2 o3 o4 o5 o6 d : List ℕ) (messages : List (List ℕ)) → o2 ≡ aligned o1 ++ d → o3 ≡ o2 ++ concat messages → o4 ≡ o3 ++ entries_from (length o2) messages → o5 ≡ o4 ++ entry_text (length (aligned o1)) (length d)
    → o6 ≡ o5 ++ footer_for (length o2) (length o3) (length messages) → o6 ≡ file_with o1 d messages
file_put o1 o2 o3 o4 o5 o6 d messages e2 e3 e4 e5 e6 =
    let front : List ℕ = aligned o1 ++ d in
    let all : List ℕ = concat messages in
    let table : List ℕ = entries_from (length front) messages in
    let global = entry_text (length (aligned o1)) (length d) in
    let foot : List ℕ = footer_for (length front) (length (front ++ all)) (length messages) in
    let as_put : o6 ≡ behind_all o2 messages global = cc in
    let sizes : length (front ++ all) ≡ length front + length all = length-append front all in
    as_put
    ∙ ap (λ (l : List ℕ). behind_all l messages global) e2
    ∙ append_assoc ((front ++ all) ++ table) global foot
    ∙ append_assoc (front ++ all) table (global ++ foot)
    ∙ append_assoc front all (table ++ (global ++ foot))
    ∙ ap (λ (n : ℕ). front ++ (all ++ (table ++ (global ++ footer_for (length front) n (length messages))))) sizes
