-- The columns that were asked keep to the rules, one after another.
use Rattle.std.proofs.Common.{◌≡◌, refl, sym, ◌∙◌, ap, subst, ℕ, ◌+◌, ◌<◌, ◌≤◌, List, [], ◌∷◌, ◌++◌, length, take, arith}
use Rattle.std.specs.Prelude.{slice_index_or}
use Rattle.std.proofs.lemmas.List.{map_more, take_all, map_push}
use Rattle.lan_bytes.specs.Placed.{Placed}
use Rattle.lan_meta.specs.Columns.{ColumnOf}
use Rattle.lan_meta.specs.declared.page.ColumnMeta.{ColumnMeta}
use Rattle.lan_meta.specs.declared.page.PageMeta.{PageMeta}
use Rattle.lan_meta.proofs.LawTerms.{pages_keep}
use Rattle.lan_file.specs.declared.head.ColumnPick.{ColumnPick}
use Rattle.lan_file.specs.declared.tables.Tables.{Tables}
use Rattle.lan_file.specs.Heads.{Pick, pick_of, picks_of, rows_in, KeepsPick, KeepPicks}
use Rattle.lan_file.specs.HeadSteps.{pages_of}
use Rattle.lan_file.specs.Tables.{AreTables}

-- a column that was read, whose rows are as many
pub pick_keeps : (t : Tables) (part : Placed) (rows : ℕ) (pick : Pick) (pages : List PageMeta) → AreTables t → ColumnOf part pick.leaf t.footer.columns_at pages → rows_in pages ≡ rows → KeepsPick rows pick pages
pick_keeps t part rows pick pages are is rows_are = record { rules = pages_keep part pick.leaf t.footer.columns_at pages (omega (arith, are.small)) is; rows_are = rows_are }

keep_push : (rows : ℕ) (picks : List Pick) (columns : List (List PageMeta)) (pick : Pick) (pages : List PageMeta) → KeepPicks rows picks columns → KeepsPick rows pick pages → KeepPicks rows (picks ++ pick ∷ []) (columns ++ pages ∷ [])
keep_push rows [] columns pick pages are is = (pages, [], ap (λ (cs : List (List PageMeta)). cs ++ pages ∷ []) are, is, refl)
keep_push rows (p ∷ picks) columns pick pages are is = (are.0, are.1 ++ pages ∷ [], ap (λ (cs : List (List PageMeta)). cs ++ pages ∷ []) are.2, are.3, keep_push rows picks are.1 pick pages are.4 is)

pub keep_more : (rows : ℕ) (picks : List ColumnPick) (i : ℕ) (pick : ColumnPick) (before after : List ColumnMeta) (column : ColumnMeta) → i < length picks → pick ≡ slice_index_or picks i pick → after ≡ before ++ column ∷ []
    → KeepPicks rows (picks_of (take i picks)) (pages_of before) → KeepsPick rows (pick_of pick) column.pages → KeepPicks rows (picks_of (take (i + 1) picks)) (pages_of after)
keep_more rows picks i pick before after column below is grown are one =
    let picks_are : picks_of (take (i + 1) picks) ≡ picks_of (take i picks) ++ pick_of pick ∷ [] = map_more pick_of picks i pick below ∙ ap (λ (p : ColumnPick). picks_of (take i picks) ++ pick_of p ∷ []) (sym is) in
    let columns_are : pages_of after ≡ pages_of before ++ column.pages ∷ [] = ap pages_of grown ∙ map_push (λ (c : ColumnMeta). c.pages) before column in
    let P : List Pick → Type 0 = λ ps. KeepPicks rows ps (pages_of after) in
    let Q : List (List PageMeta) → Type 0 = λ cs. KeepPicks rows (picks_of (take i picks) ++ pick_of pick ∷ []) cs in
    subst P (sym picks_are) (subst Q (sym columns_are) (keep_push rows (picks_of (take i picks)) (pages_of before) (pick_of pick) column.pages are one))

pub keep_all : (rows : ℕ) (picks : List ColumnPick) (i : ℕ) (columns : List ColumnMeta) → length picks ≤ i → KeepPicks rows (picks_of (take i picks)) (pages_of columns) → KeepPicks rows (picks_of picks) (pages_of columns)
keep_all rows picks i columns past are =
    let P : List ColumnPick → Type 0 = λ ps. KeepPicks rows (picks_of ps) (pages_of columns) in
    subst P (take_all i picks past) are
