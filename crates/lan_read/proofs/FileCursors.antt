-- New cursors of the columns of a file, in the order in which they are asked.
use Rattle.std.proofs.Common.{◌≡◌, sym, ◌∙◌, ap, refl, subst, ℕ, List, [], ◌∷◌, ◌++◌, length, map}
use Rattle.std.specs.Prelude.{All}
use Rattle.std.specs.List.{AllZip}
use Rattle.std.proofs.lemmas.List.{append-nil, append_assoc, map_push, nil_from_length}
use Rattle.std.proofs.lemmas.List.Elements.{All-head, All-tail}
use Rattle.lan_meta.specs.declared.page.ColumnMeta.{ColumnMeta}
use Rattle.lan_meta.specs.declared.page.PageMeta.{PageMeta}
use Rattle.lan_page.specs.ColumnCursors.{PlainCursor, at_first, cursor_pages}
use Rattle.lan_store.specs.declared.name.Name.{Name}
use Rattle.lan_file.specs.HeadSteps.{pages_of}
use Rattle.lan_file.specs.Heads.{KeepPicks, KeepsPick, Pick, pick_of, picks_of}
use Rattle.lan_file.specs.declared.head.ColumnPick.{ColumnPick}
use Rattle.lan_read.specs.Dealt.{IsFirst}
use Rattle.lan_read.specs.Grouped.{IsLow}

-- ---- one pick after another

pub low_head : (picks rest : List ColumnPick) (pick : ColumnPick) → picks ≡ pick ∷ rest → All IsLow (picks_of picks) → IsLow (pick_of pick)
low_head picks rest pick is low = All-head IsLow (pick_of pick) (picks_of rest) (subst (λ (ps : List ColumnPick). All IsLow (picks_of ps)) is low)

pub low_tail : (picks rest : List ColumnPick) (pick : ColumnPick) → picks ≡ pick ∷ rest → All IsLow (picks_of picks) → All IsLow (picks_of rest)
low_tail picks rest pick is low = All-tail IsLow (pick_of pick) (picks_of rest) (subst (λ (ps : List ColumnPick). All IsLow (picks_of ps)) is low)

cons_is : (rows : ℕ) (pick : Pick) (pages first : List PageMeta) (picks : List Pick) (more later : List (List PageMeta)) → pages ∷ more ≡ first ∷ later → KeepsPick rows pick first → KeepPicks rows picks later → KeepsPick rows pick pages × KeepPicks rows picks more
cons_is rows pick pages first picks more later same here behind =
    let head : pages ≡ first = cc in
    let tail : more ≡ later = cc in (subst (KeepsPick rows pick) (sym head) here, subst (KeepPicks rows picks) (sym tail) behind)

pub keeps_parts : (rows : ℕ) (picks rest : List ColumnPick) (pick : ColumnPick) (columns more : List ColumnMeta) (column : ColumnMeta) → picks ≡ pick ∷ rest → columns ≡ column ∷ more → KeepPicks rows (picks_of picks) (pages_of columns)
    → KeepsPick rows (pick_of pick) column.pages × KeepPicks rows (picks_of rest) (pages_of more)
keeps_parts rows picks rest pick columns more column is there keeps =
    let whole : KeepPicks rows (pick_of pick ∷ picks_of rest) (column.pages ∷ pages_of more) = subst (λ (ps : List ColumnPick). KeepPicks rows (picks_of ps) (column.pages ∷ pages_of more)) is (subst (λ (cs : List ColumnMeta). KeepPicks rows (picks_of picks) (pages_of cs)) there keeps) in
    let (first, later, same, here, behind) = whole in
    cons_is rows (pick_of pick) column.pages first (picks_of rest) (pages_of more) later same here behind

pub is_first : (name copied : Name) (rows : ℕ) (pick : ColumnPick) (pages : List PageMeta) (c : PlainCursor) → copied ≡ name → c ≡ at_first copied pick.leaf pages → KeepsPick rows (pick_of pick) pages → IsFirst name rows (pick_of pick) c
is_first name copied rows pick pages c same new keeps = record { of_leaf = pick.leaf; leaf_is = refl; pages = pages; new = new ∙ ap (λ (n : Name). at_first n pick.leaf pages) same; rows_are = keeps.rows_are }

pub cursors_more : (R : Pick → PlainCursor → Type 0) (all : List Pick) (picks rest : List ColumnPick) (pick : ColumnPick) (cursors now : List PlainCursor) (c : PlainCursor) → picks ≡ pick ∷ rest → now ≡ cursors ++ c ∷ [] → R (pick_of pick) c
    → ((later : List PlainCursor) → AllZip R (picks_of picks) later → AllZip R all (cursors ++ later)) → (later : List PlainCursor) → AllZip R (picks_of rest) later → AllZip R all (now ++ later)
cursors_more R all picks rest pick cursors now c is more here so_far later are =
    let longer : now ++ later ≡ cursors ++ (c ∷ later) = ap (λ (cs : List PlainCursor). cs ++ later) more ∙ append_assoc cursors (c ∷ []) later in
    let left : AllZip R (picks_of picks) (c ∷ later) = subst (λ (ps : List ColumnPick). AllZip R (picks_of ps) (c ∷ later)) (sym is) (here, are) in
    subst (AllZip R all) (sym longer) (so_far (c ∷ later) left)

pub pages_more : (all : List (List PageMeta)) (columns more : List ColumnMeta) (column : ColumnMeta) (cursors now : List PlainCursor) (c : PlainCursor) → columns ≡ column ∷ more → now ≡ cursors ++ c ∷ [] → cursor_pages c ≡ column.pages
    → map cursor_pages cursors ++ pages_of columns ≡ all → map cursor_pages now ++ pages_of more ≡ all
pages_more all columns more column cursors now c is longer here so_far =
    ap (λ (cs : List PlainCursor). map cursor_pages cs ++ pages_of more) longer
    ∙ ap (λ (ps : List (List PageMeta)). ps ++ pages_of more) (map_push cursor_pages cursors c)
    ∙ append_assoc (map cursor_pages cursors) (cursor_pages c ∷ []) (pages_of more)
    ∙ ap (λ (ps : List PageMeta). map cursor_pages cursors ++ (ps ∷ pages_of more)) here
    ∙ ap (λ (cs : List ColumnMeta). map cursor_pages cursors ++ pages_of cs) (sym is)
    ∙ so_far

pub cursors_all : (R : Pick → PlainCursor → Type 0) (all : List Pick) (picks : List ColumnPick) (cursors : List PlainCursor) → length picks ≡ 0 → ((later : List PlainCursor) → AllZip R (picks_of picks) later → AllZip R all (cursors ++ later)) → AllZip R all cursors
cursors_all R all picks cursors none so_far =
    let left : AllZip R (picks_of picks) [] = subst (λ (ps : List ColumnPick). AllZip R (picks_of ps) []) (sym (nil_from_length picks none)) tt in
    subst (AllZip R all) (append-nil cursors) (so_far [] left)
