-- The columns that are asked, one after another.
use Rattle.std.proofs.Common.{◌≡◌, ◌⊎◌, inl, inr, sym, ◌∙◌, refl, ap, subst, ℕ, ◌+◌, ◌<◌, ◌≤◌, List, [], ◌∷◌, ◌++◌, length, take}
use Rattle.std.specs.Prelude.{Some, Err, slice_index_or}
use Rattle.std.proofs.lemmas.List.{map_more, take_all, map_push}
use Rattle.lan_bytes.specs.Placed.{Placed}
use Rattle.lan_meta.specs.declared.message.MetaFault.{MetaFault}
use Rattle.lan_meta.specs.declared.message.MetaFault.TheVariants as meta
use Rattle.lan_meta.specs.Columns.{RefusesColumn}
use Rattle.lan_meta.specs.declared.page.ColumnMeta.{ColumnMeta}
use Rattle.lan_meta.specs.declared.page.PageMeta.{PageMeta}
use Rattle.lan_file.specs.declared.head.ColumnPick.{ColumnPick}
use Rattle.lan_file.specs.declared.head_fault.HeadFault.{HeadFault}
use Rattle.lan_file.specs.declared.head_fault.HeadFault.TheVariants.{Outside, Memory}
use Rattle.lan_file.specs.declared.head_fault.HeadReason.TheVariants.{Meta, ColumnRows}
use Rattle.lan_file.specs.declared.tail.Extent.{Extent}
use Rattle.lan_file.specs.declared.tables.Tables.{Tables}
use Rattle.lan_file.specs.Descriptor.{StatesRows}
use Rattle.lan_file.specs.Heads.{Pick, pick_of, picks_of, placed, column_at, IsWhole, PickedColumn, PickedColumns}
use Rattle.lan_file.specs.HeadReasons.{HeadBreaks}
use Rattle.lan_file.specs.HeadSteps.{meta_fault, pages_of, JudgesPick, FailsAtPick}
use Rattle.lan_file.specs.Parts.{part, footer_of, descriptor_of, IsSmall}
use Rattle.lan_file.specs.Tables.{IsTablesOf, descriptor_in}
use Rattle.lan_file.proofs.TablesRead.{descriptor_there}

-- one more
picked_push : (bytes : List ℕ) (rows : ℕ) (picks : List Pick) (columns : List (List PageMeta)) (pick : Pick) (pages : List PageMeta) → PickedColumns bytes rows picks columns → PickedColumn bytes rows pick pages
    → PickedColumns bytes rows (picks ++ pick ∷ []) (columns ++ pages ∷ [])
picked_push bytes rows [] columns pick pages are is = (pages, [], ap (λ (cs : List (List PageMeta)). cs ++ pages ∷ []) are, is, refl)
picked_push bytes rows (p ∷ picks) columns pick pages are is =
    (are.0, are.1 ++ pages ∷ [], ap (λ (cs : List (List PageMeta)). cs ++ pages ∷ []) are.2, are.3, picked_push bytes rows picks are.1 pick pages are.4 is)

pub picked_more : (bytes : List ℕ) (rows : ℕ) (picks : List ColumnPick) (i : ℕ) (pick : ColumnPick) (before after : List ColumnMeta) (column : ColumnMeta) → i < length picks → pick ≡ slice_index_or picks i pick → after ≡ before ++ column ∷ []
    → PickedColumns bytes rows (picks_of (take i picks)) (pages_of before) → PickedColumn bytes rows (pick_of pick) column.pages → PickedColumns bytes rows (picks_of (take (i + 1) picks)) (pages_of after)
picked_more bytes rows picks i pick before after column below is grown are one =
    let picks_are : picks_of (take (i + 1) picks) ≡ picks_of (take i picks) ++ pick_of pick ∷ [] = map_more pick_of picks i pick below ∙ ap (λ (p : ColumnPick). picks_of (take i picks) ++ pick_of p ∷ []) (sym is) in
    let columns_are : pages_of after ≡ pages_of before ++ column.pages ∷ [] = ap pages_of grown ∙ map_push (λ (c : ColumnMeta). c.pages) before column in
    let P : List Pick → Type 0 = λ ps. PickedColumns bytes rows ps (pages_of after) in
    let Q : List (List PageMeta) → Type 0 = λ cs. PickedColumns bytes rows (picks_of (take i picks) ++ pick_of pick ∷ []) cs in
    subst P (sym picks_are) (subst Q (sym columns_are) (picked_push bytes rows (picks_of (take i picks)) (pages_of before) (pick_of pick) column.pages are one))

pub picked_all : (bytes : List ℕ) (rows : ℕ) (picks : List ColumnPick) (i : ℕ) (columns : List ColumnMeta) → length picks ≤ i → PickedColumns bytes rows (picks_of (take i picks)) (pages_of columns) → PickedColumns bytes rows (picks_of picks) (pages_of columns)
picked_all bytes rows picks i columns past are =
    let P : List ColumnPick → Type 0 = λ ps. PickedColumns bytes rows (picks_of ps) (pages_of columns) in
    subst P (take_all i picks past) are

-- a fault of column metadata as one of the file
pub pick_refused : (bytes : List ℕ) (rows : ℕ) (pick : Pick) (error : MetaFault) → RefusesColumn (placed bytes (column_at bytes pick.column)) pick.leaf (footer_of bytes).columns_at error → JudgesPick bytes rows pick (Err (meta_fault error))
pick_refused bytes rows pick (meta.Wire f) refused = (refused, λ e. absurd (cc e), refl)
pick_refused bytes rows pick (meta.Unsupported m n at) refused = (refused, λ e. absurd (cc e), refl)
pick_refused bytes rows pick (meta.Missing m n) refused = (refused, λ e. absurd (cc e), refl)
pick_refused bytes rows pick (meta.Layers at) refused = (refused, λ e. absurd (cc e), refl)
pick_refused bytes rows pick (meta.Counts at) refused = (refused, λ e. absurd (cc e), refl)
pick_refused bytes rows pick (meta.Values at) refused = (refused, λ e. absurd (cc e), refl)
pick_refused bytes rows pick (meta.Bits at) refused = (refused, λ e. absurd (cc e), refl)
pick_refused bytes rows pick (meta.Region at) refused = (refused, λ e. absurd (cc e), refl)
pick_refused bytes rows pick meta.Memory refused = tt

-- a pick that fails is a reason
pick_breaks : (picks : List Pick) (bytes : List ℕ) (rows : ℕ) (fault : HeadFault) → IsSmall bytes → IsWhole picks bytes → StatesRows (placed bytes (descriptor_of bytes)) rows → FailsAtPick bytes rows picks fault → HeadBreaks picks (Some bytes) fault
pick_breaks picks bytes rows (Outside (Meta error) place) small whole stated f =
    (small, whole, record { pick = f.pick; asked = f.asked; refused = f.judged.0; no_want = f.judged.1 }, f.judged.2)
pick_breaks picks bytes rows (Outside (ColumnRows number) place) small whole stated f =
    let other = f.judged.2 in
    (small, whole, record { pick = f.pick; asked = f.asked; is = sym f.judged.0; pages = other.pages; pages_are = other.pages_are; rows = rows; stated = stated; differ = other.differ }, f.judged.1)
pick_breaks picks bytes rows Memory small whole stated f = tt
pick_breaks picks bytes rows fault small whole stated f = absurd f.judged

pub picks_break : (picks : List Pick) (bytes : List ℕ) (rows : ℕ) (fault : HeadFault) → IsSmall bytes → IsWhole picks bytes → StatesRows (placed bytes (descriptor_of bytes)) rows → (fault ≡ Memory) ⊎ FailsAtPick bytes rows picks fault
    → HeadBreaks picks (Some bytes) fault
picks_break picks bytes rows fault small whole stated fails = elim fails [ inl want ↦ subst (HeadBreaks picks (Some bytes)) (sym want) tt | inr f ↦ pick_breaks picks bytes rows fault small whole stated f ]

-- the descriptor that was read is the file's
pub descriptor_placed : (bytes : List ℕ) (t : Tables) (d : Extent) (view : Placed) (message : List ℕ) → IsTablesOf bytes t → 0 < t.footer.globals → d ≡ descriptor_in t → view ≡ record { base = d.at; bytes = message } → message ≡ part bytes d.at d.size
    → view ≡ placed bytes (descriptor_of bytes)
descriptor_placed bytes t d view message is some at view_is found =
    let there : d ≡ descriptor_of bytes = at ∙ descriptor_there bytes t is some in
    view_is ∙ ap (λ (l : List ℕ). record { base = d.at; bytes = l }) found ∙ ap (λ (e : Extent). placed bytes e) there
