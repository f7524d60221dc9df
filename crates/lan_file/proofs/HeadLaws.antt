-- Bytes have one head, and where they have one no reason stands.
use Rattle.std.proofs.Common.{◌≡◌, sym, ◌∙◌, ap, subst, ℕ, zero, suc, ◌<◌, List, [], ◌∷◌, length, arith}
use Rattle.std.specs.Prelude.{Contains, Some, slice_index_or}
use Rattle.std.proofs.lemmas.List.Elements.{All-contains}
use Rattle.lan_bytes.specs.Placed.{Placed}
use Rattle.lan_wire.specs.Rules.{open_to}
use Rattle.lan_wire.proofs.Nested.{reads_as_one, reads_or_fails}
use Rattle.lan_meta.specs.declared.page.PageMeta.{PageMeta}
use Rattle.lan_meta.proofs.LawTerms.{one_column, column_fails}
use Rattle.lan_file.specs.declared.descriptor.TheConstants.{FILE_DESCRIPTOR}
use Rattle.lan_file.specs.declared.head_fault.HeadReason.{HeadReason}
use Rattle.lan_file.specs.declared.head_fault.HeadReason.TheVariants.{Missing, Size, Short, TooShort, Magic, Version, Region, Descriptor, Column, Wire, Meta, ColumnRows}
use Rattle.lan_file.specs.Descriptor.{StatesRows}
use Rattle.lan_file.specs.Heads.{Pick, placed, column_at, rows_in, IsThere, PickedColumn, PickedColumns, HasHead}
use Rattle.lan_file.specs.HeadReasons.{HeadStands}
use Rattle.lan_file.specs.Parts.{footer_of, descriptor_of, IsSmall}

one_length : (message : Placed) (m n : ℕ) → StatesRows message m → StatesRows message n → m ≡ n
one_length message m n p q = reads_as_one (open_to FILE_DESCRIPTOR) _ message m n (λ items r a b. a ∙ sym b) p q

one_picked : (bytes : List ℕ) (rows : ℕ) (pick : Pick) (ps qs : List PageMeta) → PickedColumn bytes rows pick ps → PickedColumn bytes rows pick qs → ps ≡ qs
one_picked bytes rows pick ps qs p q = one_column (placed bytes (column_at bytes pick.column)) pick.leaf (footer_of bytes).columns_at ps qs p.pages_are q.pages_are

same_cons : (x y : List PageMeta) (xs ys : List (List PageMeta)) → x ≡ y → xs ≡ ys → x ∷ xs ≡ y ∷ ys
same_cons x y xs ys p q = λ i. p i ∷ q i

all_picked : (bytes : List ℕ) (rows : ℕ) (picks : List Pick) (cs ds : List (List PageMeta)) → PickedColumns bytes rows picks cs → PickedColumns bytes rows picks ds → cs ≡ ds
all_picked bytes rows [] cs ds p q = p ∙ sym q
all_picked bytes rows (pick ∷ picks) cs ds p q = p.2 ∙ same_cons p.0 q.0 p.1 q.1 (one_picked bytes rows pick p.0 q.0 p.3 q.3) (all_picked bytes rows picks p.1 q.1 p.4 q.4) ∙ sym q.2

pub one_head : (picks : List Pick) (bytes : List ℕ) (m n : ℕ) (cs ds : List (List PageMeta)) → HasHead picks bytes m cs → HasHead picks bytes n ds → (m ≡ n) × (cs ≡ ds)
one_head picks bytes m n cs ds p q =
    let rows : m ≡ n = one_length (placed bytes (descriptor_of bytes)) m n p.rows_are q.rows_are in
    let P : ℕ → Type 0 = λ r. PickedColumns bytes r picks cs in
    (rows, all_picked bytes n picks cs ds (subst P rows p.columns_are) q.columns_are)

-- the pages of a column that is asked
record Found (bytes : List ℕ) (rows : ℕ) (pick : Pick) : Type 0 where
  pages : List PageMeta
  are : PickedColumn bytes rows pick pages

found_at : (bytes : List ℕ) (rows : ℕ) (picks : List Pick) (columns : List (List PageMeta)) (k : ℕ) (d : Pick) → PickedColumns bytes rows picks columns → k < length picks → Found bytes rows (slice_index_or picks k d)
found_at bytes rows [] columns k d p below = absurd (omega (arith, below))
found_at bytes rows (pick ∷ picks) columns zero d p below = record { pages = p.0; are = p.3 }
found_at bytes rows (pick ∷ picks) columns (suc k) d p below = found_at bytes rows picks p.1 k d p.4 (omega (arith, below))

found : (bytes : List ℕ) (rows : ℕ) (picks : List Pick) (columns : List (List PageMeta)) (pick : Pick) → PickedColumns bytes rows picks columns → Contains picks pick → Found bytes rows pick
found bytes rows picks columns pick p asked = subst (Found bytes rows) asked.2 (found_at bytes rows picks columns asked.0 pick p asked.1)

pub no_head_reason : (picks : List Pick) (bytes : List ℕ) (rows : ℕ) (columns : List (List PageMeta)) (reason : HeadReason) (place : ℕ) → IsSmall bytes → HasHead picks bytes rows columns → HeadStands picks (Some bytes) reason place → ⊥
no_head_reason picks bytes rows columns Missing place small h s = absurd (cc s.0)
no_head_reason picks bytes rows columns Size place small h s = absurd (omega (arith, s.0, small))
no_head_reason picks bytes rows columns Short place small h s = s
no_head_reason picks bytes rows columns TooShort place small h s = absurd (omega (arith, s.0, h.whole.file.long))
no_head_reason picks bytes rows columns Magic place small h s = s.2 h.whole.file.mark
no_head_reason picks bytes rows columns (Version major minor) place small h s = s.5 (sym s.3 ∙ h.whole.file.major, sym s.4 ∙ h.whole.file.minor)
no_head_reason picks bytes rows columns Region place small h s = s.2 h.whole.regions
no_head_reason picks bytes rows columns Descriptor place small h s = absurd (omega (arith, s.3, h.whole.described))
no_head_reason picks bytes rows columns (Column number) place small h s =
    let there : s.4.pick.column < (footer_of bytes).columns = All-contains (IsThere bytes) picks s.4.pick h.whole.there s.4.asked in
    absurd (omega (arith, there, s.4.is, s.5))
no_head_reason picks bytes rows columns (Wire error) place small h s = reads_or_fails (open_to FILE_DESCRIPTOR) _ (placed bytes (descriptor_of bytes)) rows error h.rows_are s.2
no_head_reason picks bytes rows columns (Meta error) place small h s =
    let r = s.2 in
    let f = found bytes rows picks columns r.pick h.columns_are r.asked in
    r.no_want (column_fails (placed bytes (column_at bytes r.pick.column)) r.pick.leaf (footer_of bytes).columns_at f.pages error f.are.pages_are r.refused)
no_head_reason picks bytes rows columns (ColumnRows number) place small h s =
    let m = s.2 in
    let f = found bytes rows picks columns m.pick h.columns_are m.asked in
    let same = one_column (placed bytes (column_at bytes m.pick.column)) m.pick.leaf (footer_of bytes).columns_at m.pages f.pages m.pages_are f.are.pages_are in
    let stated = one_length (placed bytes (descriptor_of bytes)) rows m.rows h.rows_are m.stated in
    m.differ (ap rows_in same ∙ f.are.rows_are ∙ stated)
