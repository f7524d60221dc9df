-- What a scan still asks is one budget.
use Rattle.std.proofs.Common.{◌≡◌, sym, ◌∙◌, ap, ap₂, refl, subst, ℕ, ◌+◌, false, List, [], ◌∷◌, drop}
use Rattle.std.specs.Prelude.{All, MatchOption, Option, None, Some}
use Rattle.std.specs.List.{range_with_len}
use Rattle.std.proofs.lemmas.List.Elements.{All-head}
use Rattle.std.proofs.lemmas.Option.{same_Some}
use Rattle.lan_model.specs.Leaves.{PlainLeaf, leaves_of}
use Rattle.lan_model.specs.Plain.{PlainField}
use Rattle.lan_meta.specs.declared.page.PageMeta.{PageMeta}
use Rattle.lan_page.specs.ColumnBudgets.{pages_due, still_due}
use Rattle.lan_page.specs.ColumnCursors.{PlainCursor, cursor_name}
use Rattle.lan_store.specs.Budget.{Budget, nothing, plus}
use Rattle.lan_store.specs.Objects.{object}
use Rattle.lan_store.specs.declared.name.Object.{Object}
use Rattle.lan_file.specs.Heads.{HasHead}
use Rattle.lan_file.proofs.LawTerms.{one_head}
use Rattle.lan_manifest.specs.declared.manifest.DataFile.{DataFile}
use Rattle.lan_manifest.specs.declared.manifest.Fragment.{Fragment}
use Rattle.lan_read.specs.FieldReaders.{cursors_due, values_due}
use Rattle.lan_read.specs.Given.{Given}
use Rattle.lan_read.specs.Opened.{AreNewCursors, AreNewReaders, IsNewCursor, IsNewReader, Use, opening_due}
use Rattle.lan_read.specs.Scans.{FragmentDue, FragmentsDue, HandDue, PlainScan, ScanDue, asked_fields, fragment_at_hand, readers_due, rows_at_hand}
use Rattle.lan_read.specs.Rows.{data_name}
use Rattle.lan_read.proofs.HeldColumns.{only_one}
use Rattle.lan_read.proofs.UsedColumns.{use_gives}

-- what a new cursor of a column asks for rows
abbrev column_due : List Object → List ℕ → PlainLeaf → Use → List PageMeta → Budget
column_due objects rows leaf used pages = pages_due leaf (object objects (data_name used.path)) (drop 0 pages) 0 false 0 rows

new_due : (objects : List Object) (files : List DataFile) (count : ℕ) (leaf : PlainLeaf) (c : PlainCursor) (rows : List ℕ) (new : IsNewCursor objects files count leaf c) → still_due c (object objects (cursor_name c)) rows ≡ column_due objects rows leaf new.used new.pages
new_due objects files count leaf c rows new =
    ap (λ (c : PlainCursor). still_due c (object objects (cursor_name c)) rows) new.new ∙ ap (λ (l : PlainLeaf). column_due objects rows l new.used new.pages) new.leaf_is

-- new cursors of a leaf are of one column
cursor_once : (objects : List Object) (files : List DataFile) (count : ℕ) (leaf : PlainLeaf) (c d : PlainCursor) (rows : List ℕ) → IsNewCursor objects files count leaf c → IsNewCursor objects files count leaf d
    → still_due c (object objects (cursor_name c)) rows ≡ still_due d (object objects (cursor_name d)) rows
cursor_once objects files count leaf c d rows a b =
    let used : a.used ≡ b.used = same_Some a.used b.used (sym a.is_first ∙ b.is_first) in
    let held : object objects (data_name a.used.path) ≡ Some b.held.bytes = ap (λ (u : Use). object objects (data_name u.path)) used ∙ b.held.held in
    let bytes : b.held.bytes ≡ a.held.bytes = same_Some b.held.bytes a.held.bytes (sym held ∙ a.held.held) in
    let head : HasHead (a.used.pick ∷ []) a.held.bytes count (b.pages ∷ []) =
    subst (λ (u : Use). HasHead (u.pick ∷ []) a.held.bytes count (b.pages ∷ [])) (sym used) (subst (λ (l : List ℕ). HasHead (b.used.pick ∷ []) l count (b.pages ∷ [])) bytes b.held.says)
    in
    let pages : a.pages ≡ b.pages = only_one a.pages b.pages [] (one_head (a.used.pick ∷ []) a.held.bytes count count (a.pages ∷ []) (b.pages ∷ []) a.held.says head).1 in
    new_due objects files count leaf c rows a ∙ ap₂ (column_due objects rows leaf) used pages ∙ sym (new_due objects files count leaf d rows b)

cursors_once : (objects : List Object) (files : List DataFile) (count : ℕ) (leaves : List PlainLeaf) (cs ds : List PlainCursor) (rows : List ℕ) → AreNewCursors objects files count leaves cs → AreNewCursors objects files count leaves ds
    → cursors_due objects cs rows ≡ cursors_due objects ds rows
cursors_once objects files count [] [] [] rows a b = refl
cursors_once objects files count [] [] (d ∷ ds) rows a b = absurd b
cursors_once objects files count [] (c ∷ cs) ds rows a b = absurd a
cursors_once objects files count (leaf ∷ leaves) [] ds rows a b = absurd a
cursors_once objects files count (leaf ∷ leaves) (c ∷ cs) [] rows a b = absurd b
cursors_once objects files count (leaf ∷ leaves) (c ∷ cs) (d ∷ ds) rows a b = ap₂ plus (cursor_once objects files count leaf c d rows a.0 b.0) (cursors_once objects files count leaves cs ds rows a.1 b.1)

-- of a field that isn't given there are no cursors
none_new : (objects : List Object) (files : List DataFile) (count : ℕ) (leaves : List PlainLeaf) (cs : List PlainCursor) (rows : List ℕ) → All (λ (leaf : PlainLeaf). Given files leaf → ⊥) leaves → AreNewCursors objects files count leaves cs → cursors_due objects cs rows ≡ nothing
none_new objects files count [] [] rows none new = refl
none_new objects files count [] (c ∷ cs) rows none new = absurd new
none_new objects files count (leaf ∷ leaves) [] rows none new = absurd new
none_new objects files count (leaf ∷ leaves) (c ∷ cs) rows none new =
    absurd (All-head (λ (leaf : PlainLeaf). Given files leaf → ⊥) leaf leaves none (use_gives files leaf new.0.used new.0.is_first).at)

reader_once : (objects : List Object) (files : List DataFile) (count : ℕ) (f : PlainField ℕ) (r q : Option (List PlainCursor)) (rows : List ℕ) → IsNewReader objects files count f r → IsNewReader objects files count f q → values_due objects r rows ≡ values_due objects q rows
reader_once objects files count f None None rows a b = refl
reader_once objects files count f None (Some ds) rows a b = sym (none_new objects files count (leaves_of f 0 []) ds rows a b)
reader_once objects files count f (Some cs) None rows a b = none_new objects files count (leaves_of f 0 []) cs rows b a
reader_once objects files count f (Some cs) (Some ds) rows a b = cursors_once objects files count (leaves_of f 0 []) cs ds rows a b

readers_once : (objects : List Object) (files : List DataFile) (count : ℕ) (fields : List (PlainField ℕ)) (rs qs : List (Option (List PlainCursor))) (rows : List ℕ) → AreNewReaders objects files count fields rs → AreNewReaders objects files count fields qs
    → readers_due objects rs rows ≡ readers_due objects qs rows
readers_once objects files count [] [] [] rows a b = refl
readers_once objects files count [] [] (q ∷ qs) rows a b = absurd b
readers_once objects files count [] (r ∷ rs) qs rows a b = absurd a
readers_once objects files count (f ∷ fields) [] qs rows a b = absurd a
readers_once objects files count (f ∷ fields) (r ∷ rs) [] rows a b = absurd b
readers_once objects files count (f ∷ fields) (r ∷ rs) (q ∷ qs) rows a b = ap₂ plus (reader_once objects files count f r q rows a.0 b.0) (readers_once objects files count fields rs qs rows a.1 b.1)

fragment_once : (objects : List Object) (fields : List (PlainField ℕ)) (f : Fragment) (due other : Budget) → FragmentDue objects fields f due → FragmentDue objects fields f other → due ≡ other
fragment_once objects fields f due other a b =
    a.is ∙ ap (plus (opening_due objects fields f)) (readers_once objects f.files f.rows fields a.readers b.readers (range_with_len 0 f.rows) a.new b.new) ∙ sym b.is

fragments_once : (objects : List Object) (fields : List (PlainField ℕ)) (fs : List Fragment) (due other : Budget) → FragmentsDue objects fields fs due → FragmentsDue objects fields fs other → due ≡ other
fragments_once objects fields [] due other a b = a ∙ sym b
fragments_once objects fields (f ∷ fs) due other (mine, later, first, rest, is) (his, behind, other_first, other_rest, other_is) =
    is ∙ ap₂ plus (fragment_once objects fields f mine his first other_first) (fragments_once objects fields fs later behind rest other_rest) ∙ sym other_is

-- and so what the readers at hand ask, and the fragments behind
hand_once : (objects : List Object) (readers : Option (List (Option (List PlainCursor)))) (row count : ℕ) (due other : Budget) → MatchOption readers (due ≡ nothing) (λ readers. HandDue objects readers row count due)
    → MatchOption readers (other ≡ nothing) (λ readers. HandDue objects readers row count other) → due ≡ other
hand_once objects None row count due other a b = a ∙ sym b
hand_once objects (Some readers) row count due other a b = a.is ∙ sym b.is

behind_once : (objects : List Object) (readers : Option (List (Option (List PlainCursor)))) (fields : List (PlainField ℕ)) (here behind : List Fragment) (due other : Budget)
    → MatchOption readers (FragmentsDue objects fields here due) (λ readers. FragmentsDue objects fields behind due) → MatchOption readers (FragmentsDue objects fields here other) (λ readers. FragmentsDue objects fields behind other) → due ≡ other
behind_once objects None fields here behind due other a b = fragments_once objects fields here due other a b
behind_once objects (Some readers) fields here behind due other a b = fragments_once objects fields behind due other a b

-- what a scan still asks is one
pub one_scan_due : (objects : List Object) (s : PlainScan) (due other : Budget) → ScanDue objects s due → ScanDue objects s other → due ≡ other
one_scan_due objects s due other a b =
    let hand = hand_once objects s.readers s.row (rows_at_hand (fragment_at_hand s)) a.hand b.hand a.at_hand b.at_hand in
    let fields : List (PlainField ℕ) = asked_fields s in
    let later = behind_once objects s.readers fields (drop s.fragment s.manifest.fragments) (drop (s.fragment + 1) s.manifest.fragments) a.later b.later a.behind b.behind in
    a.is ∙ ap₂ plus hand later ∙ sym b.is
