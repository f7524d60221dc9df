-- What is written of columns has them at their places, and its head is read.
use Rattle.std.proofs.Common.{◌≡◌, refl, sym, ◌∙◌, ap, subst, ℕ, zero, suc, ◌+◌, ◌*◌, ◌^◌, ◌<◌, ◌≤◌, List, [], ◌∷◌, ◌++◌, length, drop, map, arith, length-append, append_assoc}
use Rattle.std.specs.Prelude.{All, Some, slice_get}
use Rattle.std.proofs.lemmas.List.{length-map, map-append}
use Rattle.std.proofs.lemmas.List.Elements.{All-nil, All-cons}
use Rattle.lan_bytes.specs.Placed.{Placed}
use Rattle.lan_model.specs.declared.range.Range.{Range}
use Rattle.lan_model.specs.Plain.{PlainFields}
use Rattle.lan_wire.specs.Rules.{open_to}
use Rattle.lan_wire.specs.Written.{items_placed}
use Rattle.lan_wire.proofs.LawTerms.{written_read, all_short, num_back}
use Rattle.lan_meta.specs.declared.page.BuiltPage.{BuiltPage}
use Rattle.lan_meta.specs.declared.page.PageMeta.{PageMeta}
use Rattle.lan_meta.specs.Columns.{ColumnOf}
use Rattle.lan_meta.specs.PageOf.{buffers_in}
use Rattle.lan_meta.specs.PageRules.{EndBefore}
use Rattle.lan_meta.specs.Written.{column_text}
use Rattle.lan_meta.proofs.LawTerms.{kept_back}
use Rattle.lan_file.specs.declared.descriptor.TheConstants.{FILE_DESCRIPTOR}
use Rattle.lan_file.specs.declared.tail.Extent.{Extent}
use Rattle.lan_file.specs.declared.tail.Footer.{Footer}
use Rattle.lan_file.specs.Descriptor.{StatesRows, descriptor_written, descriptor_text}
use Rattle.lan_file.specs.FileOf.{IsWritten, AreWritten}
use Rattle.lan_file.specs.FileText.{with_buffers, places_behind, with_pages, page_behind, pages_behind, with_columns, columns_behind, file_text}
use Rattle.lan_file.specs.Heads.{Pick, placed, column_at, LiesRight, IsThere, PickedColumn, PickedColumns, HasHead}
use Rattle.lan_file.specs.Parts.{part, footer_in, footer_of, extent_in, descriptor_of}
use Rattle.lan_file.specs.Writing.{aligned, footer_for}
use Rattle.lan_file.proofs.FileLaid.{Grown, grown_none, grown_by, grown_then, length_grown, aligned_grown, FileLaid, MessageLaid, file_laid}
use Rattle.lan_file.proofs.PartLemmas.{part-here}
use Rattle.lan_file.proofs.Entries.{written_footer, footer_read, entry_read, mark_written}

-- ---- bytes only grow

pub buffers_grown : (before : List ℕ) (buffers : List (List ℕ)) → Grown before (with_buffers before buffers)
buffers_grown before [] = grown_none before
buffers_grown before (b ∷ bs) =
    let next : List ℕ = aligned before ++ b in
    grown_then before next (with_buffers next bs) (grown_then before (aligned before) next (aligned_grown before) (grown_by (aligned before) b)) (buffers_grown next bs)

pub pages_grown : (before : List ℕ) (pages : List BuiltPage) → Grown before (with_pages before pages)
pages_grown before [] = grown_none before
pages_grown before (p ∷ ps) = grown_then before (with_buffers before p.buffers) (with_pages (with_buffers before p.buffers) ps) (buffers_grown before p.buffers) (pages_grown (with_buffers before p.buffers) ps)

pub columns_grown : (before : List ℕ) (columns : List (List BuiltPage)) → Grown before (with_columns before columns)
columns_grown before [] = grown_none before
columns_grown before (c ∷ cs) = grown_then before (with_pages before c) (with_columns (with_pages before c) cs) (pages_grown before c) (columns_grown (with_pages before c) cs)

-- ---- buffers end before what is behind them

pub buffers_end : (before : List ℕ) (buffers : List (List ℕ)) (end : ℕ) → length (with_buffers before buffers) ≤ end → EndBefore end (places_behind before buffers)
buffers_end before [] end within = All-nil (λ (r : Range). r.at + r.len ≤ end)
buffers_end before (b ∷ bs) end within =
    let next : List ℕ = aligned before ++ b in
    let grown = length_grown next (with_buffers next bs) (buffers_grown next bs) in
    All-cons (λ (r : Range). r.at + r.len ≤ end) (record { at = length (aligned before); len = length b }) (places_behind next bs) (omega (arith, within, grown, length-append (aligned before) b)) (buffers_end next bs end within)

abbrev Ends : ℕ → PageMeta → Type 0
Ends end page = EndBefore end page.buffers

pages_end : (before : List ℕ) (pages : List BuiltPage) (end : ℕ) → length (with_pages before pages) ≤ end → All (Ends end) (pages_behind before pages)
pages_end before [] end within = All-nil (Ends end)
pages_end before (p ∷ ps) end within =
    let next = with_buffers before p.buffers in
    All-cons (Ends end) (page_behind before p) (pages_behind next ps) (buffers_end before p.buffers end (omega (arith, within, length_grown next (with_pages next ps) (pages_grown next ps)))) (pages_end next ps end within)

column_ends : (before : List ℕ) (columns : List (List BuiltPage)) (end n : ℕ) (pages : List PageMeta) → length (with_columns before columns) ≤ end → slice_get (columns_behind before columns) n ≡ Some pages → All (Ends end) pages
column_ends before [] end n pages within is = absurd (cc is)
column_ends before (c ∷ cs) end zero pages within is =
    let next = with_pages before c in
    let same : pages_behind before c ≡ pages = cc in
    subst (All (Ends end)) same (pages_end before c end (omega (arith, within, length_grown next (with_columns next cs) (columns_grown next cs))))
column_ends before (c ∷ cs) end (suc n) pages within is = column_ends (with_pages before c) cs end n pages within is

-- ---- the descriptor

pub descriptor_back : (at rows : ℕ) (schema : PlainFields ℕ) → rows < 2 ^ 64 → length (descriptor_text schema rows) < 2 ^ 64 → StatesRows (record { base = at; bytes = descriptor_text schema rows }) rows
descriptor_back at rows schema few small =
    let written = descriptor_written schema rows in
    record {
      items = items_placed at written;
      reads = written_read (open_to FILE_DESCRIPTOR) at written (record { low = omega arith; up = omega arith; room = refl; spells = tt; fits = tt }, (record { low = omega arith; up = omega arith; room = refl; spells = few; fits = tt }, tt))
          (all_short written small);
      said = sym (num_back 2 at written rows refl);
    }

-- ---- the item of a number splits a list

record Split {X : Type 0} (xs : List X) (n : ℕ) (x : X) : Type 0 where
  before : List X
  after : List X
  is : xs ≡ before ++ x ∷ after
  count : length before ≡ n

split : {X : Type 0} (xs : List X) (n : ℕ) (x : X) → slice_get xs n ≡ Some x → Split xs n x
split {X} [] n x is = absurd (cc is)
split {X} (y ∷ ys) zero x is =
    let same : y ≡ x = cc in
    record { before = []; after = ys; is = ap (λ (z : X). z ∷ ys) same; count = refl }
split {X} (y ∷ ys) (suc n) x is =
    let rest = split ys n x is in
    record { before = y ∷ rest.before; after = rest.after; is = ap (λ (zs : List X). y ∷ zs) rest.is; count = omega (arith, rest.count) }

length-columns_behind : (before : List ℕ) (columns : List (List BuiltPage)) → length (columns_behind before columns) ≡ length columns
length-columns_behind before [] = refl
length-columns_behind before (c ∷ cs) = omega (arith, length-columns_behind (with_pages before c) cs)

-- what is known of a file that is written of these columns
record Known (file : List ℕ) (rows : ℕ) (schema : PlainFields ℕ) (columns : List (List BuiltPage)) : Type 0 where
  laid : FileLaid file (with_columns [] columns) (descriptor_text schema rows) (map column_text (columns_behind [] columns))
  small : length file < 2 ^ 64
  few_rows : rows < 2 ^ 64
  footer : footer_of file ≡ written_footer laid.first laid.table (length columns)
  long : length file ≡ laid.table + 16 * length columns + 56

pub count_is : (columns : List (List BuiltPage)) → length (map column_text (columns_behind [] columns)) ≡ length columns
count_is columns = length-map (columns_behind [] columns) column_text ∙ length-columns_behind [] columns

known : (schema : PlainFields ℕ) (rows : ℕ) (columns : List (List BuiltPage)) → length (file_text schema rows columns) < 2 ^ 64 → rows < 2 ^ 64 → length columns < 2 ^ 32 → Known (file_text schema rows columns) rows schema columns
unfolding file_text
known schema rows columns small few few_columns =
    let messages = map column_text (columns_behind [] columns) in
    let l = file_laid (with_columns [] columns) (descriptor_text schema rows) messages in
    let count = count_is columns in
    let long = l.long ∙ ap (λ (n : ℕ). l.table + 16 * n + 56) count in
    record {
      laid = l;
      small = small;
      few_rows = few;
      footer = ap footer_in (l.tail ∙ ap (footer_for l.first l.table) count) ∙ footer_read l.first l.table (length columns) (omega (arith, long, small, l.ordered)) (omega (arith, long, small)) few_columns;
      long = long;
    }

-- ---- the columns that are asked

column_is : (file : List ℕ) (rows : ℕ) (schema : PlainFields ℕ) (columns : List (List BuiltPage)) (k : Known file rows schema columns) (pick : Pick) (pages : List PageMeta) → IsWritten rows columns pick pages
    → MessageLaid file k.laid.first k.laid.table pick.column (column_text pages)
column_is file rows schema columns k pick pages w =
    let s = split (columns_behind [] columns) pick.column pages w.there in
    let is : map column_text (columns_behind [] columns) ≡ map column_text s.before ++ column_text pages ∷ map column_text s.after = ap (map column_text) s.is ∙ map-append column_text s.before (pages ∷ s.after) in
    let count : length (map column_text s.before) ≡ pick.column = length-map s.before column_text ∙ s.count in
    subst (λ (n : ℕ). MessageLaid file k.laid.first k.laid.table n (column_text pages)) count (k.laid.message (map column_text s.before) (map column_text s.after) (column_text pages) is)

pick_there : (file : List ℕ) (rows : ℕ) (schema : PlainFields ℕ) (columns : List (List BuiltPage)) (k : Known file rows schema columns) (pick : Pick) (pages : List PageMeta) → IsWritten rows columns pick pages → pick.column < length columns
pick_there file rows schema columns k pick pages w =
    let s = split (columns_behind [] columns) pick.column pages w.there in
    omega (arith, length-columns_behind [] columns, ap length s.is, length-append s.before (pages ∷ s.after), s.count)

place_is : (file : List ℕ) (rows : ℕ) (schema : PlainFields ℕ) (columns : List (List BuiltPage)) (k : Known file rows schema columns) (pick : Pick) (pages : List PageMeta) (w : IsWritten rows columns pick pages)
    → column_at file pick.column ≡ record { at = (column_is file rows schema columns k pick pages w).at; size = length (column_text pages) }
place_is file rows schema columns k pick pages w =
    let m = column_is file rows schema columns k pick pages w in
    ap (λ (f : Footer). extent_in (part file (f.column_table + 16 * pick.column) 16)) k.footer
    ∙ ap extent_in m.entry
    ∙ entry_read m.at (length (column_text pages)) (omega (arith, m.before, k.long, k.small)) (omega (arith, m.before, k.long, k.small))

pick_back : (file : List ℕ) (rows : ℕ) (schema : PlainFields ℕ) (columns : List (List BuiltPage)) → Known file rows schema columns → (pick : Pick) (pages : List PageMeta) → IsWritten rows columns pick pages → PickedColumn file rows pick pages
pick_back file rows schema columns k pick pages w =
    let m = column_is file rows schema columns k pick pages w in
    let e = place_is file rows schema columns k pick pages w in
    let first : (footer_of file).columns_at ≡ k.laid.first = ap (λ (f : Footer). f.columns_at) k.footer in
    let ends : All (λ (p : PageMeta). EndBefore k.laid.first p.buffers) pages = column_ends [] columns k.laid.first pick.column pages k.laid.buffers_before w.there in
    let back : ColumnOf (record { base = m.at; bytes = column_text pages }) pick.leaf k.laid.first pages =
    kept_back pick.leaf k.laid.first m.at pages w.keep w.told ends (omega (arith, k.laid.ordered, k.long, k.small)) (omega (arith, w.rows_are, k.few_rows)) (omega (arith, m.before, k.long, k.small)) in
    let there : placed file (column_at file pick.column) ≡ record { base = m.at; bytes = column_text pages } = ap (placed file) e ∙ ap (λ (l : List ℕ). record { base = m.at; bytes = l }) m.is in
    let P : Placed → Type 0 = λ p. ColumnOf p pick.leaf k.laid.first pages in
    let Q : ℕ → Type 0 = λ n. ColumnOf (placed file (column_at file pick.column)) pick.leaf n pages in
    record {
      pages_are = subst Q (sym first) (subst P (sym there) back);
      rows_are = w.rows_are;
    }

lies : (file : List ℕ) (rows : ℕ) (schema : PlainFields ℕ) (columns : List (List BuiltPage)) (k : Known file rows schema columns) (pick : Pick) (pages : List PageMeta) → IsWritten rows columns pick pages → LiesRight file pick
lies file rows schema columns k pick pages w = λ there.
    let m = column_is file rows schema columns k pick pages w in
    let e = place_is file rows schema columns k pick pages w in
    let at = ap (λ (x : Extent). x.at) e in
    let size = ap (λ (x : Extent). x.size) e in
    record {
      behind = omega (arith, at, m.behind, ap (λ (f : Footer). f.columns_at) k.footer);
      before = omega (arith, at, size, m.before, ap (λ (f : Footer). f.column_table) k.footer);
    }

all_lie : (file : List ℕ) (rows : ℕ) (schema : PlainFields ℕ) (columns : List (List BuiltPage)) (k : Known file rows schema columns) (picks : List Pick) (found : List (List PageMeta)) → AreWritten rows columns picks found → All (LiesRight file) picks
all_lie file rows schema columns k [] found w = All-nil (LiesRight file)
all_lie file rows schema columns k (pick ∷ picks) found w = All-cons (LiesRight file) pick picks (lies file rows schema columns k pick w.0 w.3) (all_lie file rows schema columns k picks w.1 w.4)

all_there : (file : List ℕ) (rows : ℕ) (schema : PlainFields ℕ) (columns : List (List BuiltPage)) (k : Known file rows schema columns) (picks : List Pick) (found : List (List PageMeta)) → AreWritten rows columns picks found → All (IsThere file) picks
all_there file rows schema columns k [] found w = All-nil (IsThere file)
all_there file rows schema columns k (pick ∷ picks) found w =
    All-cons (IsThere file) pick picks (omega (arith, pick_there file rows schema columns k pick w.0 w.3, ap (λ (f : Footer). f.columns) k.footer)) (all_there file rows schema columns k picks w.1 w.4)

all_back : (file : List ℕ) (rows : ℕ) (schema : PlainFields ℕ) (columns : List (List BuiltPage)) → Known file rows schema columns → (picks : List Pick) (found : List (List PageMeta)) → AreWritten rows columns picks found → PickedColumns file rows picks found
all_back file rows schema columns k [] found w = w
all_back file rows schema columns k (pick ∷ picks) found w = (w.0, w.1, w.2, pick_back file rows schema columns k pick w.0 w.3, all_back file rows schema columns k picks w.1 w.4)

head_back : (file : List ℕ) (rows : ℕ) (schema : PlainFields ℕ) (columns : List (List BuiltPage)) → Known file rows schema columns → (picks : List Pick) (found : List (List PageMeta)) → AreWritten rows columns picks found → HasHead picks file rows found
head_back file rows schema columns k picks found w =
    let l = k.laid in
    let count = count_is columns in
    let descriptor = descriptor_text schema rows in
    let first = ap (λ (f : Footer). f.columns_at) k.footer in
    let table = ap (λ (f : Footer). f.column_table) k.footer in
    let globals_at = ap (λ (f : Footer). f.globals_table) k.footer in
    let globals = ap (λ (f : Footer). f.globals) k.footer in
    let number = ap (λ (f : Footer). f.columns) k.footer in
    let size : length descriptor < 2 ^ 64 = omega (arith, l.descriptor_before, l.ordered, k.long, k.small) in
    let entry : descriptor_of file ≡ record { at = l.descriptor_at; size = length descriptor } =
    ap (λ (n : ℕ). extent_in (part file n 16)) (globals_at ∙ ap (λ (n : ℕ). l.table + 16 * n) (sym count)) ∙ ap extent_in l.descriptor_entry ∙ entry_read l.descriptor_at (length descriptor) (omega (arith, l.descriptor_before, l.ordered, k.long, k.small)) size in
    let there : placed file (descriptor_of file) ≡ record { base = l.descriptor_at; bytes = descriptor } = ap (placed file) entry ∙ ap (λ (b : List ℕ). record { base = l.descriptor_at; bytes = b }) l.descriptor_is in
    record {
      whole = record {
        file = record {
          long = omega (arith, k.long);
          mark = ap (drop 36) l.tail ∙ mark_written l.first l.table (length (map column_text (columns_behind [] columns)));
          major = ap (λ (f : Footer). f.major) k.footer;
          minor = ap (λ (f : Footer). f.minor) k.footer;
        };
        regions = record {
          tables = record {
            columns = omega (arith, first, table, l.ordered);
            column_table = omega (arith, table, number, globals_at);
            globals_table = omega (arith, globals_at, globals, k.long);
          };
          descriptor = λ some. omega (arith, ap (λ (x : Extent). x.at) entry, ap (λ (x : Extent). x.size) entry, l.descriptor_before, first);
          columns = all_lie file rows schema columns k picks found w;
        };
        described = omega (arith, globals);
        there = all_there file rows schema columns k picks found w;
      };
      rows_are = subst (λ (p : Placed). StatesRows p rows) (sym there) (descriptor_back l.descriptor_at rows schema k.few_rows size);
      columns_are = all_back file rows schema columns k picks found w;
    }

pub file_back : (schema : PlainFields ℕ) (rows : ℕ) (columns : List (List BuiltPage)) (picks : List Pick) (found : List (List PageMeta)) → rows < 2 ^ 64 → length columns < 2 ^ 32 → length (file_text schema rows columns) < 2 ^ 64 → AreWritten rows columns picks found
    → HasHead picks (file_text schema rows columns) rows found
file_back schema rows columns picks found few few_columns small w = head_back (file_text schema rows columns) rows schema columns (known schema rows columns small few few_columns) picks found w

-- ---- buffers at their places

pub buffers_there : (before : List ℕ) (buffers : List (List ℕ)) (file : List ℕ) → Grown (with_buffers before buffers) file → buffers_in file (places_behind before buffers) ≡ buffers
buffers_there before [] file g = refl
buffers_there before (b ∷ bs) file g =
    let next : List ℕ = aligned before ++ b in
    let whole = grown_then next (with_buffers next bs) file (buffers_grown next bs) g in
    let is : file ≡ aligned before ++ (b ++ whole.more) = whole.is ∙ append_assoc (aligned before) b whole.more in
    let here : part file (length (aligned before)) (length b) ≡ b = ap (λ (l : List ℕ). part l (length (aligned before)) (length b)) is ∙ part-here (aligned before) b whole.more (length (aligned before)) (length b) refl refl in
    let rest = buffers_there next bs file g in
    λ i. here i ∷ rest i

pub file_grown : (schema : PlainFields ℕ) (rows : ℕ) (columns : List (List BuiltPage)) → Grown (with_columns [] columns) (file_text schema rows columns)
unfolding file_text
file_grown schema rows columns = (file_laid (with_columns [] columns) (descriptor_text schema rows) (map column_text (columns_behind [] columns))).grown
