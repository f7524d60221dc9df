-- A file that is written of slots by the writer's rule is a file of these slots.
use Rattle.std.proofs.Common.{◌≡◌, ℕ, zero, suc, ◌^◌, ◌<◌, ◌≤◌, List, [], ◌∷◌, length, refl, ◌∙◌, ap, subst, arith}
use Rattle.std.specs.Prelude.{All, Some, slice_get, option_map}
use Rattle.std.proofs.lemmas.List.{length-map}
use Rattle.std.proofs.lemmas.List.Elements.{All-get_or, All-weaker}
use Rattle.std.proofs.lemmas.Option.{slice_get-map, slice_get_within, get_or_from_slice_get}
use Rattle.lan_levels.specs.PlainSlots.{PlainSlot}
use Rattle.lan_levels.specs.SlotsOf.{lists_in}
use Rattle.lan_levels.specs.ZipForm.{leaf_form}
use Rattle.lan_levels.specs.ZipWritten.{CanStand}
use Rattle.lan_model.specs.Leaves.{PlainLeaf}
use Rattle.lan_model.specs.Plain.{PlainFields}
use Rattle.lan_meta.specs.declared.page.BuiltPage.{BuiltPage}
use Rattle.lan_meta.specs.declared.page.PageMeta.{PageMeta}
use Rattle.lan_meta.specs.ColumnWritten.{written}
use Rattle.lan_zip.proofs.Written.{starts_rows}
use Rattle.lan_file.specs.FileOf.{IsFileOf, IsWritten, AreWritten, IsBuilt, AreBuilt}
use Rattle.lan_file.specs.FileText.{with_pages, pages_behind, with_columns, columns_behind, file_text}
use Rattle.lan_file.specs.Heads.{Pick}
use Rattle.lan_file.specs.SlotsWritten.{Given, columns_of, IsGiven, AreGiven}
use Rattle.lan_file.proofs.FileBack.{columns_grown, file_grown}
use Rattle.lan_file.proofs.FileLaid.{Grown, length_grown}
use Rattle.lan_file.proofs.FileStands.{file_stands}
use Rattle.lan_file.proofs.WrittenColumn.{all_stood, small_pages, all_keep, all_told, all_stand, all_rows}

-- where the pages of the column of a number lie
record Behind (before : List ℕ) (columns : List (List BuiltPage)) (n : ℕ) (column : List BuiltPage) : Type 0 where
  front : List ℕ
  there : slice_get (columns_behind before columns) n ≡ Some (pages_behind front column)
  grown : Grown (with_pages front column) (with_columns before columns)

behind_at : (before : List ℕ) (columns : List (List BuiltPage)) (n : ℕ) (column : List BuiltPage) → slice_get columns n ≡ Some column → Behind before columns n column
behind_at before [] n column e = absurd (cc e)
behind_at before (c ∷ cs) zero column e =
    let same : c ≡ column = cc in
    subst (Behind before (c ∷ cs) 0) same (record { front = before; there = refl; grown = columns_grown (with_pages before c) cs })
behind_at before (c ∷ cs) (suc n) column e =
    let b = behind_at (with_pages before c) cs n column e in
    record { front = b.front; there = b.there; grown = b.grown }

-- what follows of one column that is given
record Kept (rows : ℕ) (columns : List (List BuiltPage)) (pick : Pick) (slots : List PlainSlot) : Type 0 where
  pages : List PageMeta
  is : IsWritten rows columns pick pages
  built : IsBuilt columns pick slots

one_given : (rows : ℕ) (given : List Given) (g : Given) (n : ℕ) → All (IsGiven rows) given → slice_get given n ≡ Some g → IsGiven rows g
one_given rows given g n all e = subst (IsGiven rows) (get_or_from_slice_get given n g g e) (All-get_or (IsGiven rows) given n g (slice_get_within given n g e) all)

kept : (rows : ℕ) (given : List Given) (number : ℕ) (g : Given) → All (IsGiven rows) given → length (with_columns [] (columns_of given)) ≤ 2 ^ 63 → slice_get given number ≡ Some g → Kept rows (columns_of given) (record { column = number; leaf = g.leaf }) g.slots
kept rows given number g all small e =
    let columns = columns_of given in
    let pages = written g.leaf g.slots in
    let is = one_given rows given g number all e in
    let there : slice_get columns number ≡ Some pages = slice_get-map (λ (x : Given). written x.leaf x.slots) given number ∙ ap (λ (o : _). option_map (λ (x : Given). written x.leaf x.slots) o) e in
    let b = behind_at [] columns number pages there in
    let within = length_grown (with_pages b.front pages) (with_columns [] columns) b.grown in
    let stood = all_stood rows g.leaf g.slots is (small_pages b.front pages (omega (arith, within, small))) in
    let reps = All-weaker (CanStand (leaf_form g.leaf)) (λ (s : PlainSlot). s.rep ≤ lists_in g.leaf.layers) (λ s c. c.rep) g.slots is.can in
    record {
      pages = pages_behind b.front pages;
      is = record {
        there = b.there;
        keep = all_keep g.leaf b.front pages g.slots stood (omega (arith, within, small));
        told = all_told g.leaf b.front pages g.slots stood;
        rows_are = all_rows g.leaf b.front pages g.slots stood ∙ starts_rows (lists_in g.leaf.layers) rows g.slots reps is.rows_are;
      };
      built = record { pages = pages; there = there; stand = all_stand g.leaf pages g.slots stood };
    }

record AllKept (rows : ℕ) (columns : List (List BuiltPage)) (picks : List Pick) (slots : List (List PlainSlot)) : Type 0 where
  found : List (List PageMeta)
  written_are : AreWritten rows columns picks found
  built_are : AreBuilt columns picks slots

all_kept : (rows : ℕ) (given : List Given) (picks : List Pick) (slots : List (List PlainSlot)) → All (IsGiven rows) given → length (with_columns [] (columns_of given)) ≤ 2 ^ 63 → AreGiven given picks slots → AllKept rows (columns_of given) picks slots
all_kept rows given [] slots all small a = record { found = []; written_are = refl; built_are = a }
all_kept rows given (pick ∷ picks) slots all small a =
    let g = a.0 in
    let one : Kept rows (columns_of given) pick g.slots = subst (λ (l : PlainLeaf). Kept rows (columns_of given) (record { column = pick.column; leaf = l }) g.slots) a.4 (kept rows given pick.column g all small a.3) in
    let rest = all_kept rows given picks a.1 all small a.5 in
    record {
      found = one.pages ∷ rest.found;
      written_are = (one.pages, rest.found, refl, one.is, rest.written_are);
      built_are = (g.slots, a.1, a.2, one.built, rest.built_are);
    }

pub slots_are_a_file : (fields : PlainFields ℕ) (rows : ℕ) (given : List Given) (picks : List Pick) (slots : List (List PlainSlot)) → rows < 2 ^ 64 → length given < 2 ^ 32 → All (IsGiven rows) given → length (file_text fields rows (columns_of given)) ≤ 2 ^ 63
    → AreGiven given picks slots → IsFileOf picks (file_text fields rows (columns_of given)) rows slots
slots_are_a_file fields rows given picks slots few few_columns all small a =
    let columns = columns_of given in
    let file = file_text fields rows columns in
    let within = length_grown (with_columns [] columns) file (file_grown fields rows columns) in
    let k = all_kept rows given picks slots all (omega (arith, within, small)) a in
    file_stands fields rows columns picks k.found slots few (omega (arith, length-map given (λ (g : Given). written g.leaf g.slots), few_columns)) (omega (arith, small)) k.written_are k.built_are
