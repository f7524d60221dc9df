-- What opening the files of a fragment gives the readers of its fields.
use Rattle.std.proofs.Common.{◌≡◌, inl, inr, sym, ◌∙◌, ap, ap₂, refl, subst, ℕ, zero, suc, ◌<◌, ◌≤◌, Bool, true, false, cond, not, List, [], ◌∷◌, length, map, arith}
use Rattle.std.specs.Prelude.{◌⊎◌, ℤ, pos, All, bytes_eq, Option, Some, None, slice_get, slice_index_or}
use Rattle.std.specs.List.{AllZip}
use Rattle.std.specs.Option.{option_or, option_map}
use Rattle.std.proofs.lemmas.Bool.{cond_both, false≢true, or_left, or_right}
use Rattle.std.proofs.lemmas.List.Elements.{All-cons, All-head, All-nil, All-tail}
use Rattle.std.proofs.lemmas.Option.{none-some, same_Some}
use Rattle.std.proofs.lemmas.Slice.Eq.{bytes_eq-Decides}
use Rattle.lan_model.specs.Fits.{Fits}
use Rattle.lan_model.specs.Leaves.{PlainLeaf, leaves_of}
use Rattle.lan_model.specs.Plain.{PlainField, null}
use Rattle.lan_schema.specs.FieldTree.{signed}
use Rattle.lan_schema.specs.Forest.{same}
use Rattle.lan_schema.proofs.ForestLaws.{same_self}
use Rattle.lan_meta.specs.declared.page.PageMeta.{PageMeta}
use Rattle.lan_page.specs.ColumnCursors.{PlainCursor, cursor_leaf, cursor_pages, next_row}
use Rattle.lan_page.specs.Columns.{rows_of}
use Rattle.lan_store.specs.declared.name.Object.{Object}
use Rattle.lan_file.specs.Heads.{HasHead, Pick}
use Rattle.lan_manifest.specs.declared.manifest.DataFile.{DataFile}
use Rattle.lan_read.specs.Dealt.{AreColumns, AreFirst, AreOpened, AreThere, IsColumnOf, IsFirst, readers_of}
use Rattle.lan_read.specs.FieldReaders.{CanRead, MayAsk, ReaderKnows}
use Rattle.lan_read.specs.Given.{Given, GivenIn, IsWhole}
use Rattle.lan_read.specs.Grouped.{grouped, last_at, numbers_for, numbers_of}
use Rattle.lan_read.specs.Joining.{KnowsIn}
use Rattle.lan_read.specs.Opened.{AreNewCursors, AreNewReaders, CanReadFrom, IsNewCursor, IsNewReader, IsReadable, Use, and_use, column_listed, has_path, leaves_in, own_column, use_in, use_of, uses_of}
use Rattle.lan_read.specs.Rows.{IsHeld, data_name}
use Rattle.lan_read.proofs.DealtReaders.{AllUsed, Gives, Suits, fields_dealt}
use Rattle.lan_read.proofs.Grouping.{use_at}
use Rattle.lan_read.proofs.OpenedReaders.{use_given}

-- ---- a file's two facts together

abbrev Both : (List ℕ → Pick → PlainCursor → Type 0) → (List ℕ → Pick → PlainCursor → Type 0) → List ℕ → Pick → PlainCursor → Type 0
Both P Q path pick c = P path pick c × Q path pick c

zip_both : (P Q : Pick → PlainCursor → Type 0) (picks : List Pick) (cursors : List PlainCursor) → AllZip P picks cursors → AllZip Q picks cursors → AllZip (λ pick c. P pick c × Q pick c) picks cursors
zip_both P Q [] [] p q = tt
zip_both P Q [] (c ∷ cursors) p q = absurd p
zip_both P Q (pick ∷ picks) [] p q = absurd p
zip_both P Q (pick ∷ picks) (c ∷ cursors) p q = ((p.0, q.0), zip_both P Q picks cursors p.1 q.1)

opened_both : (P Q : List ℕ → Pick → PlainCursor → Type 0) (files : List DataFile) (groups : List (List Pick)) (opened : List (List PlainCursor)) → AreOpened P files groups opened → AreOpened Q files groups opened → AreOpened (Both P Q) files groups opened
opened_both P Q [] [] [] p q = tt
opened_both P Q [] [] (cs ∷ opened) p q = absurd p
opened_both P Q [] (g ∷ groups) opened p q = absurd p
opened_both P Q (file ∷ files) [] opened p q = absurd p
opened_both P Q (file ∷ files) (g ∷ groups) [] p q = absurd p
opened_both P Q (file ∷ files) (g ∷ groups) (cs ∷ opened) p q = (zip_both (P file.path) (Q file.path) g cs p.0 q.0, opened_both P Q files groups opened p.1 q.1)

-- as many as the files
pub opened_long : (P : List ℕ → Pick → PlainCursor → Type 0) (files : List DataFile) (groups : List (List Pick)) (opened : List (List PlainCursor)) → AreOpened P files groups opened → length opened ≡ length files
opened_long P [] [] [] are = refl
opened_long P [] [] (cs ∷ opened) are = absurd are
opened_long P [] (g ∷ groups) opened are = absurd are
opened_long P (file ∷ files) [] opened are = absurd are
opened_long P (file ∷ files) (g ∷ groups) [] are = absurd are
opened_long P (file ∷ files) (g ∷ groups) (cs ∷ opened) are = ap suc (opened_long P files groups opened are.1)

-- ---- a leaf's use, and whether it is given

none_first : {X : Type 0} (o p : Option X) → option_or o p ≡ None → (o ≡ None) × (p ≡ None)
none_first {X} None p none = (refl, none)
none_first {X} (Some x) p none = absurd (cc none)

first_or : {X : Type 0} (o p : Option X) (x : X) → option_or o p ≡ Some x → (o ≡ Some x) ⊎ (p ≡ Some x)
first_or {X} None p x at = inr at
first_or {X} (Some y) p x at = inl at

same_column : (file : DataFile) (leaf : PlainLeaf) (o : Option ℕ) (used : Use) → option_map (λ column. use_at file.path column leaf) o ≡ Some used → used.path ≡ file.path
same_column file leaf None used at = absurd (cc at)
same_column file leaf (Some column) used at = ap (λ (u : Use). u.path) (sym (same_Some _ used at))

-- the file of a use is one of the files
use_path : (files : List DataFile) (leaf : PlainLeaf) (used : Use) → use_of files leaf ≡ Some used → has_path files used.path ≡ true
use_path [] leaf used at = absurd (cc at)
use_path (file ∷ files) leaf used at = elim (first_or (use_in file leaf) (use_of files leaf) used at) [
  | inl here ↦ or_left (bytes_eq file.path used.path) (has_path files used.path) ((bytes_eq-Decides file.path used.path).1 (sym (same_column file leaf (column_listed file.ids file.columns (signed leaf.id)) used here)))
  | inr later ↦ or_right (bytes_eq file.path used.path) (has_path files used.path) (use_path files leaf used later)
]

none_mapped : (file : DataFile) (leaf : PlainLeaf) (o : Option ℕ) → option_map (λ column. use_at file.path column leaf) o ≡ None → o ≡ None
none_mapped file leaf None none = refl
none_mapped file leaf (Some column) none = absurd (cc none)

is_own : (own rest : Option ℕ) (b : Bool) (column : ℕ) → b ≡ true → own ≡ Some column → cond b (option_or own rest) rest ≡ None → ⊥
is_own None rest true column is at none = cc at
is_own (Some x) rest true column is at none = cc none
is_own own rest false column is at none = false≢true is

behind_own : (own rest : Option ℕ) (b : Bool) → cond b (option_or own rest) rest ≡ None → rest ≡ None
behind_own own rest true none = (none_first own rest none).1
behind_own own rest false none = none

listed_some : (ids columns : List ℤ) (id : ℤ) (column k : ℕ) → slice_get ids k ≡ Some id → slice_get columns k ≡ Some (pos column) → column_listed ids columns id ≡ None → ⊥
listed_some [] columns id column k at own none = none-some id at
listed_some (i ∷ ids) [] id column k at own none = none-some (pos column) own
listed_some (i ∷ ids) (c ∷ columns) id column zero at own none =
    is_own (own_column c) (column_listed ids columns id) (same i id) column (subst (λ (z : ℤ). same i z ≡ true) (same_Some i id at) (same_self i)) (ap own_column (same_Some c (pos column) own)) none
listed_some (i ∷ ids) (c ∷ columns) id column (suc k) at own none = listed_some ids columns id column k at own (behind_own (own_column c) (column_listed ids columns id) (same i id) none)

not_given : (files : List DataFile) (leaf : PlainLeaf) → use_of files leaf ≡ None → (file : DataFile) (k : ℕ) → k < length files → slice_index_or files k file ≡ file → (column : ℕ) → GivenIn file leaf.id column → ⊥
not_given [] leaf none file k below at column listed = omega (arith, below)
not_given (g ∷ files) leaf none file zero below at column listed =
    let here : column_listed file.ids file.columns (signed leaf.id) ≡ None =
    subst (λ (f : DataFile). column_listed f.ids f.columns (signed leaf.id) ≡ None) at (none_mapped g leaf (column_listed g.ids g.columns (signed leaf.id)) (none_first (use_in g leaf) (use_of files leaf) none).0)
    in
    listed_some file.ids file.columns (signed leaf.id) column listed.0 listed.1 listed.2 here
not_given (g ∷ files) leaf none file (suc k) below at column listed = not_given files leaf (none_first (use_in g leaf) (use_of files leaf) none).1 file k (omega (arith, below)) at column listed

-- a leaf without a use isn't given
none_given : (files : List DataFile) (leaf : PlainLeaf) → use_of files leaf ≡ None → Given files leaf → ⊥
none_given files leaf none at = not_given files leaf none at.file at.is_one.0 at.is_one.1 at.is_one.2 at.column at.listed

leaf_used : (files : List DataFile) (leaf : PlainLeaf) (o : Option Use) → use_of files leaf ≡ o → Given files leaf → (used : Use) × (use_of files leaf ≡ Some used) × (has_path files used.path ≡ true)
leaf_used files leaf None is given = absurd (none_given files leaf is given)
leaf_used files leaf (Some used) is given = (used, is, use_path files leaf used is)

all_used : (files : List DataFile) (leaves : List PlainLeaf) → All (Given files) leaves → AllUsed files leaves
all_used files [] given = tt
all_used files (leaf ∷ leaves) given = (leaf_used files leaf (use_of files leaf) refl (All-head (Given files) leaf leaves given), all_used files leaves (All-tail (Given files) leaf leaves given))

no_leaf_used : (files : List DataFile) (leaf : PlainLeaf) (o : Option Use) → use_of files leaf ≡ o → (Given files leaf → ⊥) → o ≡ None
no_leaf_used files leaf None is not = refl
no_leaf_used files leaf (Some used) is not = absurd (not (use_given files leaf used is).0)

abbrev NotGiven : List DataFile → PlainLeaf → Type 0
NotGiven files leaf = Given files leaf → ⊥

none_used : (files : List DataFile) (leaves : List PlainLeaf) → All (NotGiven files) leaves → uses_of files leaves ≡ []
none_used files [] not = refl
none_used files (leaf ∷ leaves) not =
    ap₂ and_use (no_leaf_used files leaf (use_of files leaf) refl (All-head (NotGiven files) leaf leaves not)) (none_used files leaves (All-tail (NotGiven files) leaf leaves not))

no_use_of : (o : Option Use) (uses : List Use) → and_use o uses ≡ [] → (o ≡ None) × (uses ≡ [])
no_use_of None uses none = (refl, none)
no_use_of (Some u) uses none = absurd (cc none)

without_uses : (files : List DataFile) (leaves : List PlainLeaf) → uses_of files leaves ≡ [] → All (NotGiven files) leaves
without_uses files [] none = All-nil (NotGiven files)
without_uses files (leaf ∷ leaves) none =
    let (here, later) = no_use_of (use_of files leaf) (uses_of files leaves) none in
    All-cons (NotGiven files) leaf leaves (none_given files leaf here) (without_uses files leaves later)

used_or_none : (files : List DataFile) (f : PlainField ℕ) → IsWhole files f → AllUsed files (leaves_of f 0 []) ⊎ (uses_of files (leaves_of f 0 []) ≡ [])
used_or_none files f whole = elim whole [ inl given ↦ inl (all_used files (leaves_of f 0 []) given) | inr none ↦ inr (none_used files (leaves_of f 0 []) none) ]

-- ---- the cursors may be asked

-- a cursor of a leaf, at its column's front
record IsFront (rows : ℕ) (leaf : PlainLeaf) (c : PlainCursor) : Type 0 where
  id_is : (cursor_leaf c).id ≡ leaf.id
  next_is : next_row c ≡ 0
  rows_are : rows_of (cursor_pages c) ≡ rows

abbrev First : ℕ → List ℕ → Pick → PlainCursor → Type 0
First rows path pick c = IsFirst (data_name path) rows pick c

use_leaf : (files : List DataFile) (leaf : PlainLeaf) (used : Use) → use_of files leaf ≡ Some used → used.pick.leaf ≡ leaf
use_leaf files leaf used at = ap (λ (u : Use). u.pick.leaf) (use_given files leaf used at).1

gives_front : (files : List DataFile) (rows : ℕ) → Gives (First rows) (IsFront rows) files
gives_front files rows leaf used c at first =
    subst (IsFront rows leaf) (sym first.new) (record { id_is = ap (λ (l : PlainLeaf). l.id) (first.leaf_is ∙ use_leaf files leaf used at); next_is = refl; rows_are = first.rows_are })

abbrev IdOf : PlainCursor → ℕ
IdOf c = (cursor_leaf c).id

front_ids : (rows : ℕ) (leaves : List PlainLeaf) (cursors : List PlainCursor) → AllZip (IsFront rows) leaves cursors → map (λ (c : PlainCursor). (cursor_leaf c).id) cursors ≡ map (λ (l : PlainLeaf). l.id) leaves
front_ids rows [] [] are = refl
front_ids rows [] (c ∷ cursors) are = absurd are
front_ids rows (leaf ∷ leaves) [] are = absurd are
front_ids rows (leaf ∷ leaves) (c ∷ cursors) are = ap₂ (λ (n : ℕ) (ns : List ℕ). n ∷ ns) are.0.id_is (front_ids rows leaves cursors are.1)

front_asked : (rows row : ℕ) → row < rows → (leaves : List PlainLeaf) (cursors : List PlainCursor) → AllZip (IsFront rows) leaves cursors → All (MayAsk row) cursors
front_asked rows row below [] [] are = All-nil (MayAsk row)
front_asked rows row below [] (c ∷ cursors) are = absurd are
front_asked rows row below (leaf ∷ leaves) [] are = absurd are
front_asked rows row below (leaf ∷ leaves) (c ∷ cursors) are =
    All-cons (MayAsk row) c cursors (record { order = omega (arith, are.0.next_is); there = omega (arith, below, are.0.rows_are) }) (front_asked rows row below leaves cursors are.1)

abbrev Reads : ℕ → PlainField ℕ → Option (List PlainCursor) → Type 0
Reads rows f r = (later : ℕ) → 0 ≤ later → later < rows → CanRead f later r

no_rows_or_null : (rows : ℕ) (f : PlainField ℕ) → (rows ≡ 0) ⊎ Fits f null → Reads rows f None
no_rows_or_null rows f why later from below = elim why [ inl none ↦ absurd (omega (arith, none, below)) | inr fits ↦ fits ]

suits_front : (files : List DataFile) (rows : ℕ) (f : PlainField ℕ) → IsReadable files rows f → Suits (Reads rows) (IsFront rows) files f
suits_front files rows f r = record {
  used = used_or_none files f r.whole;
  none = λ empty. no_rows_or_null rows f (r.absent (without_uses files (leaves_of f 0 []) empty));
  some = λ cursors are later from below. (front_ids rows (leaves_of f 0 []) cursors are, front_asked rows later below (leaves_of f 0 []) cursors are);
}

all_as : {X : Type 0} (P Q : X → Type 0) → ((x : X) → P x → Q x) → (xs : List X) → All P xs → All Q xs
all_as {X} P Q then xs all k d below = then (slice_index_or xs k d) (all k d below)

can_read : (rows : ℕ) (fields : List (PlainField ℕ)) (readers : List (Option (List PlainCursor))) → AllZip (Reads rows) fields readers → CanReadFrom fields 0 rows readers
can_read rows [] [] are = tt
can_read rows [] (r ∷ readers) are = absurd are
can_read rows (f ∷ fields) [] are = absurd are
can_read rows (f ∷ fields) (r ∷ readers) are = (are.0, can_read rows fields readers are.1)

-- the readers may read each row
pub dealt_can : (files : List DataFile) (rows : ℕ) (fields : List (PlainField ℕ)) (opened : List (List PlainCursor)) → All (IsReadable files rows) fields → AreFirst rows files (grouped files (uses_of files (leaves_in fields))) opened →
    CanReadFrom fields 0 rows (readers_of (map (numbers_for files) fields) opened)
dealt_can files rows fields opened readable are =
    can_read rows fields (readers_of (map (numbers_for files) fields) opened)
    (fields_dealt (First rows) (Reads rows) (IsFront rows) files (gives_front files rows) fields opened (all_as (IsReadable files rows) (Suits (Reads rows) (IsFront rows) files) (suits_front files rows) fields readable) are)

-- ---- they are new

abbrev New : List Object → ℕ → List ℕ → Pick → PlainCursor → Type 0
New all rows = Both (First rows) (λ path pick c. IsColumnOf all (data_name path) rows pick c)

abbrev HeldAs : List Object → Use → ℕ → List PageMeta → Type 0
HeldAs all used rows pages = IsHeld all (data_name used.path) (λ bytes. HasHead (used.pick ∷ []) bytes rows (pages ∷ []))

gives_new : (all : List Object) (files : List DataFile) (rows : ℕ) → Gives (New all rows) (IsNewCursor all files rows) files
gives_new all files rows leaf used c at (first, column) = record {
  used = used;
  is_first = at;
  of_leaf = first.of_leaf;
  leaf_is = first.leaf_is ∙ use_leaf files leaf used at;
  pages = first.pages;
  new = first.new;
  held = subst (HeldAs all used rows) (ap cursor_pages first.new) column;
}

new_cursors : (all : List Object) (files : List DataFile) (rows : ℕ) (leaves : List PlainLeaf) (cursors : List PlainCursor) → AllZip (IsNewCursor all files rows) leaves cursors → AreNewCursors all files rows leaves cursors
new_cursors all files rows [] [] are = tt
new_cursors all files rows [] (c ∷ cursors) are = absurd are
new_cursors all files rows (leaf ∷ leaves) [] are = absurd are
new_cursors all files rows (leaf ∷ leaves) (c ∷ cursors) are = (are.0, new_cursors all files rows leaves cursors are.1)

suits_new : (all : List Object) (files : List DataFile) (rows : ℕ) (f : PlainField ℕ) → IsReadable files rows f → Suits (IsNewReader all files rows) (IsNewCursor all files rows) files f
suits_new all files rows f r = record {
  used = used_or_none files f r.whole;
  none = λ empty. without_uses files (leaves_of f 0 []) empty;
  some = λ cursors are. new_cursors all files rows (leaves_of f 0 []) cursors are;
}

new_readers : (all : List Object) (files : List DataFile) (rows : ℕ) (fields : List (PlainField ℕ)) (readers : List (Option (List PlainCursor))) → AllZip (IsNewReader all files rows) fields readers → AreNewReaders all files rows fields readers
new_readers all files rows [] [] are = tt
new_readers all files rows [] (r ∷ readers) are = absurd are
new_readers all files rows (f ∷ fields) [] are = absurd are
new_readers all files rows (f ∷ fields) (r ∷ readers) are = (are.0, new_readers all files rows fields readers are.1)

pub dealt_new : (all : List Object) (files : List DataFile) (rows : ℕ) (fields : List (PlainField ℕ)) (opened : List (List PlainCursor)) → All (IsReadable files rows) fields →
    AreFirst rows files (grouped files (uses_of files (leaves_in fields))) opened → AreColumns all rows files (grouped files (uses_of files (leaves_in fields))) opened → AreNewReaders all files rows fields (readers_of (map (numbers_for files) fields) opened)
dealt_new all files rows fields opened readable first columns =
    new_readers all files rows fields (readers_of (map (numbers_for files) fields) opened)
    (fields_dealt (New all rows) (IsNewReader all files rows) (IsNewCursor all files rows) files (gives_new all files rows) fields opened
    (all_as (IsReadable files rows) (Suits (IsNewReader all files rows) (IsNewCursor all files rows) files) (suits_new all files rows) fields readable)
    (opened_both (First rows) (λ path pick c. IsColumnOf all (data_name path) rows pick c) files (grouped files (uses_of files (leaves_in fields))) opened first columns))

-- ---- and know what they have

fresh_knows : (all : List Object) (files : List DataFile) (rows : ℕ) (leaf : PlainLeaf) (c : PlainCursor) → IsNewCursor all files rows leaf c → KnowsIn all c
fresh_knows all files rows leaf c is = subst (KnowsIn all) (sym is.new) (record { index = λ page at. tt; rows = λ page at slots holds. tt })

fresh_know : (all : List Object) (files : List DataFile) (rows : ℕ) (leaves : List PlainLeaf) (cursors : List PlainCursor) → AreNewCursors all files rows leaves cursors → All (KnowsIn all) cursors
fresh_know all files rows [] [] are = All-nil (KnowsIn all)
fresh_know all files rows [] (c ∷ cursors) are = absurd are
fresh_know all files rows (leaf ∷ leaves) [] are = absurd are
fresh_know all files rows (leaf ∷ leaves) (c ∷ cursors) are = All-cons (KnowsIn all) c cursors (fresh_knows all files rows leaf c are.0) (fresh_know all files rows leaves cursors are.1)

reader_knows : (all : List Object) (files : List DataFile) (rows : ℕ) (f : PlainField ℕ) (r : Option (List PlainCursor)) → IsNewReader all files rows f r → ReaderKnows all r
reader_knows all files rows f None is = tt
reader_knows all files rows f (Some cursors) is = fresh_know all files rows (leaves_of f 0 []) cursors is

pub new_know : (all : List Object) (files : List DataFile) (rows : ℕ) (fields : List (PlainField ℕ)) (readers : List (Option (List PlainCursor))) → AreNewReaders all files rows fields readers → All (ReaderKnows all) readers
new_know all files rows [] [] are = All-nil (ReaderKnows all)
new_know all files rows [] (r ∷ readers) are = absurd are
new_know all files rows (f ∷ fields) [] are = absurd are
new_know all files rows (f ∷ fields) (r ∷ readers) are = All-cons (ReaderKnows all) r readers (reader_knows all files rows f r are.0) (new_know all files rows fields readers are.1)

-- ---- the numbers of files

number_within : (files : List DataFile) (path : List ℕ) → has_path files path ≡ true → last_at files path < length files
number_within [] path has = absurd (false≢true has)
number_within (file ∷ files) path has =
    cond_both (has_path files path) (suc (last_at files path)) 0 (λ (n : ℕ). n < length (file ∷ files)) (λ later. omega (arith, number_within files path later)) (λ first. omega arith)

and_numbers : (files : List DataFile) (n : ℕ) (o : Option Use) (uses : List Use) → length files ≡ n → ((used : Use) → o ≡ Some used → has_path files used.path ≡ true) → All (λ number. number < n) (numbers_of files uses) →
    All (λ number. number < n) (numbers_of files (and_use o uses))
and_numbers files n None uses long here later = later
and_numbers files n (Some used) uses long here later =
    All-cons (λ number. number < n) (last_at files used.path) (numbers_of files uses) (omega (arith, long, number_within files used.path (here used refl))) later

leaf_numbers : (files : List DataFile) (n : ℕ) (leaves : List PlainLeaf) → length files ≡ n → All (λ number. number < n) (numbers_of files (uses_of files leaves))
leaf_numbers files n [] long = All-nil (λ number. number < n)
leaf_numbers files n (leaf ∷ leaves) long = and_numbers files n (use_of files leaf) (uses_of files leaves) long (λ used at. use_path files leaf used at) (leaf_numbers files n leaves long)

-- each of the numbers is that of a file
pub numbers_there : (P : List ℕ → Pick → PlainCursor → Type 0) (files : List DataFile) (groups : List (List Pick)) (opened : List (List PlainCursor)) (fields : List (PlainField ℕ)) → AreOpened P files groups opened →
    All (λ numbers. AreThere numbers opened) (map (numbers_for files) fields)
numbers_there P files groups opened [] are = All-nil (λ (numbers : List ℕ). AreThere numbers opened)
numbers_there P files groups opened (f ∷ fields) are =
    All-cons (λ (numbers : List ℕ). AreThere numbers opened) (numbers_for files f) (map (numbers_for files) fields) (leaf_numbers files (length opened) (leaves_of f 0 []) (sym (opened_long P files groups opened are)))
    (numbers_there P files groups opened fields are)
