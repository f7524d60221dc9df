-- What opening a file of which columns are read asks and gives, and why it isn't opened.
use Rattle.std.proofs.Common.{◌≡◌, sym, ◌∙◌, refl, subst, ℕ, ◌<◌, ◌≤◌, ◌^◌, List, [], ◌∷◌, length, map, arith}
use Rattle.std.specs.Prelude.{All, IsSomeAnd, Option, Some, None}
use Rattle.std.specs.List.{AllZip}
use Rattle.std.proofs.lemmas.List.{get_or-map, length-map}
use Rattle.std.proofs.lemmas.List.Elements.{All-cons, All-head, All-nil, All-tail}
use Rattle.lan_meta.specs.declared.page.ColumnMeta.{ColumnMeta}
use Rattle.lan_meta.specs.declared.page.PageMeta.{PageMeta}
use Rattle.lan_page.specs.ColumnCursors.{PlainCursor, cursor_pages}
use Rattle.lan_store.specs.Budget.{Asks, ranges}
use Rattle.lan_store.specs.Objects.{object}
use Rattle.lan_store.specs.Telling.{Telling}
use Rattle.lan_store.specs.declared.name.Dir.TheVariants.{Data}
use Rattle.lan_store.specs.declared.name.Name.{Name}
use Rattle.lan_store.specs.declared.name.Object.{Object}
use Rattle.lan_file.specs.HeadReasons.{HeadBreaks}
use Rattle.lan_file.specs.HeadSteps.{pages_of}
use Rattle.lan_file.specs.Heads.{HasHead, IsThere, LiesRight, Pick, PickedColumn, PickedColumns, head_budget, pick_of, picks_of}
use Rattle.lan_file.specs.Parts.{IsSmall}
use Rattle.lan_file.specs.declared.head.ColumnPick.{ColumnPick}
use Rattle.lan_file.specs.declared.head_fault.HeadFault.{HeadFault}
use Rattle.lan_file.specs.declared.head_fault.HeadFault.TheVariants as head
use Rattle.lan_read.specs.Dealt.{IsColumnOf, RefusesFile, fault_of, file_due}
use Rattle.lan_read.specs.Grouped.{IsLow}
use Rattle.lan_read.specs.Opened.{head_due}
use Rattle.lan_read.specs.Rows.{data_name}

pub name_is : (name : Name) (path text : List ℕ) → (name.dir ≡ Data) × (name.rest ≡ text) → text ≡ path → name ≡ data_name path
name_is name path text (dir, rest) same = λ i. record { dir = dir i; rest = (rest ∙ same) i }

-- ---- the picks

pub low_each : (picks : List ColumnPick) → All IsLow (picks_of picks) → All (λ (pick : ColumnPick). length pick.leaf.layers ≤ 16) picks
low_each picks low k d below = subst IsLow (get_or-map pick_of picks k d (pick_of d) below) (low k (pick_of d) (omega (arith, below, length-map picks pick_of)))

pub some_picks : (picks : List ColumnPick) → (picks ≡ [] → ⊥) → picks_of picks ≡ [] → ⊥
some_picks [] some none = some refl
some_picks (pick ∷ picks) some none = absurd (cc none)

many_picks : (picks : List Pick) → (picks ≡ [] → ⊥) → 0 < length picks
many_picks [] some = absurd (some refl)
many_picks (pick ∷ picks) some = omega arith

-- ---- what is asked

head_asked : (held : Option (List ℕ)) (s t : Telling) → ((bytes : List ℕ) → held ≡ Some bytes → Asks (head_budget bytes) s t) → Asks (ranges 3) s t → Asks (head_due held) s t
head_asked None s t asks most = most
head_asked (Some bytes) s t asks most = asks bytes refl

pub file_asked : (objects : List Object) (path : List ℕ) (name : Name) (picks : List Pick) (s t : Telling) → name ≡ data_name path → (picks ≡ [] → ⊥) → ((bytes : List ℕ) → object objects name ≡ Some bytes → Asks (head_budget bytes) s t) → Asks (ranges 3) s t
    → Asks (file_due objects path picks) s t
file_asked objects path name [] s t named some asks most = absurd (some refl)
file_asked objects path name (pick ∷ picks) s t named some asks most =
    subst (λ (n : Name). Asks (head_due (object objects n)) s t) named (head_asked (object objects name) s t asks most)

-- ---- each column by itself

cons_picked : (bytes : List ℕ) (rows : ℕ) (pick : Pick) (picks : List Pick) (pages first : List PageMeta) (more later : List (List PageMeta)) → pages ∷ more ≡ first ∷ later → PickedColumn bytes rows pick first → PickedColumns bytes rows picks later
    → PickedColumn bytes rows pick pages × PickedColumns bytes rows picks more
cons_picked bytes rows pick picks pages first more later same here behind =
    let one : pages ≡ first = cc in
    let others : more ≡ later = cc in (subst (PickedColumn bytes rows pick) (sym one) here, subst (PickedColumns bytes rows picks) (sym others) behind)

head_split : (bytes : List ℕ) (rows : ℕ) (pick : Pick) (picks : List Pick) (pages : List PageMeta) (more : List (List PageMeta)) → HasHead (pick ∷ picks) bytes rows (pages ∷ more) → HasHead (pick ∷ []) bytes rows (pages ∷ []) × HasHead picks bytes rows more
head_split bytes rows pick picks pages more h =
    let (first, later, same, here, behind) = h.columns_are in
    let picked = cons_picked bytes rows pick picks pages first more later same here behind in
    let lies = h.whole.regions.columns in
    let there = h.whole.there in (
      record {
        whole = record {
          file = h.whole.file;
          regions = record { tables = h.whole.regions.tables; descriptor = h.whole.regions.descriptor; columns = All-cons (LiesRight bytes) pick [] (All-head (LiesRight bytes) pick picks lies) (All-nil (LiesRight bytes)) };
          described = h.whole.described;
          there = All-cons (IsThere bytes) pick [] (All-head (IsThere bytes) pick picks there) (All-nil (IsThere bytes));
        };
        rows_are = h.rows_are;
        columns_are = (pages, [], refl, picked.0, refl);
      },
      record {
        whole = record {
          file = h.whole.file;
          regions = record { tables = h.whole.regions.tables; descriptor = h.whole.regions.descriptor; columns = All-tail (LiesRight bytes) pick picks lies };
          described = h.whole.described;
          there = All-tail (IsThere bytes) pick picks there;
        };
        rows_are = h.rows_are;
        columns_are = picked.1;
      },
    )

columns_apart : (objects : List Object) (name : Name) (rows : ℕ) (bytes : List ℕ) (picks : List Pick) (cursors : List PlainCursor) → object objects name ≡ Some bytes → length bytes ≤ 2 ^ 30 → HasHead picks bytes rows (map cursor_pages cursors)
    → AllZip (IsColumnOf objects name rows) picks cursors
columns_apart objects name rows bytes [] [] held small h = tt
columns_apart objects name rows bytes [] (c ∷ cursors) held small h = absurd (cc h.columns_are)
columns_apart objects name rows bytes (pick ∷ picks) [] held small h = absurd (cc (h.columns_are).2)
columns_apart objects name rows bytes (pick ∷ picks) (c ∷ cursors) held small h =
    let parts = head_split bytes rows pick picks (cursor_pages c) (map cursor_pages cursors) h in
    (record { bytes = bytes; held = held; size = small; says = parts.0 }, columns_apart objects name rows bytes picks cursors held small parts.1)

columns_in : (objects : List Object) (name : Name) (rows : ℕ) (picks : List Pick) (cursors : List PlainCursor) (held : Option (List ℕ)) → object objects name ≡ held → IsSomeAnd held (λ bytes. IsSmall bytes × HasHead picks bytes rows (map cursor_pages cursors))
    → AllZip (IsColumnOf objects name rows) picks cursors
columns_in objects name rows picks cursors None is has = absurd has
columns_in objects name rows picks cursors (Some bytes) is has = columns_apart objects name rows bytes picks cursors is has.0 has.1

-- the cursors' pages are those of the file's columns
pub columns_held : (objects : List Object) (path : List ℕ) (name : Name) (found rows : ℕ) (picks : List Pick) (columns : List ColumnMeta) (cursors : List PlainCursor) → name ≡ data_name path → found ≡ rows → map cursor_pages cursors ≡ pages_of columns
    → IsSomeAnd (object objects name) (λ bytes. IsSmall bytes × HasHead picks bytes found (pages_of columns)) → AllZip (IsColumnOf objects (data_name path) rows) picks cursors
columns_held objects path name found rows picks columns cursors named many pages has =
    let Has : ℕ → List (List PageMeta) → Type 0 = λ n ps. IsSomeAnd (object objects name) (λ bytes. IsSmall bytes × HasHead picks bytes n ps) in
    let of_cursors : Has rows (map cursor_pages cursors) = subst (λ (n : ℕ). Has n (map cursor_pages cursors)) many (subst (Has found) (sym pages) has) in
    subst (λ (n : Name). AllZip (IsColumnOf objects n rows) picks cursors) named (columns_in objects name rows picks cursors (object objects name) refl of_cursors)

-- ---- why not

pub file_refused : (objects : List Object) (path : List ℕ) (name : Name) (picks : List Pick) (rows : ℕ) (fault : HeadFault) → name ≡ data_name path → (picks ≡ [] → ⊥) → HeadBreaks picks (object objects name) fault → RefusesFile objects path picks rows (fault_of name fault)
file_refused objects path name picks rows (head.Outside why place) named some breaks = (named, many_picks picks some, breaks)
file_refused objects path name picks rows head.Store named some breaks = tt
file_refused objects path name picks rows head.Memory named some breaks = tt
