-- The readers of a row's fields, as one after another goes on to the row.
use Rattle.std.proofs.Common.{◌≡◌, sym, ◌∙◌, ap, refl, subst, ℕ, zero, suc, ◌+◌, ◌<◌, ◌≤◌, List, [], ◌∷◌, ◌++◌, length, map, take, arith}
use Rattle.std.specs.Prelude.{All, Contains, Option, Some, option_map, slice_get}
use Rattle.std.specs.List.{AllZip}
use Rattle.std.proofs.Math.ListN.{set}
use Rattle.std.proofs.lemmas.List.{map_push, take_more}
use Rattle.std.proofs.lemmas.List.Elements.{All-set}
use Rattle.std.proofs.lemmas.Option.{get_or_from_slice_get, same_Some, slice_get-map, slice_get_within}
use Rattle.lan_model.specs.Plain.{PlainField, PlainValue, plain_field, plain_value}
use Rattle.lan_model.specs.PlainTable.{row_of}
use Rattle.lan_model.specs.declared.tree.Field.{Field}
use Rattle.lan_model.specs.declared.tree.Val.{Val}
use Rattle.lan_page.specs.ColumnCursors.{PlainCursor}
use Rattle.lan_store.specs.Budget.{Budget, plus}
use Rattle.lan_store.specs.declared.name.Object.{Object}
use Rattle.lan_read.specs.FieldReaders.{CanRead, value_most, values_due}
use Rattle.lan_read.specs.Opened.{CanReadFrom}
use Rattle.lan_read.specs.Scans.{readers_due, readers_most}
use Rattle.lan_read.proofs.SeekEach.{all_at}
use Rattle.lan_read.proofs.Totals.{total}

-- ---- pairs of two lists

pub zip_at : {X Y : Type 0} (R : X → Y → Type 0) (xs : List X) (ys : List Y) (i : ℕ) (x : X) (y : Y) → AllZip R xs ys → slice_get xs i ≡ Some x → slice_get ys i ≡ Some y → R x y
zip_at R [] ys i x y all at there = absurd (cc at)
zip_at R (a ∷ xs) [] i x y all at there = absurd (cc there)
zip_at {X} {Y} R (a ∷ xs) (b ∷ ys) zero x y all at there = subst (λ (w : X). R w y) (same_Some a x at) (subst (R a) (same_Some b y there) all.0)
zip_at R (a ∷ xs) (b ∷ ys) (suc i) x y all at there = zip_at R xs ys i x y all.1 at there

pub zip_set : {X Y : Type 0} (R : X → Y → Type 0) (xs : List X) (ys : List Y) (i : ℕ) (x : X) (y : Y) → AllZip R xs ys → slice_get xs i ≡ Some x → R x y → AllZip R xs (set ys i y)
zip_set R [] [] i x y all at here = absurd (cc at)
zip_set R [] (b ∷ ys) i x y all at here = absurd all
zip_set R (a ∷ xs) [] i x y all at here = absurd all
zip_set {X} R (a ∷ xs) (b ∷ ys) zero x y all at here = (subst (λ (w : X). R w y) (sym (same_Some a x at)) here, all.1)
zip_set R (a ∷ xs) (b ∷ ys) (suc i) x y all at here = (all.0, zip_set R xs ys i x y all.1 at here)

pub zip_long : {X Y : Type 0} (R : X → Y → Type 0) (xs : List X) (ys : List Y) → AllZip R xs ys → length xs ≡ length ys
zip_long R [] [] all = refl
zip_long R [] (y ∷ ys) all = absurd all
zip_long R (x ∷ xs) [] all = absurd all
zip_long R (x ∷ xs) (y ∷ ys) all = ap suc (zip_long R xs ys all.1)

-- one of the second goes on
pub zip_on : {X Y : Type 0} (R : X → Y → Type 0) (xs : List X) (ys : List Y) (i : ℕ) (x : X) (y z : Y) → slice_get xs i ≡ Some x → slice_get ys i ≡ Some y → (R x y → R x z) → AllZip R xs ys → AllZip R xs (set ys i z)
zip_on R xs ys i x y z at there on all = zip_set R xs ys i x z all at (on (zip_at R xs ys i x y all at there))

pub all_on : {Y : Type 0} (P : Y → Type 0) (ys : List Y) (i : ℕ) (y z : Y) → slice_get ys i ≡ Some y → (P y → P z) → All P ys → All P (set ys i z)
all_on P ys i y z there on all = All-set P ys i z (on (all_at P ys i y all there)) all

pub is_one_of : {X : Type 0} (xs : List X) (i : ℕ) (x : X) → slice_get xs i ≡ Some x → Contains xs x
is_one_of xs i x at = (i, slice_get_within xs i x at, get_or_from_slice_get xs i x x at)

pub next_taken : {X : Type 0} (xs : List X) (i : ℕ) (x : X) → slice_get xs i ≡ Some x → take (i + 1) xs ≡ take i xs ++ x ∷ []
next_taken {X} xs i x at = take_more xs i x (slice_get_within xs i x at) ∙ ap (λ (y : X). take i xs ++ y ∷ []) (get_or_from_slice_get xs i x x at)

-- one field and one value more
pub row_more : (P : List (PlainField ℕ) → List PlainValue → Type 0) (fields : List (PlainField ℕ)) (i : ℕ) (f : PlainField ℕ) (values : List Val) (v : Val) → slice_get fields i ≡ Some f → P (take i fields ++ f ∷ []) (row_of values ++ plain_value v ∷ [])
    → P (take (i + 1) fields) (row_of (values ++ v ∷ []))
row_more P fields i f values v at here =
    subst (λ (l : List (PlainField ℕ)). P l (row_of (values ++ v ∷ []))) (sym (next_taken fields i f at)) (subst (P (take i fields ++ f ∷ [])) (sym (map_push plain_value values v)) here)

-- the field at a place, as a plain one
pub plain_at : (fields : List Field) (i : ℕ) (f : Field) → slice_get fields i ≡ Some f → slice_get (map plain_field fields) i ≡ Some (plain_field f)
plain_at fields i f at = slice_get-map plain_field fields i ∙ ap (option_map plain_field) at

-- ---- what may be asked

-- each row from one on, of so many, may be asked
abbrev pub CanFrom : ℕ → ℕ → PlainField ℕ → Option (List PlainCursor) → Type 0
CanFrom row count f r = (later : ℕ) → row ≤ later → later < count → CanRead f later r

pub can_zip : (fields : List (PlainField ℕ)) (row count : ℕ) (readers : List (Option (List PlainCursor))) → CanReadFrom fields row count readers → AllZip (CanFrom row count) fields readers
can_zip [] row count [] can = tt
can_zip [] row count (r ∷ readers) can = absurd can
can_zip (f ∷ fields) row count [] can = absurd can
can_zip (f ∷ fields) row count (r ∷ readers) can = (can.0, can_zip fields row count readers can.1)

pub zip_can : (fields : List (PlainField ℕ)) (row count : ℕ) (readers : List (Option (List PlainCursor))) → AllZip (CanFrom row count) fields readers → CanReadFrom fields row count readers
zip_can [] row count [] can = tt
zip_can [] row count (r ∷ readers) can = absurd can
zip_can (f ∷ fields) row count [] can = absurd can
zip_can (f ∷ fields) row count (r ∷ readers) can = (can.0, zip_can fields row count readers can.1)

pub can_on : (fields : List (PlainField ℕ)) (row count : ℕ) (readers : List (Option (List PlainCursor))) (i : ℕ) (f : PlainField ℕ) (x y : Option (List PlainCursor)) → slice_get fields i ≡ Some f → slice_get readers i ≡ Some x
    → ((later : ℕ) → row ≤ later → CanRead f later x → CanRead f later y) → CanReadFrom fields row count readers → CanReadFrom fields row count (set readers i y)
can_on fields row count readers i f x y at there on can =
    zip_can fields row count (set readers i y) (zip_on (CanFrom row count) fields readers i f x y at there (λ may later le below. on later le (may later le below)) (can_zip fields row count readers can))

-- the row itself may be asked
pub can_here : (fields : List (PlainField ℕ)) (row : ℕ) (readers : List (Option (List PlainCursor))) (i : ℕ) (f : PlainField ℕ) (x : Option (List PlainCursor)) → slice_get fields i ≡ Some f → slice_get readers i ≡ Some x → CanReadFrom fields row (row + 1) readers → CanRead f row x
can_here fields row readers i f x at there can = zip_at (CanFrom row (row + 1)) fields readers i f x (can_zip fields row (row + 1) readers can) at there row (omega arith) (omega arith)

pub can_long : (fields : List (PlainField ℕ)) (row count : ℕ) (readers : List (Option (List PlainCursor))) → CanReadFrom fields row count readers → length fields ≡ length readers
can_long fields row count readers can = zip_long (CanFrom row count) fields readers (can_zip fields row count readers can)

-- ---- what is asked

abbrev pub row_most : ℕ → Option (List PlainCursor) → Budget
row_most row r = value_most r row

abbrev pub rows_due : List Object → List ℕ → Option (List PlainCursor) → Budget
rows_due objects rows r = values_due objects r rows

pub most_is : (row : ℕ) (readers : List (Option (List PlainCursor))) → readers_most readers row ≡ total (row_most row) readers
most_is row [] = refl
most_is row (r ∷ readers) = ap (λ (b : Budget). plus (value_most r row) b) (most_is row readers)

pub due_is : (objects : List Object) (rows : List ℕ) (readers : List (Option (List PlainCursor))) → readers_due objects readers rows ≡ total (rows_due objects rows) readers
due_is objects rows [] = refl
due_is objects rows (r ∷ readers) = ap (λ (b : Budget). plus (values_due objects r rows) b) (due_is objects rows readers)
