-- Each of several cursors is brought to a row, one after another.
use Rattle.std.proofs.Common.{◌≡◌, sym, ◌∙◌, ap, refl, subst, ℕ, zero, suc, ◌+◌, ◌<◌, ◌≤◌, List, [], ◌∷◌, ◌++◌, length, take, drop, arith}
use Rattle.std.specs.Prelude.{All, Some, slice_get}
use Rattle.std.proofs.Math.ListN.{set}
use Rattle.std.proofs.Math.Seq.{map-set_same}
use Rattle.std.proofs.lemmas.List.{take-append-drop, take_all, take_more, take_more_set}
use Rattle.std.proofs.lemmas.List.Elements.{All-append, All-cons, All-nil}
use Rattle.std.proofs.lemmas.Option.{get_or_from_slice_get, slice_get_within}
use Rattle.lan_model.specs.Leaves.{plain_leaf}
use Rattle.lan_page.specs.ColumnCursors.{PlainCursor, ReadsSame, seek_most}
use Rattle.lan_store.specs.Budget.{IsWithin, plus}
use Rattle.lan_read.specs.FieldReaders.{column_read, columns_read, cursors_most}
use Rattle.lan_read.proofs.ReadValues.{most_front, most_more}

first_left : {X : Type 0} (xs : List X) (i : ℕ) → slice_get (drop i xs) 0 ≡ slice_get xs i
first_left xs zero = refl
first_left [] (suc i) = refl
first_left (x ∷ xs) (suc i) = first_left xs i

-- what is at a place of a list is there in one that is the same from there on
pub at_rest : {X : Type 0} (xs ys : List X) (i : ℕ) (x : X) → drop i xs ≡ drop i ys → slice_get xs i ≡ Some x → slice_get ys i ≡ Some x
at_rest {X} xs ys i x rest at = sym (first_left ys i) ∙ ap (λ (l : List X). slice_get l 0) (sym rest) ∙ first_left xs i ∙ at

pub all_at : {X : Type 0} (P : X → Type 0) (xs : List X) (i : ℕ) (x : X) → All P xs → slice_get xs i ≡ Some x → P x
all_at P xs i x all at = subst P (get_or_from_slice_get xs i x x at) (all i x (slice_get_within xs i x at))

pub all_more : {X : Type 0} (P : X → Type 0) (xs : List X) (i : ℕ) (y : X) → i < length xs → All P (take i xs) → P y → All P (take (i + 1) (set xs i y))
all_more P xs i y below all here = subst (All P) (sym (take_more_set xs i y below)) (All-append P (take i xs) (y ∷ []) all (All-cons P y [] here (All-nil P)))

pub all_taken : {X : Type 0} (P : X → Type 0) (xs : List X) (i : ℕ) → length xs ≤ i → All P (take i xs) → All P xs
all_taken P xs i ended all = subst (All P) (take_all i xs ended) all

taken_more : {X : Type 0} (xs : List X) (i : ℕ) (x : X) → slice_get xs i ≡ Some x → take (i + 1) xs ≡ take i xs ++ x ∷ []
taken_more {X} xs i x at = take_more xs i x (slice_get_within xs i x at) ∙ ap (λ (y : X). take i xs ++ y ∷ []) (get_or_from_slice_get xs i x x at)

pub all_taken_more : {X : Type 0} (P : X → Type 0) (xs : List X) (i : ℕ) (x : X) → All P (take i xs) → slice_get xs i ≡ Some x → P x → All P (take (i + 1) xs)
all_taken_more P xs i x all at here = subst (All P) (sym (taken_more xs i x at)) (All-append P (take i xs) (x ∷ []) all (All-cons P x [] here (All-nil P)))

-- ---- the columns stay

pub same_column : (old new : PlainCursor) → ReadsSame old new → column_read new ≡ column_read old
same_column old new same = λ i. record { name = same.name i; leaf = plain_leaf (same.leaf i); pages = same.pages i }

pub same_columns : (cursors : List PlainCursor) (i : ℕ) (x y : PlainCursor) → slice_get cursors i ≡ Some x → ReadsSame x y → columns_read (set cursors i y) ≡ columns_read cursors
same_columns cursors i x y at same = map-set_same column_read cursors i y x (same_column x y same ∙ ap column_read (sym (get_or_from_slice_get cursors i x x at)))

-- ---- what is asked

pub most_step : (row : ℕ) (cursors : List PlainCursor) (i : ℕ) (x : PlainCursor) → slice_get cursors i ≡ Some x → IsWithin (plus (cursors_most (take i cursors) row) (seek_most x row)) (cursors_most (take (i + 1) cursors) row)
most_step row cursors i x at =
    subst (λ (l : List PlainCursor). IsWithin (plus (cursors_most (take i cursors) row) (seek_most x row)) (cursors_most l row)) (sym (taken_more cursors i x at)) (most_more row (take i cursors) x)

most_taken : (row : ℕ) (cursors : List PlainCursor) (n : ℕ) → IsWithin (cursors_most (take n cursors) row) (cursors_most cursors row)
most_taken row cursors n = subst (λ (l : List PlainCursor). IsWithin (cursors_most (take n cursors) row) (cursors_most l row)) (take-append-drop n cursors) (most_front row (take n cursors) (drop n cursors))

pub most_all : (row : ℕ) (cursors : List PlainCursor) (i : ℕ) (x : PlainCursor) → slice_get cursors i ≡ Some x → IsWithin (plus (cursors_most (take i cursors) row) (seek_most x row)) (cursors_most cursors row)
most_all row cursors i x at =
    let step = most_step row cursors i x at in
    let taken = most_taken row cursors (i + 1) in
    record { ranges = omega (arith, step.ranges, taken.ranges); bytes = omega (arith, step.bytes, taken.bytes) }

pub most_ended : (row : ℕ) (cursors : List PlainCursor) (i : ℕ) → IsWithin (cursors_most (take i cursors) row) (cursors_most cursors row)
most_ended row cursors i = most_taken row cursors i
