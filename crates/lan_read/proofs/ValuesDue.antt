-- What cursors still ask, as one after another is brought to a row.
use Rattle.std.proofs.Common.{◌≡◌, sym, ◌∙◌, add-one, ap, subst, suc, ℕ, ◌+◌, ◌<◌, ◌≤◌, List, [], ◌∷◌, ◌++◌, length, take, drop, arith}
use Rattle.std.specs.Prelude.{Some, slice_get}
use Rattle.std.proofs.Math.ListN.{set}
use Rattle.std.proofs.Math.Seq.{drop-cons}
use Rattle.std.proofs.lemmas.List.{take_all, take_more_set}
use Rattle.std.proofs.lemmas.Option.{get_or_from_slice_get, slice_get_within}
use Rattle.lan_page.specs.ColumnBudgets.{still_due}
use Rattle.lan_page.specs.ColumnCursors.{PlainCursor, cursor_name}
use Rattle.lan_store.specs.Budget.{Budget, IsWithin, Spends, nothing, plus}
use Rattle.lan_store.specs.Telling.{Telling}
use Rattle.lan_store.specs.declared.name.Object.{Object}
use Rattle.lan_store.specs.Objects.{object}
use Rattle.lan_read.specs.FieldReaders.{cursors_due}

abbrev pub due_in : List Object → PlainCursor → List ℕ → Budget
due_in objects c rows = still_due c (object objects (cursor_name c)) rows

due_more : (objects : List Object) (rows : List ℕ) (cursors : List PlainCursor) (c : PlainCursor) → IsWithin (cursors_due objects (cursors ++ c ∷ []) rows) (plus (cursors_due objects cursors rows) (due_in objects c rows))
due_more objects rows [] c = record { ranges = omega arith; bytes = omega arith }
due_more objects rows (d ∷ cursors) c =
    let later = due_more objects rows cursors c in
    let ranges = later.ranges in
    let bytes = later.bytes in
    record { ranges = omega arith; bytes = omega arith }

-- less may be allowed
pub spends_less : (a b d : Budget) (s t : Telling) → IsWithin d b → Spends a b s t → Spends a d s t
spends_less a b d s t within spends =
    let less = within.ranges in
    let fewer = within.bytes in
    let ranges = spends.ranges in
    let bytes = spends.bytes in
    record { later_ranges = spends.later_ranges; later_bytes = spends.later_bytes; ranges = omega arith; bytes = omega arith }

pub spends_not : (a b : Budget) (s : Telling) → IsWithin b a → Spends a b s s
spends_not a b s within =
    let less = within.ranges in
    let fewer = within.bytes in
    record { later_ranges = omega arith; later_bytes = omega arith; ranges = omega arith; bytes = omega arith }

-- one of several goes on, beside what those before it and behind it ask
spends_one : (whole before one left behind : Budget) (s t u : Telling) → Spends whole (plus before (plus one behind)) s t → Spends one left t u → Spends whole (plus (plus before left) behind) s u
spends_one whole before one left behind s t u first next =
    let a = first.later_ranges in
    let b = first.later_bytes in
    let d = first.ranges in
    let e = first.bytes in
    let f = next.later_ranges in
    let g = next.later_bytes in
    let h = next.ranges in
    let i = next.bytes in
    record { later_ranges = omega arith; later_bytes = omega arith; ranges = omega arith; bytes = omega arith }

-- what is due when so many are at the row: for the later rows of them, and for the row too of the others
abbrev pub due_between : List Object → List PlainCursor → List PlainCursor → ℕ → ℕ → List ℕ → Budget
due_between objects was now i row later = plus (cursors_due objects (take i now) later) (cursors_due objects (drop i was) (row ∷ later))

first_dropped : (was : List PlainCursor) (i : ℕ) (x : PlainCursor) → slice_get was i ≡ Some x → drop i was ≡ x ∷ drop (i + 1) was
first_dropped was i x at =
    drop-cons was i x (slice_get_within was i x at)
    ∙ ap (λ (y : PlainCursor). y ∷ drop (suc i) was) (get_or_from_slice_get was i x x at)
    ∙ ap (λ (n : ℕ). x ∷ drop n was) (sym (add-one i))

beside : (objects : List Object) (was now : List PlainCursor) (i row : ℕ) (later : List ℕ) (x : PlainCursor) (whole : Budget) (s t : Telling) → slice_get was i ≡ Some x → Spends whole (due_between objects was now i row later) s t
    → Spends whole (plus (cursors_due objects (take i now) later) (plus (due_in objects x (row ∷ later)) (cursors_due objects (drop (i + 1) was) (row ∷ later)))) s t
beside objects was now i row later x whole s t at spends =
    subst (λ (l : List PlainCursor). Spends whole (plus (cursors_due objects (take i now) later) (cursors_due objects l (row ∷ later))) s t) (first_dropped was i x at) spends

pub due_step : (objects : List Object) (was now : List PlainCursor) (i row : ℕ) (later : List ℕ) (x y : PlainCursor) (whole : Budget) (s t u : Telling) → slice_get was i ≡ Some x → i < length now → Spends whole (due_between objects was now i row later) s t
    → Spends (due_in objects x (row ∷ later)) (due_in objects y later) t u → Spends whole (due_between objects was (set now i y) (i + 1) row later) s u
due_step objects was now i row later x y whole s t u at below spends next =
    let behind : Budget = cursors_due objects (drop (i + 1) was) (row ∷ later) in
    let front : Budget = cursors_due objects (take i now) later in
    let both = spends_one whole front (due_in objects x (row ∷ later)) (due_in objects y later) behind s t u (beside objects was now i row later x whole s t at spends) next in
    let more = due_more objects later (take i now) y in
    let ranges = more.ranges in
    let bytes = more.bytes in
    let less : IsWithin (plus (cursors_due objects (take i now ++ y ∷ []) later) behind) (plus (plus front (due_in objects y later)) behind) = record { ranges = omega arith; bytes = omega arith } in
    subst (λ (l : List PlainCursor). Spends whole (plus (cursors_due objects l later) behind) s u) (sym (take_more_set now i y below)) (spends_less whole (plus (plus front (due_in objects y later)) behind) _ s u less both)

pub due_stop : (objects : List Object) (was now : List PlainCursor) (i row : ℕ) (later : List ℕ) (x : PlainCursor) (whole : Budget) (s t u : Telling) → slice_get was i ≡ Some x → Spends whole (due_between objects was now i row later) s t
    → Spends (due_in objects x (row ∷ later)) nothing t u → Spends whole nothing s u
due_stop objects was now i row later x whole s t u at spends next =
    let behind : Budget = cursors_due objects (drop (i + 1) was) (row ∷ later) in
    let front : Budget = cursors_due objects (take i now) later in
    spends_less whole (plus (plus front nothing) behind) nothing s u (record { ranges = omega arith; bytes = omega arith })
    (spends_one whole front (due_in objects x (row ∷ later)) nothing behind s t u (beside objects was now i row later x whole s t at spends) next)

pub due_end : (objects : List Object) (was now : List PlainCursor) (i row : ℕ) (later : List ℕ) (whole : Budget) (s t : Telling) → length now ≤ i → Spends whole (due_between objects was now i row later) s t → Spends whole (cursors_due objects now later) s t
due_end objects was now i row later whole s t ended spends =
    subst (λ (l : List PlainCursor). Spends whole (cursors_due objects l later) s t) (take_all i now ended)
    (spends_less whole (due_between objects was now i row later) (cursors_due objects (take i now) later) s t (record { ranges = omega arith; bytes = omega arith }) spends)
