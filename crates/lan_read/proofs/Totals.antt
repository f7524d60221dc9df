-- What several readers ask together, as one after another goes on.
use Rattle.std.proofs.Common.{◌≡◌, sym, ◌∙◌, add-one, ap, subst, suc, ℕ, ◌+◌, ◌<◌, ◌≤◌, List, [], ◌∷◌, ◌++◌, length, take, drop, arith}
use Rattle.std.specs.Prelude.{Some, slice_get}
use Rattle.std.proofs.Math.ListN.{set}
use Rattle.std.proofs.Math.Seq.{drop-cons}
use Rattle.std.proofs.lemmas.List.{take-append-drop, take_all, take_more, take_more_set}
use Rattle.std.proofs.lemmas.Option.{get_or_from_slice_get, slice_get_within}
use Rattle.lan_store.specs.Budget.{Budget, IsWithin, Spends, nothing, plus}
use Rattle.lan_store.specs.Telling.{Telling}
use Rattle.lan_read.proofs.ValuesDue.{spends_less}

abbrev pub total : {X : Type 0} → (X → Budget) → List X → Budget
total g [] = nothing
total g (x ∷ xs) = plus (g x) (total g xs)

total_more : {X : Type 0} (g : X → Budget) (xs : List X) (x : X) → IsWithin (total g (xs ++ x ∷ [])) (plus (total g xs) (g x))
total_more g [] x = record { ranges = omega arith; bytes = omega arith }
total_more g (y ∷ xs) x =
    let later = total_more g xs x in
    let ranges = later.ranges in
    let bytes = later.bytes in
    record { ranges = omega arith; bytes = omega arith }

total_one_more : {X : Type 0} (g : X → Budget) (xs : List X) (x : X) → IsWithin (plus (total g xs) (g x)) (total g (xs ++ x ∷ []))
total_one_more g [] x = record { ranges = omega arith; bytes = omega arith }
total_one_more g (y ∷ xs) x =
    let later = total_one_more g xs x in
    let ranges = later.ranges in
    let bytes = later.bytes in
    record { ranges = omega arith; bytes = omega arith }

total_front : {X : Type 0} (g : X → Budget) (xs more : List X) → IsWithin (total g xs) (total g (xs ++ more))
total_front g [] more = record { ranges = omega arith; bytes = omega arith }
total_front g (x ∷ xs) more =
    let later = total_front g xs more in
    let ranges = later.ranges in
    let bytes = later.bytes in
    record { ranges = omega arith; bytes = omega arith }

-- ---- so many of them

taken_more : {X : Type 0} (xs : List X) (i : ℕ) (x : X) → slice_get xs i ≡ Some x → take (i + 1) xs ≡ take i xs ++ x ∷ []
taken_more {X} xs i x at = take_more xs i x (slice_get_within xs i x at) ∙ ap (λ (y : X). take i xs ++ y ∷ []) (get_or_from_slice_get xs i x x at)

pub total_step : {X : Type 0} (g : X → Budget) (xs : List X) (i : ℕ) (x : X) → slice_get xs i ≡ Some x → IsWithin (plus (total g (take i xs)) (g x)) (total g (take (i + 1) xs))
total_step {X} g xs i x at = subst (λ (l : List X). IsWithin (plus (total g (take i xs)) (g x)) (total g l)) (sym (taken_more xs i x at)) (total_one_more g (take i xs) x)

pub total_taken : {X : Type 0} (g : X → Budget) (xs : List X) (n : ℕ) → IsWithin (total g (take n xs)) (total g xs)
total_taken {X} g xs n = subst (λ (l : List X). IsWithin (total g (take n xs)) (total g l)) (take-append-drop n xs) (total_front g (take n xs) (drop n xs))

pub total_all : {X : Type 0} (g : X → Budget) (xs : List X) (i : ℕ) (x : X) → slice_get xs i ≡ Some x → IsWithin (plus (total g (take i xs)) (g x)) (total g xs)
total_all g xs i x at =
    let step = total_step g xs i x at in
    let taken = total_taken g xs (i + 1) in
    record { ranges = omega (arith, step.ranges, taken.ranges); bytes = omega (arith, step.bytes, taken.bytes) }

-- ---- allowances

-- one of several goes on, beside what those before it and behind it ask
spends_one : (whole before one left behind : Budget) (s t u : Telling) → Spends whole (plus before (plus one behind)) s t → Spends one left t u → Spends whole (plus (plus before left) behind) s u
spends_one whole before one left behind s t u first next =
    let a = first.later_ranges in
    let b = first.later_bytes in
    let d = first.ranges in
    let e = first.bytes in
    let f = next.later_ranges in
    let g = next.later_bytes in
    let h = next.ranges in
    let i = next.bytes in
    record { later_ranges = omega arith; later_bytes = omega arith; ranges = omega arith; bytes = omega arith }

-- what is due when so many went on: `h` of these, and `g` of the others, as they were
abbrev pub between : {X : Type 0} → (X → Budget) → (X → Budget) → List X → List X → ℕ → Budget
between g h was now i = plus (total h (take i now)) (total g (drop i was))

first_dropped : {X : Type 0} (was : List X) (i : ℕ) (x : X) → slice_get was i ≡ Some x → drop i was ≡ x ∷ drop (i + 1) was
first_dropped {X} was i x at =
    drop-cons was i x (slice_get_within was i x at)
    ∙ ap (λ (y : X). y ∷ drop (suc i) was) (get_or_from_slice_get was i x x at)
    ∙ ap (λ (n : ℕ). x ∷ drop n was) (sym (add-one i))

beside : {X : Type 0} (g h : X → Budget) (was now : List X) (i : ℕ) (x : X) (whole : Budget) (s t : Telling) → slice_get was i ≡ Some x → Spends whole (between g h was now i) s t → Spends whole (plus (total h (take i now)) (plus (g x) (total g (drop (i + 1) was)))) s t
beside {X} g h was now i x whole s t at spends = subst (λ (l : List X). Spends whole (plus (total h (take i now)) (total g l)) s t) (first_dropped was i x at) spends

pub between_step : {X : Type 0} (g h : X → Budget) (was now : List X) (i : ℕ) (x y : X) (whole : Budget) (s t u : Telling) → slice_get was i ≡ Some x → i < length now → Spends whole (between g h was now i) s t → Spends (g x) (h y) t u
    → Spends whole (between g h was (set now i y) (i + 1)) s u
between_step {X} g h was now i x y whole s t u at below spends next =
    let behind : Budget = total g (drop (i + 1) was) in
    let front : Budget = total h (take i now) in
    let both = spends_one whole front (g x) (h y) behind s t u (beside g h was now i x whole s t at spends) next in
    let more = total_more h (take i now) y in
    let ranges = more.ranges in
    let bytes = more.bytes in
    let less : IsWithin (plus (total h (take i now ++ y ∷ [])) behind) (plus (plus front (h y)) behind) = record { ranges = omega arith; bytes = omega arith } in
    subst (λ (l : List X). Spends whole (plus (total h l) behind) s u) (sym (take_more_set now i y below)) (spends_less whole (plus (plus front (h y)) behind) _ s u less both)

pub between_stop : {X : Type 0} (g h : X → Budget) (was now : List X) (i : ℕ) (x : X) (left whole : Budget) (s t u : Telling) → slice_get was i ≡ Some x → Spends whole (between g h was now i) s t → Spends (g x) left t u → Spends whole nothing s u
between_stop g h was now i x left whole s t u at spends next =
    let behind : Budget = total g (drop (i + 1) was) in
    let front : Budget = total h (take i now) in
    spends_less whole (plus (plus front left) behind) nothing s u (record { ranges = omega arith; bytes = omega arith })
    (spends_one whole front (g x) left behind s t u (beside g h was now i x whole s t at spends) next)

pub between_end : {X : Type 0} (g h : X → Budget) (was now : List X) (i : ℕ) (whole : Budget) (s t : Telling) → length now ≤ i → Spends whole (between g h was now i) s t → Spends whole (total h now) s t
between_end {X} g h was now i whole s t ended spends =
    subst (λ (l : List X). Spends whole (total h l) s t) (take_all i now ended)
    (spends_less whole (between g h was now i) (total h (take i now)) s t (record { ranges = omega arith; bytes = omega arith }) spends)
