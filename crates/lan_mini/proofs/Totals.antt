-- How many values slots have, and how many bytes a chunk of them has.
use Rattle.std.proofs.Common.{◌≡◌, ◌∙◌, ℕ, zero, suc, ◌+◌, ◌-◌, ◌*◌, ◌^◌, ◌<◌, ◌≤◌, ◌⊎◌, inl, inr, Bool, true, false, IsTrue, cond, List, [], ◌∷◌, ◌++◌, length, take, drop, refl, ap, ap₂, subst, sym, arith, length-append}
use Rattle.std.proofs.lemmas.List.{take-append-drop, take-take, take_all}
use Rattle.std.proofs.lemmas.Nat.{pow_pos}
use Rattle.std.proofs.lemmas.Grind.{pow_more}
use Rattle.std.proofs.Math.Nat.{pow-le-pow_right}
use Rattle.lan_bytes.specs.Padding.{padded}
use Rattle.lan_levels.specs.PlainSlots.{PlainSlot, PlainPiece}
use Rattle.lan_levels.specs.Values.{flat, bools, variable}
use Rattle.lan_levels.specs.ZipSlots.{is_bare}
use Rattle.lan_levels.specs.Chunks.{small_chunks}
use Rattle.lan_levels.specs.ChunkForm.{ChunkForm, Storing, buffered, always, has_reps, has_defs, has_values}
use Rattle.lan_levels.specs.MiniWritten.{carried, value_len, values_len, buffer_size, stored_size, chunk_size, CanBeLast, IsFront}
use Rattle.lan_mini.specs.Building.{CanChunk, IsTotal, IsMost, IsCut, sized, range}
use Rattle.lan_mini.specs.declared.measuring.Total.{Total}
use Rattle.lan_mini.proofs.Places.{header_is}
use Rattle.lan_mini.proofs.Ranges.{range_join, range_length, take_range}

pub le_cases : (a b : ℕ) → (a ≤ b) ⊎ (b < a)
le_cases zero b = inl (omega arith)
le_cases (suc a) zero = inr (omega arith)
le_cases (suc a) (suc b) = elim (le_cases a b) [ inl h ↦ inl (omega arith) | inr h ↦ inr (omega arith) ]

carried_one : (b : Bool) (v : PlainPiece) (vs ws : List PlainPiece) → cond b (vs ++ ws) (v ∷ (vs ++ ws)) ≡ cond b vs (v ∷ vs) ++ ws
carried_one true v vs ws = refl
carried_one false v vs ws = refl

pub carried_append : (f : ChunkForm) (xs ys : List PlainSlot) → carried f (xs ++ ys) ≡ carried f xs ++ carried f ys
carried_append f [] ys = refl
carried_append f (s ∷ xs) ys =
    ap (λ (vs : List PlainPiece). cond (is_bare f.layers s.state) vs (s.value ∷ vs)) (carried_append f xs ys) ∙ carried_one (is_bare f.layers s.state) s.value (carried f xs) (carried f ys)

pub len_append : (st : Storing) (xs ys : List PlainPiece) → values_len st (xs ++ ys) ≡ values_len st xs + values_len st ys
len_append st [] ys = omega arith
len_append st (v ∷ xs) ys = let more = len_append st xs ys in omega arith

pub total_none : (f : ChunkForm) → IsTotal f [] (record { values = 0; bytes = 0 })
total_none f = record { values = refl; bytes = refl; few = omega arith; short = omega arith }

pub total_and : (f : ChunkForm) (xs ys : List PlainSlot) (a b t : Total) → IsTotal f xs a → IsTotal f ys b → t.values ≡ a.values + b.values → t.bytes ≡ a.bytes + b.bytes → IsTotal f (xs ++ ys) t
total_and f xs ys a b t x y v e =
    let av = x.values in
    let bv = y.values in
    let ab = x.bytes in
    let bb = y.bytes in
    let af = x.few in
    let bf = y.few in
    let sa = x.short in
    let sb = y.short in
    let all = carried_append f xs ys in
    let count = ap (length {A = PlainPiece}) all in
    let len = ap (values_len f.values) all ∙ len_append f.values (carried f xs) (carried f ys) in
    record {
      values = omega (arith, length-append (carried f xs) (carried f ys));
      bytes = omega arith;
      few = omega (arith, length-append xs ys);
      short = omega arith;
    }

one_values : (b : Bool) (v : PlainPiece) → b ≡ false → cond b [] (v ∷ []) ≡ v ∷ []
one_values b v e = ap (λ (c : Bool). cond c [] (v ∷ [])) e

pub total_bare : (f : ChunkForm) (s : PlainSlot) → is_bare f.layers s.state ≡ true → IsTotal f (s ∷ []) (record { values = 0; bytes = 0 })
total_bare f s e =
    let none : carried f (s ∷ []) ≡ [] = ap (λ (c : Bool). cond c [] (s.value ∷ [])) e in
    record { values = sym (ap (length {A = PlainPiece}) none); bytes = sym (ap (values_len f.values) none); few = omega arith; short = omega arith }

pub total_one : (f : ChunkForm) (s : PlainSlot) (len : ℕ) → CanChunk f s → is_bare f.layers s.state ≡ false → len ≡ value_len f.values s.value → IsTotal f (s ∷ []) (record { values = 1; bytes = len })
total_one f s len can e is =
    let one : carried f (s ∷ []) ≡ s.value ∷ [] = one_values (is_bare f.layers s.state) s.value e in
    let short = can.short e in
    let all = ap (values_len f.values) one in
    record { values = sym (ap (length {A = PlainPiece}) one); bytes = omega arith; few = omega arith; short = omega arith }

pub sized_is : (f : ChunkForm) (slots : List PlainSlot) (t : Total) → IsTotal f slots t → sized f (length slots) t.values t.bytes ≡ chunk_size small_chunks f slots
sized_is f slots t h =
    let n = length slots in
    let rest : ℕ → ℕ → ℕ → ℕ = λ head v l. head + cond (has_reps f) (padded (2 * n)) 0 + cond (has_defs f) (padded (2 * n)) 0 + cond (has_values f) (padded (buffer_size f.values v l)) 0 in
    ap₂ (rest 8) h.values h.bytes ∙ ap (λ (k : ℕ). rest k (length (carried f slots)) (values_len f.values (carried f slots))) (sym (header_is f))

padded_more : (a b : ℕ) → a ≤ b → padded a ≤ padded b
padded_more a b le = omega arith

if_more : (c : Bool) (a b : ℕ) → a ≤ b → cond c (padded a) 0 ≤ cond c (padded b) 0
if_more true a b le = padded_more a b le
if_more false a b le = omega arith

buffer_more : (st : Storing) (n m a b : ℕ) → n ≤ m → a ≤ b → buffer_size st n a ≤ buffer_size st m b
buffer_more (buffered (flat w)) n m a b le lt = lt
buffer_more (buffered bools) n m a b le lt = omega arith
buffer_more (buffered variable) n m a b le lt = omega arith
buffer_more (always p) n m a b le lt = omega arith

pub size_more : (f : ChunkForm) (xs ys : List PlainSlot) → chunk_size small_chunks f xs ≤ chunk_size small_chunks f (xs ++ ys)
size_more f xs ys =
    let all = carried_append f xs ys in
    let count = ap (length {A = PlainPiece}) all in
    let len = ap (values_len f.values) all ∙ len_append f.values (carried f xs) (carried f ys) in
    let slots : 2 * length xs ≤ 2 * length (xs ++ ys) = omega (arith, length-append xs ys) in
    let values = buffer_more f.values (length (carried f xs)) (length (carried f (xs ++ ys))) (values_len f.values (carried f xs)) (values_len f.values (carried f (xs ++ ys))) (omega (arith, length-append (carried f xs) (carried f ys))) (omega arith) in
    let r = if_more (has_reps f) (2 * length xs) (2 * length (xs ++ ys)) slots in
    let d = if_more (has_defs f) (2 * length xs) (2 * length (xs ++ ys)) slots in
    let v = if_more (has_values f) (stored_size f xs) (stored_size f (xs ++ ys)) values in
    omega arith

pub size_front : (f : ChunkForm) (slots : List PlainSlot) (n : ℕ) → chunk_size small_chunks f (take n slots) ≤ chunk_size small_chunks f slots
size_front f slots n = subst (λ (ys : List PlainSlot). chunk_size small_chunks f (take n slots) ≤ chunk_size small_chunks f ys) (take-append-drop n slots) (size_more f (take n slots) (drop n slots))

pub size_take : (f : ChunkForm) (slots : List PlainSlot) (n m : ℕ) → n ≤ m → chunk_size small_chunks f (take n slots) ≤ chunk_size small_chunks f (take m slots)
size_take f slots n m le = subst (λ (ys : List PlainSlot). chunk_size small_chunks f ys ≤ chunk_size small_chunks f (take m slots)) (take-take n m slots le) (size_front f (take m slots) n)

two_more : (log j : ℕ) → log < j → 2 * 2 ^ log ≤ 2 ^ j
two_more log j lt =
    let step = pow_more 2 log in
    let up : 2 ^ (log + 1) ≤ 2 ^ j = pow-le-pow_right {n = 2} (omega arith) {i = log + 1} {j = j} (omega arith) in
    omega arith

-- where twice as many don't fit, no greater power of two does
pub greatest_full : (f : ChunkForm) (slots : List PlainSlot) (log count : ℕ) → count ≡ 2 ^ log → 32768 < chunk_size small_chunks f (take (2 * count) slots) → (j : ℕ) → IsFront small_chunks f slots j → j ≤ log
greatest_full f slots log count e over j h = elim (le_cases j log) [
  | inl le ↦ le
  | inr gt ↦
      let twice = two_more log j gt in
      let more = size_take f slots (2 * count) (2 ^ j) (omega arith) in
      let fits = h.fits in
      absurd (omega arith)
]

pub never_last : (f : ChunkForm) (slots : List PlainSlot) (n : ℕ) → 32768 < chunk_size small_chunks f (take n slots) → CanBeLast small_chunks f slots → ⊥
never_last f slots n over h = let less = size_front f slots n in let fits = h.fits in omega arith

-- where twice as many aren't fewer than the slots, or the power is the greatest of all
pub greatest_end : (f : ChunkForm) (slots : List PlainSlot) (log count : ℕ) → count ≡ 2 ^ log → (12 ≤ log) ⊎ (length slots ≤ 2 * count) → (j : ℕ) → IsFront small_chunks f slots j → j ≤ log
greatest_end f slots log count e end j h = elim (le_cases j log) [
  | inl le ↦ le
  | inr gt ↦
      let twice = two_more log j gt in
      let small = h.small in
      let fewer = h.fewer in
      elim end [ inl top ↦ absurd (omega arith) | inr all ↦ absurd (omega arith) ]
]

pub joined_total : (f : ChunkForm) (xs : List PlainSlot) (from mid to : ℕ) (a b t : Total) → from ≤ mid → mid ≤ to → IsTotal f (range xs from mid) a → IsTotal f (range xs mid to) b → t.values ≡ a.values + b.values → t.bytes ≡ a.bytes + b.bytes → IsTotal f (range xs from to) t
joined_total f xs from mid to a b t le lt x y v e = subst (λ (ys : List PlainSlot). IsTotal f ys t) (range_join xs from mid to le lt) (total_and f (range xs from mid) (range xs mid to) a b t x y v e)

pub size_of : (f : ChunkForm) (xs : List PlainSlot) (from to n size : ℕ) (t : Total) → from ≤ to → to ≤ length xs → n ≡ to - from → IsTotal f (range xs from to) t → size ≡ sized f n t.values t.bytes → size ≡ chunk_size small_chunks f (range xs from to)
size_of f xs from to n size t le end e h is =
    let count = range_length xs from to le end in
    is ∙ ap (λ (k : ℕ). sized f k t.values t.bytes) (e ∙ sym count) ∙ sized_is f (range xs from to) t h

-- what was found of a front of the slots
pub most_is : (f : ChunkForm) (xs : List PlainSlot) (from to log count : ℕ) (t : Total) (full : Bool) → from + count ≤ to → to ≤ length xs → log ≤ 12 → count ≡ 2 ^ log → IsTotal f (range xs from (from + count)) t
    → chunk_size small_chunks f (range xs from (from + count)) ≤ 32768 → ((j : ℕ) → IsFront small_chunks f (range xs from to) j → j ≤ log) → (IsTrue full → CanBeLast small_chunks f (range xs from to) → ⊥)
    → IsMost f (range xs from to) (record { log = log; count = count; total = t; full = full })
most_is f xs from to log count t full within end small power total fits greatest stopped =
    let front = take_range xs from to count within in
    let size = range_length xs from to (omega arith) end in
    record {
      small = small;
      power = power;
      within = omega arith;
      fits = subst (λ (ys : List PlainSlot). chunk_size small_chunks f ys ≤ 32768) (sym front) fits;
      total = subst (λ (ys : List PlainSlot). IsTotal f ys t) (sym front) total;
      greatest = greatest;
      stopped = stopped;
    }

pub few_more : (log n : ℕ) → n ≡ 2 ^ log → log < 12 → n * 2 ≤ 4096
few_more log n e lt = let twice = two_more log 12 lt in omega arith

-- the next chunk is the front, where it isn't all slots
pub cut_front : (f : ChunkForm) (slots : List PlainSlot) (log count : ℕ) (t : Total) (full : Bool) → IsMost f slots (record { log = log; count = count; total = t; full = full }) → (CanBeLast small_chunks f slots → ⊥)
    → IsCut f slots (record { log = log; count = count; total = t })
cut_front f slots log count t full m no_last =
    let within = m.within in
    let power = m.power in
    let fits = m.fits in
    let top : 2 ^ log ≤ 2 ^ 12 = pow-le-pow_right {n = 2} (omega arith) {i = log} {j = 12} m.small in
    let some = pow_pos log in
    let fewer : count < length slots = elim (le_cases (length slots) count) [
      | inl le ↦ absurd (no_last (record { few = omega arith; fits = subst (λ (ys : List PlainSlot). chunk_size small_chunks f ys ≤ 32768) (take_all count slots le) fits }))
      | inr lt ↦ lt
    ] in
    let front : IsFront small_chunks f slots log = record { small = m.small; fewer = omega arith; fits = subst (λ (n : ℕ). chunk_size small_chunks f (take n slots) ≤ 32768) power fits } in
    record {
      next = inr (no_last, front, m.greatest, power);
      some = omega arith;
      within = within;
      few = omega arith;
      small = m.small;
      fits = fits;
      total = m.total;
    }

-- the next chunk is all slots
pub cut_all : (f : ChunkForm) (slots : List PlainSlot) (count : ℕ) (t : Total) → count ≡ length slots → 0 < count → count ≤ 4096 → chunk_size small_chunks f slots ≤ 32768 → IsTotal f slots t → IsCut f slots (record { log = 0; count = count; total = t })
cut_all f slots count t e some few fits total =
    let all : take count slots ≡ slots = take_all count slots (omega arith) in
    record {
      next = inl (record { few = omega arith; fits = fits }, refl, e);
      some = some;
      within = omega arith;
      few = few;
      small = omega arith;
      fits = subst (λ (ys : List PlainSlot). chunk_size small_chunks f ys ≤ 32768) (sym all) fits;
      total = subst (λ (ys : List PlainSlot). IsTotal f ys t) (sym all) total;
    }
