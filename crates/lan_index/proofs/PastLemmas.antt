-- The row before which a piece ends.
use Rattle.std.proofs.Common.{◌≡◌, ℕ, zero, suc, ◌+◌, ◌-◌, ◌<◌, ◌≤◌, ◌⊎◌, inl, inr, Bool, true, false, cond, ◌||◌, max, refl, ap, ap₂, sym, ◌∙◌, arith}
use Rattle.std.specs.Prelude.{nat_le}
use Rattle.std.proofs.lemmas.Bool.{leb-true, leb-false, le-leb}
use Rattle.lan_levels.specs.Stretch.{Stretch, size, IsRising, cover, Has}
use Rattle.lan_levels.specs.Past.{most_bytes, greatest, is_short, furthest, past, MayEnd, IsPast, EachPieceEnds, CoversAreLeast}

greatest_zero : (test : ℕ → Bool) → greatest test 0 ≡ 0
unfolding greatest
greatest_zero test = refl

greatest_step : (test : ℕ → Bool) (n : ℕ) (b : Bool) → test (suc n) ≡ b → greatest test (suc n) ≡ cond b (suc n) (greatest test n)
unfolding greatest
greatest_step test n b e = ap (λ (t : Bool). cond t (suc n) (greatest test n)) e

le_case : (test : ℕ → Bool) (n : ℕ) (b : Bool) → test (suc n) ≡ b → greatest test n ≤ n → greatest test (suc n) ≤ suc n
le_case test n true e h = let s = greatest_step test n true e in omega arith
le_case test n false e h = let s = greatest_step test n false e in omega arith

pub greatest_le : (test : ℕ → Bool) (n : ℕ) → greatest test n ≤ n
greatest_le test zero = let s = greatest_zero test in omega arith
greatest_le test (suc n) = le_case test n (test (suc n)) refl (greatest_le test n)

-- the number that was found passes, and no other that passes is above it
pub record IsGreatest (test : ℕ → Bool) (n found : ℕ) : Type 0 where
  pub passes : test found ≡ true
  pub within : found ≤ n
  pub above : (k : ℕ) → k ≤ n → test k ≡ true → k ≤ found

either_case : (a b : ℕ) (t : Bool) → nat_le a b ≡ t → (a ≤ b) ⊎ (b < a)
either_case a b true e = inl (leb-true a b e)
either_case a b false e = inr (leb-false a b e)

pub either : (a b : ℕ) → (a ≤ b) ⊎ (b < a)
either a b = either_case a b (nat_le a b) refl

below_last : (test : ℕ → Bool) (n m : ℕ) → test (suc n) ≡ false → m ≤ suc n → test m ≡ true → (m ≤ n) ⊎ (n < m) → m ≤ n
below_last test n m e le p (inl h) = h
below_last test n m e le p (inr h) =
    let last : m ≡ suc n = omega arith in
    let both : false ≡ true = sym e ∙ ap test (sym last) ∙ p in
    absurd (cc)

found_case : (test : ℕ → Bool) (n k : ℕ) (b : Bool) → test (suc n) ≡ b → k ≤ suc n → test k ≡ true → (k ≤ n → IsGreatest test n (greatest test n)) → IsGreatest test (suc n) (greatest test (suc n))
found_case test n k true e le h g =
    let s = greatest_step test n true e in
    record { passes = ap test s ∙ e; within = omega arith; above = λ m lm p. omega arith }
found_case test n k false e le h g =
    let s = greatest_step test n false e in
    let i : IsGreatest test n (greatest test n) = g (below_last test n k e le h (either k n)) in
    let w : greatest test n ≤ n = i.within in
    record { passes = ap test s ∙ i.passes; within = omega arith; above = λ m lm p. let a : m ≤ greatest test n = i.above m (below_last test n m e lm p (either m n)) p in omega arith }

-- where some number passes, the greatest is found
pub greatest_found : (test : ℕ → Bool) (n k : ℕ) → k ≤ n → test k ≡ true → IsGreatest test n (greatest test n)
greatest_found test zero k le h =
    let s = greatest_zero test in
    let none : k ≡ 0 = omega arith in
    record { passes = ap test (s ∙ sym none) ∙ h; within = omega arith; above = λ m lm p. omega arith }
greatest_found test (suc n) k le h = found_case test n k (test (suc n)) refl le h (λ lt. greatest_found test n k lt h)

-- the size of the cover of one row
pub cover_one : (run : ℕ → Stretch) (row : ℕ) → size (cover run row (row + 1)) ≡ size (run row)
unfolding cover
cover_one run row = let one : row + 1 - 1 ≡ row = omega arith in ap (λ (n : ℕ). (run n).past - (run row).from) one

or_left : (a b : Bool) → a ≡ true → a || b ≡ true
or_left a b e = ap (λ (x : Bool). x || b) e

pub or_right : (a b : Bool) → b ≡ true → a || b ≡ true
or_right true b e = refl
or_right false b e = e

-- one row is short enough
pub one_is_short : (run : ℕ → Stretch) (row : ℕ) → is_short run row (row + 1) ≡ true
unfolding is_short
one_is_short run row =
    let same = cover_one run row in
    or_right (nat_le (size (cover run row (row + 1))) (most_bytes)) (nat_le (size (cover run row (row + 1))) (size (run row))) (le-leb _ _ (omega arith))

or_cases : (a b : Bool) → a || b ≡ true → (a ≡ true) ⊎ (b ≡ true)
or_cases true b e = inl refl
or_cases false b e = inr e

from_cases : (a b c : ℕ) → (nat_le a b ≡ true) ⊎ (nat_le a c ≡ true) → (a ≤ b) ⊎ (a ≤ c)
from_cases a b c (inl e) = inl (leb-true a b e)
from_cases a b c (inr e) = inr (leb-true a c e)

to_cases : (a b c : ℕ) → (a ≤ b) ⊎ (a ≤ c) → nat_le a b || nat_le a c ≡ true
to_cases a b c (inl h) = or_left (nat_le a b) (nat_le a c) (le-leb a b h)
to_cases a b c (inr h) = or_right (nat_le a b) (nat_le a c) (le-leb a c h)

pub short_true : (run : ℕ → Stretch) (row q : ℕ) → is_short run row q ≡ true → (size (cover run row q) ≤ most_bytes) ⊎ (size (cover run row q) ≤ size (run row))
unfolding is_short
short_true run row q e = from_cases (size (cover run row q)) (most_bytes) (size (run row)) (or_cases (nat_le (size (cover run row q)) (most_bytes)) (nat_le (size (cover run row q)) (size (run row))) e)

pub true_short : (run : ℕ → Stretch) (row q : ℕ) → (size (cover run row q) ≤ most_bytes) ⊎ (size (cover run row q) ≤ size (run row)) → is_short run row q ≡ true
unfolding is_short
true_short run row q h = to_cases (size (cover run row q)) (most_bytes) (size (run row)) h

le_cases : (a b c d : ℕ) → a ≤ b → (b ≤ c) ⊎ (b ≤ d) → (a ≤ c) ⊎ (a ≤ d)
le_cases a b c d h (inl e) = inl (omega arith)
le_cases a b c d h (inr e) = inr (omega arith)

cover_grows : (run : ℕ → Stretch) (rows row q p : ℕ) → IsRising run rows → row < q → q ≤ p → p ≤ rows → size (cover run row q) ≤ size (cover run row p)
unfolding cover
cover_grows run rows row q p h less le within =
    let e : (run (q - 1)).past ≤ (run (p - 1)).past = h.ends (q - 1) (p - 1) (omega arith) (omega arith) in
    omega arith

-- fewer rows are short enough where more are
pub short_before : (run : ℕ → Stretch) (rows row q p : ℕ) → IsRising run rows → row < q → q ≤ p → p ≤ rows → is_short run row p ≡ true → is_short run row q ≡ true
short_before run rows row q p h less le within e =
    true_short run row q (le_cases (size (cover run row q)) (size (cover run row p)) (most_bytes) (size (run row)) (cover_grows run rows row q p h less le within) (short_true run row p e))

found : (run : ℕ → Stretch) (rows row : ℕ) → row < rows → IsGreatest (is_short run row) (furthest rows row) (past run rows row)
unfolding past
found run rows row less = greatest_found (is_short run row) (furthest rows row) (row + 1) (omega arith) (one_is_short run row)

-- the row after the first may always end the piece
pub past_progress : (run : ℕ → Stretch) (rows row : ℕ) → row < rows → row + 1 ≤ past run rows row
past_progress run rows row less = (found run rows row less).above (row + 1) (omega arith) (one_is_short run row)

pub past_within : (run : ℕ → Stretch) (rows row : ℕ) → past run rows row ≤ furthest rows row
unfolding past
past_within run rows row = greatest_le (is_short run row) (furthest rows row)

-- the walk upward from the row finds the greatest number with the three properties
pub past_is : (run : ℕ → Stretch) (rows row : ℕ) → row < rows → IsPast run rows row (past run rows row)
past_is run rows row less =
    let f = found run rows row less in
    let w : past run rows row ≤ furthest rows row = f.within in
    record {
      may = record { within = omega arith; near = omega arith; short = short_true run row (past run rows row) f.passes };
      greatest = λ k h. f.above k (let a = h.within in let b = h.near in omega arith) (true_short run row k h.short);
    }

two_cases : (a b c : ℕ) → (a ≤ b) ⊎ (a ≤ c) → a ≤ max b c
two_cases a b c (inl h) = omega arith
two_cases a b c (inr h) = omega arith

-- a piece has at most 2^20 bytes, or those of its first row
pub past_bound : (run : ℕ → Stretch) (rows row : ℕ) → row < rows → size (cover run row (past run rows row)) ≤ max (most_bytes) (size (run row))
past_bound run rows row less = two_cases (size (cover run row (past run rows row))) (most_bytes) (size (run row)) (short_true run row (past run rows row) (found run rows row less).passes)

stop_case : (run : ℕ → Stretch) (rows row q k : ℕ) → IsRising run rows → row < q → (q ≡ furthest rows row) ⊎ (is_short run row (q + 1) ≡ false) → k ≤ furthest rows row → is_short run row k ≡ true → (k ≤ q) ⊎ (q < k) → k ≤ q
stop_case run rows row q k h less stop within e (inl le) = le
stop_case run rows row q k h less (inl all) within e (inr more) = absurd (omega arith)
stop_case run rows row q k h less (inr long) within e (inr more) =
    let both : false ≡ true = sym long ∙ short_before run rows row (q + 1) k h (omega arith) (omega arith) (omega arith) e in
    absurd (cc)

-- a walk upward finds it: where the next number no longer has the properties, no greater one has
pub past_found : (run : ℕ → Stretch) (rows row q : ℕ) → IsRising run rows → row < q → q ≤ furthest rows row → is_short run row q ≡ true → (q ≡ furthest rows row) ⊎ (is_short run row (q + 1) ≡ false) → past run rows row ≡ q
past_found run rows row q h less within e stop =
    let f : IsGreatest (is_short run row) (furthest rows row) (past run rows row) = found run rows row (omega arith) in
    let up : q ≤ past run rows row = f.above q within e in
    let down : past run rows row ≤ q = stop_case run rows row q (past run rows row) h less stop f.within f.passes (either (past run rows row) q) in
    omega arith

-- the cover has each of the rows' runs
pub cover_has : (run : ℕ → Stretch) (rows row q r : ℕ) → IsRising run rows → q ≤ rows → row ≤ r → r < q → Has (cover run row q) (run r)
unfolding cover
cover_has run rows row q r h within le less = record { front = h.fronts row r le (omega arith); end = h.ends r (q - 1) (omega arith) (omega arith) }

-- and no more than any part that has them
pub cover_least : (run : ℕ → Stretch) (row q : ℕ) (s : Stretch) → row < q → ((r : ℕ) → row ≤ r → r < q → Has s (run r)) → Has s (cover run row q)
unfolding cover
cover_least run row q s less h = record { front = (h row (omega arith) less).front; end = (h (q - 1) (omega arith) (omega arith)).end }

next_size : (run : ℕ → Stretch) (row q : ℕ) → size (cover run row (q + 1)) ≡ (run q).past - (run row).from
unfolding cover
next_size run row q = let one : q + 1 - 1 ≡ q = omega arith in ap (λ (n : ℕ). (run n).past - (run row).from) one

below_max : (a b c : ℕ) → a ≤ max b c → (a ≤ b) ⊎ (b < a) → (a ≤ b) ⊎ (a ≤ c)
below_max a b c h (inl e) = inl e
below_max a b c h (inr e) = inr (omega arith)

-- with one row more the cover is short enough
pub within_longest : (run : ℕ → Stretch) (row q longest : ℕ) → longest ≡ max (most_bytes) (size (run row)) → (run q).past - (run row).from ≤ longest → is_short run row (q + 1) ≡ true
within_longest run row q longest e h =
    let s = next_size run row q in
    true_short run row (q + 1) (below_max (size (cover run row (q + 1))) (most_bytes) (size (run row)) (omega arith) (either (size (cover run row (q + 1))) (most_bytes)))

not_both : (a b c : ℕ) → max b c < a → (a ≤ b) ⊎ (a ≤ c) → ⊥
not_both a b c h (inl e) = omega arith
not_both a b c h (inr e) = omega arith

long_case : (run : ℕ → Stretch) (row q : ℕ) (b : Bool) → is_short run row q ≡ b → (is_short run row q ≡ true → ⊥) → is_short run row q ≡ false
long_case run row q true e h = absurd (h e)
long_case run row q false e h = e

-- with one row more it is too long
pub over_longest : (run : ℕ → Stretch) (row q longest : ℕ) → longest ≡ max (most_bytes) (size (run row)) → longest < (run q).past - (run row).from → is_short run row (q + 1) ≡ false
over_longest run row q longest e h =
    let s = next_size run row q in
    long_case run row (q + 1) (is_short run row (q + 1)) refl (λ t. not_both (size (cover run row (q + 1))) (most_bytes) (size (run row)) (omega arith) (short_true run row (q + 1) t))

-- the cover of rows, by the runs of the first and the last
pub cover_is : (run : ℕ → Stretch) (row q : ℕ) (s : Stretch) → s.from ≡ (run row).from → s.past ≡ (run (q - 1)).past → s ≡ cover run row q
unfolding cover
cover_is run row q s e h = ap₂ (λ (a b : ℕ). let t : Stretch = record { from = a; past = b } in t) e h

nearer : (run : ℕ → Stretch) (rows row q p : ℕ) → IsRising run rows → row < q → q ≤ p → MayEnd run rows row p → MayEnd run rows row q
nearer run rows row q p h less le m =
    let within = m.within in
    let near = m.near in
    record { within = omega arith; near = omega arith; short = short_true run row q (short_before run rows row q p h less le within (true_short run row p m.short)) }

stops : (run : ℕ → Stretch) (rows row q : ℕ) → row < q → MayEnd run rows row q → (MayEnd run rows row (q + 1) → ⊥) → (b : Bool) → is_short run row (q + 1) ≡ b → (q ≡ furthest rows row) ⊎ (q + 1 ≤ furthest rows row) → (q ≡ furthest rows row) ⊎ (is_short run row (q + 1) ≡ false)
stops run rows row q less m n b e (inl all) = inl all
stops run rows row q less m n false e (inr more) = inr e
stops run rows row q less m n true e (inr more) = absurd (n (record { within = omega arith; near = omega arith; short = short_true run row (q + 1) e }))

at_or_before : (a b : ℕ) → a ≤ b → (b ≤ a) ⊎ (a < b) → (a ≡ b) ⊎ (a + 1 ≤ b)
at_or_before a b le (inl h) = inl (omega arith)
at_or_before a b le (inr h) = inr (omega arith)

walk_found : (run : ℕ → Stretch) (rows row q : ℕ) → IsRising run rows → MayEnd run rows row q → (MayEnd run rows row (q + 1) → ⊥) → row < q → past run rows row ≡ q
walk_found run rows row q h m n less =
    let within = m.within in
    let near = m.near in
    let near_end : q ≤ furthest rows row = omega arith in
    past_found run rows row q h less near_end (true_short run row q m.short) (stops run rows row q less m n (is_short run row (q + 1)) refl (at_or_before q (furthest rows row) near_end (either (furthest rows row) q)))

pub pieces_end : EachPieceEnds
pieces_end run rows row h less = record {
  one = record { within = omega arith; near = omega arith; short = short_true run row (row + 1) (one_is_short run row) };
  nearer = λ q p low le m. nearer run rows row q p h low le m;
  found = λ q m n low. walk_found run rows row q h m n low;
  is = past_is run rows row less;
  bound = past_bound run rows row less;
}

pub covers_least : CoversAreLeast
covers_least run rows row q h less within = record {
  has = λ r le lt. cover_has run rows row q r h within le lt;
  least = λ s k. cover_least run row q s less k;
}
