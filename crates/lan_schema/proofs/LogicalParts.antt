-- The parts of a vector's logical type.
use Rattle.std.proofs.Common.{◌≡◌, ◌≢◌, inl, inr, refl, sym, ◌∙◌, ap, ℕ, suc, ◌+◌, ◌^◌, ◌<◌, ◌≤◌, Bool, true, false, List, [], ◌∷◌, ◌++◌, length, get_or, take, drop, arith, eq-eqb, ne_eqb, Bor, take-append-drop, rules}
use Rattle.std.specs.Prelude.{cond, ◌&&◌, nat_eq, nat_lt, nat_le, bytes_eq, decimal, Option, Some, None, MatchOption, option_map, option_copied, option_and_then}
use Rattle.std.specs.Str.Parse.{AllDigits, digits_value}
use Rattle.std.proofs.lemmas.Bool.{cases_Bool}
use Rattle.std.proofs.lemmas.Bool.Decides.{nat_tests}
use Rattle.std.proofs.lemmas.Slice.Eq.{bytes_eq-Decides}
use Rattle.std.proofs.lemmas.Str.Parse.{IsNumeralModel, digit_at}
use Rattle.std.proofs.lemmas.Fmt.{digits_value-decimal, digits_decimal}
use Rattle.std.specs.Str.Pattern.{RFindsChar, LacksTextAt, StripsPrefix, FindsTextPrefix}
use Rattle.std.proofs.lemmas.Str.Pattern.{NoCharPasses-char, drop_at_char}
use Rattle.lan_model.specs.declared.tree.Primitive.{Primitive}
use Rattle.lan_model.specs.declared.tree.Ty.{Vector, the_lemmas}
use Rattle.lan_model.specs.Plain.{vector, plain_type}
use Rattle.lan_schema.specs.Logical.{named, items_of_vectors, behind, count_in, cut_last, counted}

pub own : IsNumeralModel (AllDigits 10) (digits_value 10)
own = record { to = λ ds p. p; from = λ ds p. p; same = λ ds p. refl }

pub behind_front : (front rest : List ℕ) → behind front (front ++ rest) ≡ Some rest
behind_front [] rest = refl
behind_front (c ∷ front) rest = rw (eq-eqb c c refl) (behind_front front rest)

pub behind_none : (front s : List ℕ) → ((rest : List ℕ) → s ≢ front ++ rest) → behind front s ≡ None
behind_none [] s other = absurd (other s refl)
behind_none (c ∷ front) [] other = refl
behind_none (c ∷ front) (d ∷ s) other =
    elim (cases_Bool (nat_eq c d)) [
      | inl is ↦ let same : c ≡ d = grind (arith, nat_tests, is) in rw is (behind_none front s (λ rest e. other rest cc))
      | inr differs ↦ rw differs refl
    ]

small_by : (b c d : Bool) (n : ℕ) → (b ≡ true → d ≡ true → ⊥) → cond (b && (c && d)) (Some n) None ≡ None
small_by true true true n h = absurd (h refl refl)
small_by true true false n h = refl
small_by true false d n h = refl
small_by false c d n h = refl

pub count_none : (s : List ℕ) → ((n : ℕ) → n < 2 ^ 64 → s ≢ decimal n) → count_in s ≡ None
unfolding count_in
count_none s other =
    let n = digits_value 10 s in
    small_by (bytes_eq s (decimal n)) (nat_lt 0 n) (nat_le n 65536) n
    (λ same few. let small : n ≤ 65536 = grind (arith, nat_tests, few) in other n (omega arith) ((bytes_eq-Decides s (decimal n)).0 same))

pub count_is : (s : List ℕ) (n : ℕ) → n < 2 ^ 64 → s ≡ decimal n → count_in s ≡ cond (nat_lt 0 n && nat_le n 65536) (Some n) None
unfolding count_in
count_is s n small is =
    let value : digits_value 10 s ≡ n = ap (digits_value 10) is ∙ digits_value-decimal own n small in
    let same : bytes_eq s (decimal n) ≡ true = (bytes_eq-Decides s (decimal n)).1 is in
    rw (value, same) refl

-- no byte is this one
abbrev pub Lacks : ℕ → List ℕ → Type 0
Lacks c s = (i : ℕ) → i < length s → get_or s i 0 ≢ c

pub cut_none : (c : ℕ) (s : List ℕ) → Lacks c s → cut_last c s ≡ None
unfolding cut_last
cut_none c [] lacks = refl
cut_none c (b ∷ s) lacks =
    let other : nat_eq b c ≡ false = ne_eqb b c (lacks 0 (omega arith)) in
    rw (cut_none c s (λ i below. lacks (suc i) (omega (arith, below))), other) refl

pub cut_at : (c : ℕ) (a b : List ℕ) → Lacks c b → cut_last c (a ++ c ∷ b) ≡ Some (a, b)
unfolding cut_last
cut_at c [] b lacks = rw (cut_none c b lacks, eq-eqb c c refl) refl
cut_at c (z ∷ a) b lacks = rw (cut_at c a b lacks) refl

-- what the search from the end says
pub cut_is : (c : ℕ) (s : List ℕ) (r : Option (Bor (List ℕ) × Bor (List ℕ)))
    → MatchOption r (RFindsChar c s None) (λ x. (i : ℕ) × (j : ℕ) × RFindsChar c s (Some (i, j)) × (x.0.now ≡ take i s) × (x.1.now ≡ drop j s) × (i ≤ j) × (length x.0.now ≡ i) × (length x.1.now + j ≡ length s))
    → c < 128 → option_map (λ x. (x.0.now, x.1.now)) r ≡ cut_last c s
cut_is c s None h low = sym (cut_none c s (λ i below. NoCharPasses-char c s i h low below))
cut_is c s (Some x) h low =
    let i = h.0 in
    let j = h.1 in
    let whole : s ≡ take i s ++ c ∷ drop j s = sym (take-append-drop i s) ∙ ap (λ l. take i s ++ l) (drop_at_char c s i j h.2.1 low) in
    let cut : cut_last c s ≡ Some (take i s, drop j s) = ap (cut_last c) whole ∙ cut_at c (take i s) (drop j s) (λ k below. NoCharPasses-char c (drop j s) k h.2.0 low below) in
    cc (cut, h.3, h.4)

pub decimal_lacks : (n : ℕ) → n < 2 ^ 64 → Lacks 58 (decimal n)
decimal_lacks n small i below is = omega (arith, digit_at (decimal n) i (digits_decimal own n small) below, is)

-- what the search for a front says
pub behind_is : (front s : List ℕ) (r : Option (Bor (List ℕ))) → MatchOption r (LacksTextAt front s 0) (λ x. StripsPrefix (FindsTextPrefix front) s x.now) → option_copied r ≡ behind front s
behind_is front s None lacks = sym (behind_none front s lacks)
behind_is front s (Some x) h = let whole : s ≡ front ++ x.now = h.1.1 ∙ ap (λ l. front ++ l) (sym h.2) in sym (ap (behind front) whole ∙ behind_front front x.now)

pub plain_vector : (q : Primitive) (n : ℕ) → plain_type (Vector q n) ≡ vector q n
plain_vector q n = search (rules, the_lemmas)

pub vector_found : (r : Option (Bor (List ℕ) × Bor (List ℕ))) (name count : Bor (List ℕ)) (q : Primitive) (n : ℕ)
    → r ≡ Some (name, count) → Some q ≡ named name.now items_of_vectors → Some n ≡ count_in count.now
    → Some (plain_type (Vector q n)) ≡ option_and_then counted (option_map (λ x. (x.0.now, x.1.now)) r)
vector_found r name count q n is first second = rw (is, ← first, ← second, plain_vector q n) refl
