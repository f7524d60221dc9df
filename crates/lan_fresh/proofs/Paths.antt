-- The paths of data files: twenty digits, and the ending.
use Rattle.std.proofs.Common.{◌≡◌, ◌≢◌, inl, inr, refl, sym, ◌∙◌, ap, subst, ℕ, zero, suc, ◌-◌, ◌^◌, ◌<◌, ◌≤◌, List, [], ◌∷◌, ◌++◌, length, take, replicate, get_or, arith, append_assoc, length-append, Bool, true, false}
use Rattle.std.proofs.Math.Seq.{take-append_seam}
use Rattle.std.specs.Prelude.{decimal, codes, bytes_eq, nat_lt, ◌&&◌, Some, None, Result, Ok, Err}
use Rattle.std.specs.Result.{result_ok}
use Rattle.std.specs.Fmt.{styled_decimal, padded_integral, format_spec, char_count}
use Rattle.std.specs.Str.Parse.{AllDigits, ParsesUnsigned, digits_value}
use Rattle.std.proofs.lemmas.Bool.{cases_Bool, cases_eq, ltb-true}
use Rattle.std.proofs.lemmas.Bool.Decides.{nat_tests}
use Rattle.std.proofs.lemmas.List.{append_cancel_right, append-nil, length-replicate}
use Rattle.std.proofs.lemmas.Slice.Eq.{bytes_eq-Decides}
use Rattle.std.proofs.lemmas.Str.Parse.{IsNumeralModel, digit_at, parse_plain}
use Rattle.std.proofs.lemmas.Fmt.{decimal-digits_value, digits_decimal, digits_value-decimal, length-decimal-le}
use Rattle.lan_fresh.specs.Fresh.{file_path, file_number}

own : IsNumeralModel (AllDigits 10) (digits_value 10)
own = record { to = λ ds p. p; from = λ ds p. p; same = λ ds p. refl }

-- a number in so many digits
abbrev pub digits_in : ℕ → ℕ → List ℕ
digits_in size n = replicate (size - length (decimal n)) 48 ++ decimal n

pub path_is : (n : ℕ) → file_path n ≡ digits_in 20 n ++ codes ".lance"
unfolding file_path
path_is n = sym (append_assoc (replicate (20 - length (decimal n)) 48) (decimal n) (codes ".lance"))

zeros_value : (k n : ℕ) → n < 2 ^ 64 → digits_value 10 (replicate k 48 ++ decimal n) ≡ n
zeros_value zero n small = digits_value-decimal own n small
zeros_value (suc k) n small = zeros_value k n small

zeros_digits : (k n : ℕ) → n < 2 ^ 64 → AllDigits 10 (replicate k 48 ++ decimal n)
zeros_digits zero n small = digits_decimal own n small
zeros_digits (suc k) n small = (omega arith, zeros_digits k n small)

pub value_in : (n : ℕ) → n < 2 ^ 53 → digits_value 10 (digits_in 20 n) ≡ n
value_in n small = zeros_value (20 - length (decimal n)) n (omega arith)

pub digits_are : (n : ℕ) → n < 2 ^ 53 → AllDigits 10 (digits_in 20 n)
digits_are n small = zeros_digits (20 - length (decimal n)) n (omega arith)

pub length_in : (n : ℕ) → n < 2 ^ 53 → length (digits_in 20 n) ≡ 20
length_in n small = omega (arith, length-append (replicate (20 - length (decimal n)) 48) (decimal n), length-replicate {A = ℕ} (20 - length (decimal n)) 48, length-decimal-le 20 n (omega arith) (omega arith) (omega arith))

unpadded : (ds : List ℕ) (n : ℕ) → decimal n ≡ ds → digits_in (length ds) n ≡ ds
unpadded ds n is =
    let none : length ds - length (decimal n) ≡ 0 = omega (arith, ap length is) in
    ap (λ k. replicate k 48 ++ decimal n) none ∙ is

zero_more : (ds : List ℕ) (n : ℕ) → digits_in (length ds) n ≡ ds → digits_in (length (48 ∷ ds)) n ≡ 48 ∷ ds
zero_more ds n is =
    let sizes = sym (length-append (replicate (length ds - length (decimal n)) 48) (decimal n)) ∙ ap length is in
    let more : length (48 ∷ ds) - length (decimal n) ≡ suc (length ds - length (decimal n)) = omega (arith, sizes, length-replicate {A = ℕ} (length ds - length (decimal n)) 48) in
    ap (λ k. replicate k 48 ++ decimal n) more ∙ ap (λ l. 48 ∷ l) is

-- digits are their value in as many digits
pub padded : (ds : List ℕ) → AllDigits 10 ds → 0 < length ds → digits_value 10 ds < 2 ^ 64 → digits_in (length ds) (digits_value 10 ds) ≡ ds
padded [] digits some small = absurd (omega (arith, some))
padded (d ∷ []) digits some small = unpadded (d ∷ []) _ (decimal-digits_value own (d ∷ []) digits some (λ z. refl) small)
padded (d ∷ e ∷ ds) digits some small = elim (cases_eq d 48) [
  | inl is ↦ subst (λ x. digits_value 10 (x ∷ e ∷ ds) < 2 ^ 64 → digits_in (length (x ∷ e ∷ ds)) (digits_value 10 (x ∷ e ∷ ds)) ≡ x ∷ e ∷ ds) (sym is)
      (λ below. zero_more (e ∷ ds) _ (padded (e ∷ ds) digits.1 (omega arith) below)) small
  | inr other ↦ unpadded (d ∷ e ∷ ds) _ (decimal-digits_value own (d ∷ e ∷ ds) digits some (λ z. absurd (other z)) small)
]

-- the number of a number's path
pub number_of_path : (n : ℕ) → n < 2 ^ 53 → file_number (file_path n) ≡ Some n
unfolding file_number
number_of_path n small =
    let front : take 20 (file_path n) ≡ digits_in 20 n =
    ap (take 20) (path_is n) ∙ ap (λ k. take k (digits_in 20 n ++ codes ".lance")) (sym (length_in n small)) ∙ take-append_seam (digits_in 20 n) (codes ".lance") in
    let value : digits_value 10 (take 20 (file_path n)) ≡ n = ap (digits_value 10) front ∙ value_in n small in
    let below : nat_lt n (2 ^ 53) ≡ true = grind (arith, nat_tests) in
    rw (value, (bytes_eq-Decides (file_path n) (file_path n)).1 refl, below) refl

-- twenty digits with the ending are the path of their value
pub some_number : (digits : List ℕ) (n : ℕ) → length digits ≡ 20 → AllDigits 10 digits → n ≡ digits_value 10 digits → n < 2 ^ 53 → Some n ≡ file_number (digits ++ codes ".lance")
some_number digits n size all value small =
    let twenty : digits_in 20 n ≡ digits =
    ap (λ k. digits_in k n) (sym size) ∙ ap (digits_in (length digits)) value ∙ padded digits all (omega (arith, size)) (omega (arith, value)) in
    sym (number_of_path n small) ∙ ap file_number (path_is n ∙ ap (λ l. l ++ codes ".lance") twenty)

both_true : (a b : Bool) → a && b ≡ true → (a ≡ true) × (b ≡ true)
both_true true b e = (refl, e)
both_true false b e = absurd (cc e)

-- a path of no number below 2^53 has none
pub no_number : (path : List ℕ) → ((n : ℕ) → n < 2 ^ 53 → path ≢ file_path n) → None ≡ file_number path
unfolding file_number
no_number path none = elim (cases_Bool (bytes_eq path (file_path (digits_value 10 (take 20 path))) && nat_lt (digits_value 10 (take 20 path)) (2 ^ 53))) [
  | inl both ↦ absurd (none (digits_value 10 (take 20 path)) (ltb-true _ _ (both_true _ _ both).1) ((bytes_eq-Decides path (file_path (digits_value 10 (take 20 path)))).0 (both_true _ _ both).0))
  | inr other ↦ rw other refl
]

-- the number of a path is below 2^53
pub number_below : (path : List ℕ) (n : ℕ) → file_number path ≡ Some n → n < 2 ^ 53
unfolding file_number
number_below path n is = elim (cases_Bool (bytes_eq path (file_path (digits_value 10 (take 20 path))) && nat_lt (digits_value 10 (take 20 path)) (2 ^ 53))) [
  | inl both ↦ let same : digits_value 10 (take 20 path) ≡ n = cc (rw both at is) in subst (λ k. k < 2 ^ 53) same (ltb-true _ _ (both_true _ _ both).1)
  | inr other ↦ absurd (cc (rw other at is))
]

-- what a width of twenty with zeros writes
pub zeros_in : (n : ℕ) → styled_decimal (format_spec 32 0 4 20 (2 ^ 64 - 1)) n ≡ digits_in 20 n
unfolding padded_integral char_count
zeros_in n =
    let size : 20 - length (decimal n) - 0 - 0 ≡ 20 - length (decimal n) = omega arith in
    ap (λ k. replicate k 48 ++ (decimal n ++ [])) size ∙ ap (λ l. replicate (20 - length (decimal n)) 48 ++ l) (append-nil (decimal n))

pub no_ending : (path : List ℕ) → ((front : List ℕ) → path ≢ front ++ codes ".lance") → None ≡ file_number path
no_ending path none = no_number path (λ n small is. none (digits_in 20 n) (is ∙ path_is n))

pub no_digits : (digits : List ℕ) → ((n : ℕ) → n < 2 ^ 53 → digits ≢ digits_in 20 n) → None ≡ file_number (digits ++ codes ".lance")
no_digits digits none = no_number (digits ++ codes ".lance") (λ n small is. none n small (append_cancel_right digits (digits_in 20 n) (codes ".lance") (is ∙ path_is n)))

pub not_twenty : (digits : List ℕ) → length digits ≢ 20 → (n : ℕ) → n < 2 ^ 53 → digits ≢ digits_in 20 n
not_twenty digits other n small is = other (ap length is ∙ length_in n small)

pub not_plus : (digits : List ℕ) → get_or digits 0 0 ≡ 43 → (n : ℕ) → n < 2 ^ 53 → digits ≢ digits_in 20 n
not_plus digits plus n small is =
    let first = digit_at (digits_in 20 n) 0 (digits_are n small) (omega (arith, length_in n small)) in
    omega (arith, first, plus, ap (λ (l : List ℕ). get_or l 0 0) is)

-- what a parse of twenty digits tells
pub not_parsed : {E : Type 0} (digits : List ℕ) (r : Result ℕ E) → ParsesUnsigned 64 10 digits r → get_or digits 0 0 ≢ 43 → result_ok r ≡ None → (n : ℕ) → n < 2 ^ 53 → digits ≢ digits_in 20 n
not_parsed digits (Ok v) parsed plus failed n small is = absurd (cc failed)
not_parsed {E = E} digits (Err e) parsed plus failed n small is =
    let value : digits_value 10 digits ≡ n = ap (digits_value 10) is ∙ value_in n small in
    parse_plain own {E = E} 64 digits (Err e) parsed plus (subst (AllDigits 10) (sym is) (digits_are n small), omega (arith, ap length is, length_in n small), omega (arith, value))

pub is_parsed : {E : Type 0} (digits : List ℕ) (r : Result ℕ E) (v : ℕ) → ParsesUnsigned 64 10 digits r → get_or digits 0 0 ≢ 43 → result_ok r ≡ Some v → AllDigits 10 digits × (v ≡ digits_value 10 digits)
is_parsed {E = E} digits (Ok w) v parsed plus worked =
    let told = parse_plain own {E = E} 64 digits (Ok w) parsed plus in
    let same : w ≡ v = cc worked in
    (told.0.0, sym same ∙ told.1)
is_parsed digits (Err e) v parsed plus worked = absurd (cc worked)

pub too_large : (digits : List ℕ) (v : ℕ) → v ≡ digits_value 10 digits → 2 ^ 53 ≤ v → (n : ℕ) → n < 2 ^ 53 → digits ≢ digits_in 20 n
too_large digits v value large n small is = omega (arith, value, large, ap (digits_value 10) is, value_in n small)
