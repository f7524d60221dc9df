-- Steps of printing, over plain values.
use Rattle.std.proofs.Common.{◌≡◌, ℕ, suc, ◌<◌, ◌≤◌, List, [], ◌∷◌, ◌++◌, length, take, drop, inl, inr, append_assoc, refl, sym, ap, ◌∙◌, arith, rules}
use Rattle.std.specs.Prelude.{min, IsUtf8, IsAscii, false}
use Rattle.std.specs.Int.{w64, from_le_bytes, byte_len}
use Rattle.std.specs.Str.{is_utf8}
use Rattle.std.proofs.lemmas.List.{take_min, drop_min}
use Rattle.std.proofs.lemmas.Bool.{cases_Bool, and_parts}
use Rattle.std.proofs.lemmas.Bool.Decides.{nat_tests}
use Rattle.std.proofs.lemmas.Str.{is_utf8-from_IsUtf8, IsUtf8-from_is_utf8, IsUtf8-from_ascii}
use Rattle.std.proofs.lemmas.Str.Ascii.{IsAscii-nil, IsAscii-cons}
use Rattle.std.specs.Prelude.{Bool, true, ◌&&◌, nat_lt}
use Rattle.json.specs.Token.{Token, string}
use Rattle.hex.specs.Hex.{encode_lower, lower_digits}
use Rattle.hex.proofs.HexLemmas.{IsAscii-encode_with}
use Rattle.lan_model.specs.declared.tree.Primitive.{Primitive}
use Rattle.lan_model.specs.declared.tree.Ty.{Ty, Text as TextTy, the_lemmas}
use Rattle.lan_model.specs.Plain.{plain_type, text}
use Rattle.lan_rows.specs.Bits.{stored}
use Rattle.lan_rows.specs.Line.{low_first, bits_token, parts_tokens, raw_tokens}

-- bytes with zeros behind them are the same number
pub low_first-padded : (s : List ℕ) → length s ≤ 8 → from_le_bytes w64 (s ++ drop (length s) (0 ∷ 0 ∷ 0 ∷ 0 ∷ 0 ∷ 0 ∷ 0 ∷ 0 ∷ [])) ≡ low_first s
low_first-padded [] h = refl
low_first-padded (a ∷ []) h = omega arith
low_first-padded (a ∷ b ∷ []) h = omega arith
low_first-padded (a ∷ b ∷ c ∷ []) h = omega arith
low_first-padded (a ∷ b ∷ c ∷ d ∷ []) h = omega arith
low_first-padded (a ∷ b ∷ c ∷ d ∷ e ∷ []) h = omega arith
low_first-padded (a ∷ b ∷ c ∷ d ∷ e ∷ f ∷ []) h = omega arith
low_first-padded (a ∷ b ∷ c ∷ d ∷ e ∷ f ∷ g ∷ []) h = omega arith
low_first-padded (a ∷ b ∷ c ∷ d ∷ e ∷ f ∷ g ∷ i ∷ []) h = omega arith
low_first-padded (a ∷ b ∷ c ∷ d ∷ e ∷ f ∷ g ∷ i ∷ j ∷ rest) h = absurd (omega (arith, h))

-- one item of a vector
pub parts_step : (prim : Primitive) (n m k : ℕ) (s : List ℕ) → n ≡ suc m → k ≡ min (byte_len (stored prim)) (length s) → parts_tokens prim n s ≡ bits_token prim (low_first (take k s)) ∷ parts_tokens prim m (drop k s)
unfolding parts_tokens
parts_step prim n m k s is cut = rw (is, cut, take_min (byte_len (stored prim)) s, drop_min (byte_len (stored prim)) s) refl

pub parts_end : (prim : Primitive) (n : ℕ) (s : List ℕ) → n ≡ 0 → parts_tokens prim n s ≡ Token.end_array ∷ []
unfolding parts_tokens
parts_end prim n s is = rw is refl

pub parts_on : (prim : Primitive) (all old new : List Token) (n m k b : ℕ) (s part after : List ℕ) → all ≡ old ++ parts_tokens prim n s → n ≡ suc m → k ≡ min (byte_len (stored prim)) (length s) → part ≡ take k s → after ≡ drop k s → b ≡ low_first part
    → new ≡ old ++ bits_token prim b ∷ [] → all ≡ new ++ parts_tokens prim m after
parts_on prim all old new n m k b s part after before is cut front back number more =
    let t : Token = bits_token prim (low_first (take k s)) in
    let rest : List Token = parts_tokens prim m (drop k s) in
    let wrote : new ≡ old ++ t ∷ [] = more ∙ ap (λ x. old ++ bits_token prim x ∷ []) (number ∙ ap low_first front) in
    before ∙ ap (λ ts. old ++ ts) (parts_step prim n m k s is cut) ∙ sym (append_assoc old (t ∷ []) rest) ∙ ap (λ ts. ts ++ rest) (sym wrote) ∙ ap (λ x. new ++ parts_tokens prim m x) (sym back)

-- ---- hexadecimal is text

abbrev below_128 : List ℕ → Bool
below_128 [] = true
below_128 (b ∷ bs) = nat_lt b 128 && below_128 bs

ascii_by_test : (s : List ℕ) → below_128 s ≡ true → IsAscii s
ascii_by_test [] h = IsAscii-nil
ascii_by_test (b ∷ bs) h =
    let parts = and_parts (nat_lt b 128) (below_128 bs) h in
    let first = parts.0 in
    let below : b < 128 = grind (arith, nat_tests, first) in
    IsAscii-cons b bs below (ascii_by_test bs parts.1)

ascii_digits : IsAscii lower_digits
ascii_digits = ascii_by_test lower_digits refl

pub digits_utf8 : (s : List ℕ) → IsUtf8 (encode_lower s)
digits_utf8 s = IsUtf8-from_ascii (encode_lower s) (IsAscii-encode_with lower_digits s ascii_digits)

-- ---- a text

plain_type-text : plain_type TextTy ≡ text
plain_type-text = search (rules, the_lemmas)

pub text_tokens : (ty : Ty) (s : List ℕ) → ty ≡ TextTy → IsUtf8 s → raw_tokens (plain_type ty) s ≡ string s ∷ []
text_tokens ty s is utf8 = rw (is, plain_type-text, is_utf8-from_IsUtf8 s utf8) refl

none : (s : List ℕ) → (IsUtf8 s → ⊥) → is_utf8 s ≡ false
none s other = elim (cases_Bool (is_utf8 s)) [ inl is ↦ absurd (other (IsUtf8-from_is_utf8 s is)) | inr differs ↦ differs ]

pub odd_tokens : (ty : Ty) (s : List ℕ) → ty ≡ TextTy → (IsUtf8 s → ⊥) → raw_tokens (plain_type ty) s ≡ Token.null ∷ []
odd_tokens ty s is other = rw (is, plain_type-text, none s other) refl
