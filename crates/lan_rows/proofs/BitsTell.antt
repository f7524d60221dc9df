-- The token of a primitive tells its bits.
use Rattle.std.proofs.Common.{◌≡◌, ℕ, zero, suc, ◌+◌, ◌-◌, ◌*◌, ◌^◌, ◌<◌, ◌≤◌, List, [], ◌∷◌, length, refl, sym, ap, ◌∙◌, inl, inr, arith}
use Rattle.std.specs.Prelude.{nat_le, nat_eq, slice_index, decimal, Ok}
use Rattle.std.specs.Fmt.{signed_decimal}
use Rattle.std.specs.Int.{byte_at, bytes_high_first, from_be_bytes, w16, w32, w64, byte_len}
use Rattle.std.proofs.Math.Nat.{pow-succ'}
use Rattle.std.proofs.lemmas.Bool.{cases_Bool}
use Rattle.std.proofs.lemmas.Bool.Decides.{nat_tests}
use Rattle.std.proofs.lemmas.Fmt.{signed_decimal_injective, decimal_injective}
use Rattle.std.proofs.lemmas.Nat.{from_be_bytes-to_be_bytes_2, from_be_bytes-to_be_bytes_4, from_be_bytes-to_be_bytes_8}
use lib.Signed.{mag}
use Rattle.json.specs.Token.{Token, number, boolean, end_array}
use Rattle.json.specs.Print.{IsPrintable}
use Rattle.json.proofs.Printed.Decimals.{IsNumber-signed_decimal, IsNumber-decimal}
use Rattle.hex.specs.Hex.{IsBytes, encode_lower, decode_of}
use Rattle.hex.proofs.HexLemmas.{decode_of-encode_lower}
use Rattle.lan_model.specs.declared.tree.Primitive.{Primitive}
use Rattle.lan_model.specs.declared.tree.Primitive.TheVariants as p
use Rattle.lan_model.specs.Fits.{width}
use Rattle.lan_rows.specs.Bits.{stored}
use Rattle.lan_rows.specs.Line.{low_first, signed_of, signed_token, digits_token, bits_token}

-- ---- hexadecimal

pub encode_same : (s t : List ℕ) → IsBytes s → IsBytes t → encode_lower s ≡ encode_lower t → s ≡ t
encode_same s t h k e =
    let both : Ok s ≡ Ok t = sym (decode_of-encode_lower s h) ∙ ap decode_of e ∙ decode_of-encode_lower t k in
    cc both

byte_below : (i n : ℕ) → byte_at i n < 256
byte_below zero n = omega arith
byte_below (suc i) n = omega arith

high_at : (k n i : ℕ) → slice_index (bytes_high_first k n) i < 256
high_at zero n i = omega arith
high_at (suc k) n zero = byte_below k n
high_at (suc k) n (suc i) = high_at k n i

high_bytes : (k n : ℕ) → IsBytes (bytes_high_first k n)
high_bytes k n = λ i. high_at k n i

digits_same : (k b c : ℕ) → digits_token k b ≡ digits_token k c → bytes_high_first k b ≡ bytes_high_first k c
digits_same k b c e = let texts : encode_lower (bytes_high_first k b) ≡ encode_lower (bytes_high_first k c) = cc e in encode_same (bytes_high_first k b) (bytes_high_first k c) (high_bytes k b) (high_bytes k c) texts

-- ---- two's complement

mag_of : (g b : ℕ) → mag (signed_of g b) ≤ g
mag_of g b = elim (cases_Bool (nat_le b g)) [ inl is ↦ rw is (grind (arith, nat_tests, is)) | inr over ↦ rw over (grind (arith, nat_tests, over)) ]

signed_same : (g b c : ℕ) → b < 2 * g + 2 → c < 2 * g + 2 → signed_of g b ≡ signed_of g c → b ≡ c
signed_same g b c h k e =
    elim (cases_Bool (nat_le b g)) [
      | inl small ↦ elim (cases_Bool (nat_le c g)) [
        | inl also ↦ let e' = rw (small, also) at e in cc
        | inr over ↦ let e' = rw (small, over) at e in absurd (cc)
      ]
      | inr big ↦ elim (cases_Bool (nat_le c g)) [
        | inl small ↦ let e' = rw (big, small) at e in absurd (cc)
        | inr over ↦
            let e' = rw (big, over) at e in
            let same : g + 1 + g - b ≡ g + 1 + g - c = cc in
            grind (arith, nat_tests, same)
      ]
    ]

whole_same : (g b c : ℕ) → g < 2 ^ 63 → b < 2 * g + 2 → c < 2 * g + 2 → signed_token g b ≡ signed_token g c → b ≡ c
whole_same g b c few h k e =
    let first : mag (signed_of g b) < 2 ^ 63 = omega (arith, mag_of g b) in
    let second : mag (signed_of g c) < 2 ^ 63 = omega (arith, mag_of g c) in
    let texts : signed_decimal (signed_of g b) ≡ signed_decimal (signed_of g c) = cc e in
    signed_same g b c h k (signed_decimal_injective (signed_of g b) (signed_of g c) first second texts)

decimal_same : (b c : ℕ) → b < 2 ^ 64 → c < 2 ^ 64 → number (decimal b) ≡ number (decimal c) → b ≡ c
decimal_same b c h k e = let texts : decimal b ≡ decimal c = cc e in decimal_injective b c h k texts

truth_same : (b c : ℕ) → b < 2 → c < 2 → boolean (nat_eq b 1) ≡ boolean (nat_eq c 1) → b ≡ c
truth_same b c h k e = let both : nat_eq b 1 ≡ nat_eq c 1 = cc e in grind (arith, nat_tests, both)

-- ---- any primitive

pub bits_same : (prim : Primitive) (b c : ℕ) → b < 2 ^ width prim → c < 2 ^ width prim → bits_token prim b ≡ bits_token prim c → b ≡ c
bits_same p.Bool b c h k e = truth_same b c h k e
bits_same p.Int8 b c h k e = whole_same 127 b c (omega arith) h k e
bits_same p.Int16 b c h k e = whole_same 32767 b c (omega arith) h k e
bits_same p.Int32 b c h k e = whole_same 2147483647 b c (omega arith) h k e
bits_same p.Date b c h k e = whole_same 2147483647 b c (omega arith) h k e
bits_same p.Int64 b c h k e = whole_same 9223372036854775807 b c (omega arith) h k e
bits_same p.Uint8 b c h k e = decimal_same b c (omega (arith, h)) (omega (arith, k)) e
bits_same p.Uint16 b c h k e = decimal_same b c (omega (arith, h)) (omega (arith, k)) e
bits_same p.Uint32 b c h k e = decimal_same b c (omega (arith, h)) (omega (arith, k)) e
bits_same p.Uint64 b c h k e = decimal_same b c h k e
bits_same p.Half b c h k e = sym (from_be_bytes-to_be_bytes_2 b h) ∙ ap (from_be_bytes w16) (digits_same 2 b c e) ∙ from_be_bytes-to_be_bytes_2 c k
bits_same p.Float b c h k e = sym (from_be_bytes-to_be_bytes_4 b h) ∙ ap (from_be_bytes w32) (digits_same 4 b c e) ∙ from_be_bytes-to_be_bytes_4 c k
bits_same p.Double b c h k e = sym (from_be_bytes-to_be_bytes_8 b h) ∙ ap (from_be_bytes w64) (digits_same 8 b c e) ∙ from_be_bytes-to_be_bytes_8 c k

whole_number : (g b : ℕ) → g < 2 ^ 63 → IsPrintable (signed_token g b)
whole_number g b few = IsNumber-signed_decimal (signed_of g b) (omega (arith, mag_of g b))

pub bits_printable : (prim : Primitive) (b : ℕ) → b < 2 ^ width prim → IsPrintable (bits_token prim b)
bits_printable p.Bool b h = tt
bits_printable p.Int8 b h = whole_number 127 b (omega arith)
bits_printable p.Int16 b h = whole_number 32767 b (omega arith)
bits_printable p.Int32 b h = whole_number 2147483647 b (omega arith)
bits_printable p.Date b h = whole_number 2147483647 b (omega arith)
bits_printable p.Int64 b h = whole_number 9223372036854775807 b (omega arith)
bits_printable p.Uint8 b h = IsNumber-decimal b (omega (arith, h))
bits_printable p.Uint16 b h = IsNumber-decimal b (omega (arith, h))
bits_printable p.Uint32 b h = IsNumber-decimal b (omega (arith, h))
bits_printable p.Uint64 b h = IsNumber-decimal b h
bits_printable p.Half b h = tt
bits_printable p.Float b h = tt
bits_printable p.Double b h = tt

pub bits_not_null : (prim : Primitive) (b : ℕ) → bits_token prim b ≡ Token.null → ⊥
bits_not_null p.Bool b e = cc
bits_not_null p.Int8 b e = cc
bits_not_null p.Int16 b e = cc
bits_not_null p.Int32 b e = cc
bits_not_null p.Date b e = cc
bits_not_null p.Int64 b e = cc
bits_not_null p.Uint8 b e = cc
bits_not_null p.Uint16 b e = cc
bits_not_null p.Uint32 b e = cc
bits_not_null p.Uint64 b e = cc
bits_not_null p.Half b e = cc
bits_not_null p.Float b e = cc
bits_not_null p.Double b e = cc

pub bits_no_end : (prim : Primitive) (b : ℕ) → bits_token prim b ≡ end_array → ⊥
bits_no_end p.Bool b e = cc
bits_no_end p.Int8 b e = cc
bits_no_end p.Int16 b e = cc
bits_no_end p.Int32 b e = cc
bits_no_end p.Date b e = cc
bits_no_end p.Int64 b e = cc
bits_no_end p.Uint8 b e = cc
bits_no_end p.Uint16 b e = cc
bits_no_end p.Uint32 b e = cc
bits_no_end p.Uint64 b e = cc
bits_no_end p.Half b e = cc
bits_no_end p.Float b e = cc
bits_no_end p.Double b e = cc

-- ---- the bytes of a vector's item

pub rest_bytes : (b : ℕ) (s : List ℕ) → IsBytes (b ∷ s) → IsBytes s
rest_bytes b s h = λ i. h (suc i)

pub low_first-same : (s t : List ℕ) → length s ≡ length t → IsBytes s → IsBytes t → low_first s ≡ low_first t → s ≡ t
low_first-same [] [] same h k e = refl
low_first-same [] (c ∷ t) same h k e = absurd (omega (arith, same))
low_first-same (b ∷ s) [] same h k e = absurd (omega (arith, same))
low_first-same (b ∷ s) (c ∷ t) same h k e =
    let first : b < 256 = h 0 in
    let second : c < 256 = k 0 in
    let heads : b ≡ c = omega (arith, e) in
    let tails : low_first s ≡ low_first t = omega (arith, e) in
    let lengths : length s ≡ length t = omega (arith, same) in
    let rest = low_first-same s t lengths (rest_bytes b s h) (rest_bytes c t k) tails in
    cc (heads, rest)

low_below : (s : List ℕ) → IsBytes s → low_first s < 256 ^ length s
low_below [] h = omega arith
low_below (b ∷ s) h =
    let first : b < 256 = h 0 in
    let rest = low_below s (rest_bytes b s h) in
    rw (pow-succ' 256 (length s)) (omega (arith, first, rest))

-- an item of a type other than bool has the bytes of its width
abbrev pub IsWhole : Primitive → Type 0
IsWhole prim = prim ≡ p.Bool → ⊥

pub item_below : (prim : Primitive) (s : List ℕ) → IsWhole prim → IsBytes s → length s ≡ byte_len (stored prim) → low_first s < 2 ^ width prim
item_below p.Bool s whole h is = absurd (whole refl)
item_below p.Int8 s whole h is = omega (arith, rw is at (low_below s h))
item_below p.Int16 s whole h is = omega (arith, rw is at (low_below s h))
item_below p.Int32 s whole h is = omega (arith, rw is at (low_below s h))
item_below p.Int64 s whole h is = omega (arith, rw is at (low_below s h))
item_below p.Uint8 s whole h is = omega (arith, rw is at (low_below s h))
item_below p.Uint16 s whole h is = omega (arith, rw is at (low_below s h))
item_below p.Uint32 s whole h is = omega (arith, rw is at (low_below s h))
item_below p.Uint64 s whole h is = omega (arith, rw is at (low_below s h))
item_below p.Half s whole h is = omega (arith, rw is at (low_below s h))
item_below p.Float s whole h is = omega (arith, rw is at (low_below s h))
item_below p.Double s whole h is = omega (arith, rw is at (low_below s h))
item_below p.Date s whole h is = omega (arith, rw is at (low_below s h))

pub whole_bytes : (prim : Primitive) → IsWhole prim → width prim ≡ 8 * byte_len (stored prim)
whole_bytes p.Bool whole = absurd (whole refl)
whole_bytes p.Int8 whole = refl
whole_bytes p.Int16 whole = refl
whole_bytes p.Int32 whole = refl
whole_bytes p.Int64 whole = refl
whole_bytes p.Uint8 whole = refl
whole_bytes p.Uint16 whole = refl
whole_bytes p.Uint32 whole = refl
whole_bytes p.Uint64 whole = refl
whole_bytes p.Half whole = refl
whole_bytes p.Float whole = refl
whole_bytes p.Double whole = refl
whole_bytes p.Date whole = refl
