-- A value of fixed width is read as its bits exactly where it stands for them.
use Rattle.std.proofs.Common.{◌≡◌, ℕ, ◌+◌, ◌-◌, ◌*◌, ◌^◌, ◌<◌, ◌≤◌, ℤ, pos, negsuc, List, Bool, true, false, Ok, Err, refl, sym, ap, ◌∙◌, inl, inr, arith}
use Rattle.std.specs.Prelude.{nat_le, nat_lt, Option, Some, None, option_and_then, Result}
use Rattle.std.specs.Int.{Width, w16, w32, w64, byte_len, from_be_bytes}
use Rattle.std.proofs.lemmas.Bool.{cases_Bool}
use Rattle.std.proofs.lemmas.Bool.Decides.{nat_tests}
use Rattle.serde_json.specs.Data as json
use Rattle.serde_json.specs.Data.{Num, unsigned, negative, float, Data, Items, Members}
use Rattle.serde_json.specs.Find.{as_bool, as_number, as_str, as_array, as_object, as_i64, as_u64, as_integer}
use Rattle.hex.specs.Hex.{decode_sized}
use Rattle.hex.specs.declared.error.FromHexError.{FromHexError}
use Rattle.lan_model.specs.declared.tree.Primitive.{Primitive}
use Rattle.lan_model.specs.declared.tree.Primitive.TheVariants as p
use Rattle.lan_rows.specs.declared.faults.RowFault.{RowFault}
use Rattle.lan_rows.specs.declared.faults.RowFault.TheVariants.{Kind, Range}
use Rattle.lan_rows.specs.Judged.{Judged, found_or, and_then, on_good}
use Rattle.lan_rows.specs.Bits.{bit, signed_bits, unsigned_bits, whole_or_kind, whole, signed, unsigned as whole_unsigned, bytes_or_hex, digits, truth, bits_in}
use Rattle.lan_rows.specs.Line.{signed_of}
use Rattle.lan_rows.specs.RowOf.{IsTruth, IsDigits, IsBits}

-- ---- what was judged good

pub good : {A B : Type 0} (f : A → B) (r : Judged A) (b : B) → on_good f r ≡ Ok b → (a : A) × (r ≡ Ok a) × (f a ≡ b)
good f (Ok a) b e = (a, refl, cc)
good f (Err fault) b e = absurd (cc)

pub both_good : {A B : Type 0} (f : A → Judged B) (r : Judged A) (b : B) → and_then r f ≡ Ok b → (a : A) × (r ≡ Ok a) × (f a ≡ Ok b)
both_good f (Ok a) b e = (a, refl, e)
both_good f (Err fault) b e = absurd (cc)

pub found : {A : Type 0} (fault : RowFault) (o : Option A) (a : A) → found_or fault o ≡ Ok a → o ≡ Some a
found fault None a e = absurd (cc)
found fault (Some x) a e = let same : x ≡ a = cc in ap (λ y. Some y) same

-- ---- what a value is

is_bool : (d : Data) (t : Bool) → as_bool d ≡ Some t → d ≡ json.boolean t
is_bool json.null t e = absurd (cc)
is_bool (json.boolean b) t e = cc
is_bool (json.number n) t e = absurd (cc)
is_bool (json.string s) t e = absurd (cc)
is_bool (json.array ds) t e = absurd (cc)
is_bool (json.object ms) t e = absurd (cc)

is_number : (d : Data) (n : Num) → as_number d ≡ Some n → d ≡ json.number n
is_number json.null n e = absurd (cc)
is_number (json.boolean b) n e = absurd (cc)
is_number (json.number m) n e = cc
is_number (json.string s) n e = absurd (cc)
is_number (json.array ds) n e = absurd (cc)
is_number (json.object ms) n e = absurd (cc)

pub is_string : (d : Data) (s : List ℕ) → as_str d ≡ Some s → d ≡ json.string s
is_string json.null s e = absurd (cc)
is_string (json.boolean b) s e = absurd (cc)
is_string (json.number n) s e = absurd (cc)
is_string (json.string t) s e = cc
is_string (json.array ds) s e = absurd (cc)
is_string (json.object ms) s e = absurd (cc)

pub is_array : (d : Data) (ds : Items) → as_array d ≡ Some ds → d ≡ json.array ds
is_array json.null ds e = absurd (cc)
is_array (json.boolean b) ds e = absurd (cc)
is_array (json.number n) ds e = absurd (cc)
is_array (json.string s) ds e = absurd (cc)
is_array (json.array es) ds e = cc
is_array (json.object ms) ds e = absurd (cc)

pub is_object : (d : Data) (ms : Members) → as_object d ≡ Some ms → d ≡ json.object ms
is_object json.null ms e = absurd (cc)
is_object (json.boolean b) ms e = absurd (cc)
is_object (json.number n) ms e = absurd (cc)
is_object (json.string s) ms e = absurd (cc)
is_object (json.array ds) ms e = absurd (cc)
is_object (json.object ns) ms e = cc

-- ---- two's complement

bits_of : (g : ℕ) (z : ℤ) (b : ℕ) → signed_bits g z ≡ Some b → (z ≡ signed_of g b) × (b ≤ 2 * g + 1)
bits_of g (pos n) b e =
    elim (cases_Bool (nat_le n g)) [
      | inl is ↦
          let e' = rw is at e in
          let same : n ≡ b = cc in
          let small = rw same at is in
          (rw small (ap pos same), grind (arith, nat_tests, small))
      | inr over ↦ let e' = rw over at e in absurd (cc)
    ]
bits_of g (negsuc n) b e =
    elim (cases_Bool (nat_le n g)) [
      | inl is ↦
          let e' = rw is at e in
          let same : g + 1 + (g - n) ≡ b = cc in
          let big : nat_le b g ≡ false = grind (arith, nat_tests, same) in
          let back : n ≡ g + 1 + g - b = grind (arith, nat_tests, is, same) in
          (rw big (ap negsuc back), grind (arith, nat_tests, is, same))
      | inr over ↦ let e' = rw over at e in absurd (cc)
    ]

of_bits : (g : ℕ) (z : ℤ) (b : ℕ) → z ≡ signed_of g b → b ≤ 2 * g + 1 → signed_bits g z ≡ Some b
of_bits g (pos n) b e few =
    elim (cases_Bool (nat_le b g)) [
      | inl is ↦
          let e' = rw is at e in
          let same : n ≡ b = cc in
          rw (same, is) refl
      | inr over ↦ let e' = rw over at e in absurd (cc)
    ]
of_bits g (negsuc n) b e few =
    elim (cases_Bool (nat_le b g)) [
      | inl is ↦ let e' = rw is at e in absurd (cc)
      | inr over ↦
          let e' = rw over at e in
          let same : n ≡ g + 1 + g - b = cc in
          let low : nat_le n g ≡ true = grind (arith, nat_tests, over, same) in
          let back : g + 1 + (g - n) ≡ b = grind (arith, nat_tests, over, same) in
          rw low (ap (λ x. Some x) back)
    ]

num_signed : (top : List ℕ) (g : ℕ) (n : Num) (b : ℕ) → and_then (whole_or_kind top n) (λ m. found_or (Range top) (option_and_then (signed_bits g) (as_i64 m))) ≡ Ok b → (as_integer n ≡ Some (signed_of g b)) × (b ≤ 2 * g + 1)
num_signed top g (unsigned n) b e =
    elim (cases_Bool (nat_lt n (2 ^ 63))) [
      | inl is ↦
          let e' = rw is at e in
          let h = bits_of g (pos n) b (found (Range top) (signed_bits g (pos n)) b e') in
          (ap (λ z. Some z) h.0, h.1)
      | inr over ↦ let e' = rw over at e in absurd (cc)
    ]
num_signed top g (negative z) b e = let h = bits_of g z b (found (Range top) (signed_bits g z) b e) in (ap (λ y. Some y) h.0, h.1)
num_signed top g (float x) b e = absurd (cc)

signed_num : (top : List ℕ) (g : ℕ) (n : Num) (b : ℕ) → g < 2 ^ 63 → as_integer n ≡ Some (signed_of g b) → b ≤ 2 * g + 1 → and_then (whole_or_kind top n) (λ m. found_or (Range top) (option_and_then (signed_bits g) (as_i64 m))) ≡ Ok b
signed_num top g (unsigned n) b low e few =
    let same : pos n ≡ signed_of g b = cc in
    let small : nat_lt n (2 ^ 63) ≡ true = elim (cases_Bool (nat_le b g)) [
      | inl is ↦
          let s' = rw is at same in
          let eq : n ≡ b = cc in
          grind (arith, nat_tests, is, eq, low)
      | inr over ↦ let s' = rw over at same in absurd (cc)
    ] in
    rw small (ap (found_or (Range top)) (of_bits g (pos n) b same few))
signed_num top g (negative z) b low e few = let same : z ≡ signed_of g b = cc in ap (found_or (Range top)) (of_bits g z b same few)
signed_num top g (float x) b low e few = absurd (cc)

to_signed : (top : List ℕ) (g : ℕ) (d : Data) (b : ℕ) → signed top g d ≡ Ok b → (n : Num) × (d ≡ json.number n) × (as_integer n ≡ Some (signed_of g b)) × (b ≤ 2 * g + 1)
to_signed top g d b e =
    let w = both_good (λ n. found_or (Range top) (option_and_then (signed_bits g) (as_i64 n))) (whole top d) b e in
    let f = both_good (whole_or_kind top) (found_or (Kind top) (as_number d)) w.0 w.1 in
    let is = is_number d f.0 (found (Kind top) (as_number d) f.0 f.1) in
    let e' = rw is at e in
    let h = num_signed top g f.0 b e' in
    (f.0, is, h.0, h.1)

from_signed : (top : List ℕ) (g : ℕ) (d : Data) (n : Num) (b : ℕ) → g < 2 ^ 63 → d ≡ json.number n → as_integer n ≡ Some (signed_of g b) → b ≤ 2 * g + 1 → signed top g d ≡ Ok b
from_signed top g d n b low is e few = rw is (signed_num top g n b low e few)

-- ---- numbers without a sign

num_unsigned : (top : List ℕ) (g : ℕ) (n : Num) (b : ℕ) → and_then (whole_or_kind top n) (λ m. found_or (Range top) (option_and_then (unsigned_bits g) (as_u64 m))) ≡ Ok b → (n ≡ unsigned b) × (b ≤ g)
num_unsigned top g (unsigned n) b e =
    elim (cases_Bool (nat_le n g)) [
      | inl is ↦
          let e' = rw is at e in
          let same : n ≡ b = cc in
          let small = rw same at is in
          (ap unsigned same, grind (arith, nat_tests, small))
      | inr over ↦ let e' = rw over at e in absurd (cc)
    ]
num_unsigned top g (negative z) b e = absurd (cc)
num_unsigned top g (float x) b e = absurd (cc)

to_unsigned : (top : List ℕ) (g : ℕ) (d : Data) (b : ℕ) → whole_unsigned top g d ≡ Ok b → (d ≡ json.number (unsigned b)) × (b ≤ g)
to_unsigned top g d b e =
    let w = both_good (λ n. found_or (Range top) (option_and_then (unsigned_bits g) (as_u64 n))) (whole top d) b e in
    let f = both_good (whole_or_kind top) (found_or (Kind top) (as_number d)) w.0 w.1 in
    let is = is_number d f.0 (found (Kind top) (as_number d) f.0 f.1) in
    let e' = rw is at e in
    let h = num_unsigned top g f.0 b e' in
    (is ∙ ap json.number h.0, h.1)

from_unsigned : (top : List ℕ) (g : ℕ) (d : Data) (b : ℕ) → d ≡ json.number (unsigned b) → b ≤ g → whole_unsigned top g d ≡ Ok b
from_unsigned top g d b is few = let small : nat_le b g ≡ true = grind (arith, nat_tests, few) in rw (is, small) refl

-- ---- hexadecimal, and truths

pub decoded : (top : List ℕ) (r : Result (List ℕ) FromHexError) (s : List ℕ) → bytes_or_hex top r ≡ Ok s → r ≡ Ok s
decoded top (Ok t) s e = let same : t ≡ s = cc in ap (λ x. Ok x) same
decoded top (Err x) s e = absurd (cc)

to_digits : (top : List ℕ) (w : Width) (d : Data) (b : ℕ) → digits top w d ≡ Ok b → IsDigits w d b
to_digits top w d b e =
    let f = both_good (λ text. on_good (from_be_bytes w) (bytes_or_hex top (decode_sized text (byte_len w)))) (found_or (Kind top) (as_str d)) b e in
    let g = good (from_be_bytes w) (bytes_or_hex top (decode_sized f.0 (byte_len w))) b f.2 in
    (f.0, g.0, is_string d f.0 (found (Kind top) (as_str d) f.0 f.1), decoded top (decode_sized f.0 (byte_len w)) g.0 g.1, sym g.2)

from_digits : (top : List ℕ) (w : Width) (d : Data) (b : ℕ) → IsDigits w d b → digits top w d ≡ Ok b
from_digits top w d b h = rw (h.2, h.3, h.4) refl

to_truth : (top : List ℕ) (d : Data) (b : ℕ) → truth top d ≡ Ok b → IsTruth d b
to_truth top d b e =
    let g = good bit (found_or (Kind top) (as_bool d)) b e in
    (g.0, is_bool d g.0 (found (Kind top) (as_bool d) g.0 g.1), sym g.2)

from_truth : (top : List ℕ) (d : Data) (b : ℕ) → IsTruth d b → truth top d ≡ Ok b
from_truth top d b h = rw (h.1, h.2) refl

-- ---- any primitive

pub to_bits : (top : List ℕ) (prim : Primitive) (d : Data) (b : ℕ) → bits_in top prim d ≡ Ok b → IsBits prim d b
to_bits top p.Bool d b e = to_truth top d b e
to_bits top p.Int8 d b e = let h = to_signed top 127 d b e in (h.0, h.1, h.2, omega (arith, h.3))
to_bits top p.Int16 d b e = let h = to_signed top 32767 d b e in (h.0, h.1, h.2, omega (arith, h.3))
to_bits top p.Int32 d b e = let h = to_signed top 2147483647 d b e in (h.0, h.1, h.2, omega (arith, h.3))
to_bits top p.Int64 d b e = let h = to_signed top 9223372036854775807 d b e in (h.0, h.1, h.2, omega (arith, h.3))
to_bits top p.Uint8 d b e = let h = to_unsigned top 255 d b e in (h.0, omega (arith, h.1))
to_bits top p.Uint16 d b e = let h = to_unsigned top 65535 d b e in (h.0, omega (arith, h.1))
to_bits top p.Uint32 d b e = let h = to_unsigned top 4294967295 d b e in (h.0, omega (arith, h.1))
to_bits top p.Uint64 d b e = let h = to_unsigned top 18446744073709551615 d b e in (h.0, omega (arith, h.1))
to_bits top p.Half d b e = to_digits top w16 d b e
to_bits top p.Float d b e = to_digits top w32 d b e
to_bits top p.Double d b e = to_digits top w64 d b e
to_bits top p.Date d b e = let h = to_signed top 2147483647 d b e in (h.0, h.1, h.2, omega (arith, h.3))

pub from_bits : (top : List ℕ) (prim : Primitive) (d : Data) (b : ℕ) → IsBits prim d b → bits_in top prim d ≡ Ok b
from_bits top p.Bool d b h = from_truth top d b h
from_bits top p.Int8 d b h = from_signed top 127 d h.0 b (omega arith) h.1 h.2 (omega (arith, h.3))
from_bits top p.Int16 d b h = from_signed top 32767 d h.0 b (omega arith) h.1 h.2 (omega (arith, h.3))
from_bits top p.Int32 d b h = from_signed top 2147483647 d h.0 b (omega arith) h.1 h.2 (omega (arith, h.3))
from_bits top p.Int64 d b h = from_signed top 9223372036854775807 d h.0 b (omega arith) h.1 h.2 (omega (arith, h.3))
from_bits top p.Uint8 d b h = from_unsigned top 255 d b h.0 (omega (arith, h.1))
from_bits top p.Uint16 d b h = from_unsigned top 65535 d b h.0 (omega (arith, h.1))
from_bits top p.Uint32 d b h = from_unsigned top 4294967295 d b h.0 (omega (arith, h.1))
from_bits top p.Uint64 d b h = from_unsigned top 18446744073709551615 d b h.0 (omega (arith, h.1))
from_bits top p.Half d b h = from_digits top w16 d b h
from_bits top p.Float d b h = from_digits top w32 d b h
from_bits top p.Double d b h = from_digits top w64 d b h
from_bits top p.Date d b h = from_signed top 2147483647 d h.0 b (omega arith) h.1 h.2 (omega (arith, h.3))
