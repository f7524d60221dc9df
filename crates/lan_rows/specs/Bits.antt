-- The bits that a JSON value is in a type of fixed width.
use Rattle.std.specs.Prelude.{ℕ, ◌+◌, ◌-◌, nat_le, ℤ, pos, negsuc, List, Bool, true, false, cond, Option, Some, None, option_and_then, Result, Ok, Err}
use Rattle.std.specs.Int.{Width, w8, w16, w32, w64, byte_len, from_be_bytes}
use Rattle.serde_json.specs.Data.{Data, Num}
use Rattle.serde_json.specs.Find.{as_bool, as_number, as_str, as_i64, as_u64, is_float}
use Rattle.hex.specs.Hex.{decode_sized}
use Rattle.hex.specs.declared.error.FromHexError.{FromHexError}
use Rattle.lan_model.specs.declared.tree.Primitive.{Primitive}
use Rattle.lan_model.specs.declared.tree.Primitive.TheVariants as p
use Rattle.lan_rows.specs.declared.faults.RowFault.TheVariants.{Kind, Range, Hex}
use Rattle.lan_rows.specs.Judged.{Judged, found_or, and_then, on_good}

-- how many bytes an item of a vector has; a bool would have one
abbrev pub stored : Primitive → Width
stored p.Bool = w8
stored p.Int8 = w8
stored p.Uint8 = w8
stored p.Int16 = w16
stored p.Uint16 = w16
stored p.Half = w16
stored p.Int32 = w32
stored p.Uint32 = w32
stored p.Float = w32
stored p.Date = w32
stored p.Int64 = w64
stored p.Uint64 = w64
stored p.Double = w64

abbrev pub bit : Bool → ℕ
bit true = 1
bit false = 0

-- a number from -1 - greatest to greatest, in two's complement
abbrev pub signed_bits : ℕ → ℤ → Option ℕ
signed_bits greatest (pos n) = cond (nat_le n greatest) (Some n) None
signed_bits greatest (negsuc n) = cond (nat_le n greatest) (Some (greatest + 1 + (greatest - n))) None

abbrev pub unsigned_bits : ℕ → ℕ → Option ℕ
unsigned_bits greatest n = cond (nat_le n greatest) (Some n) None

-- a number with a point or an exponent, or that 64 bits don't hold, is a float
abbrev pub whole_or_kind : List ℕ → Num → Judged Num
whole_or_kind top n = cond (is_float n) (Err (Kind top)) (Ok n)

abbrev pub whole : List ℕ → Data → Judged Num
whole top d = and_then (found_or (Kind top) (as_number d)) (whole_or_kind top)

abbrev pub signed : List ℕ → ℕ → Data → Judged ℕ
signed top greatest d = and_then (whole top d) (λ n. found_or (Range top) (option_and_then (signed_bits greatest) (as_i64 n)))

abbrev pub unsigned : List ℕ → ℕ → Data → Judged ℕ
unsigned top greatest d = and_then (whole top d) (λ n. found_or (Range top) (option_and_then (unsigned_bits greatest) (as_u64 n)))

abbrev pub bytes_or_hex : List ℕ → Result (List ℕ) FromHexError → Judged (List ℕ)
bytes_or_hex top (Ok bytes) = Ok bytes
bytes_or_hex top (Err e) = Err (Hex top)

-- a text of two digits a byte, the highest byte first
abbrev pub digits : List ℕ → Width → Data → Judged ℕ
digits top w d = and_then (found_or (Kind top) (as_str d)) (λ text. on_good (from_be_bytes w) (bytes_or_hex top (decode_sized text (byte_len w))))

abbrev pub truth : List ℕ → Data → Judged ℕ
truth top d = on_good bit (found_or (Kind top) (as_bool d))

-- the bits, or the fault, that a value which isn't null is in the column `top`
abbrev pub bits_in : List ℕ → Primitive → Data → Judged ℕ
bits_in top p.Bool d = truth top d
bits_in top p.Int8 d = signed top 127 d
bits_in top p.Int16 d = signed top 32767 d
bits_in top p.Int32 d = signed top 2147483647 d
bits_in top p.Int64 d = signed top 9223372036854775807 d
bits_in top p.Uint8 d = unsigned top 255 d
bits_in top p.Uint16 d = unsigned top 65535 d
bits_in top p.Uint32 d = unsigned top 4294967295 d
bits_in top p.Uint64 d = unsigned top 18446744073709551615 d
bits_in top p.Half d = digits top w16 d
bits_in top p.Float d = digits top w32 d
bits_in top p.Double d = digits top w64 d
bits_in top p.Date d = signed top 2147483647 d
