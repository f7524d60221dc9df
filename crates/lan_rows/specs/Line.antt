-- The line that is printed for a row, as tokens of JSON.
use Rattle.std.specs.Prelude.{ℕ, zero, suc, ◌+◌, ◌-◌, ◌*◌, nat_le, nat_eq, ℤ, pos, negsuc, List, [], ◌∷◌, ◌++◌, take, drop, cond, decimal}
use Rattle.std.specs.Fmt.{signed_decimal}
use Rattle.std.specs.Int.{bytes_high_first, byte_len}
use Rattle.std.specs.Str.{is_utf8}
use Rattle.json.specs.Token.{Token, begin_object, end_object, begin_array, end_array, key, string, number, boolean}
use Rattle.json.specs.Print.{print}
use Rattle.hex.specs.Hex.{encode_lower}
use Rattle.lan_model.specs.declared.tree.Primitive.{Primitive}
use Rattle.lan_model.specs.declared.tree.Primitive.TheVariants as p
use Rattle.lan_model.specs.Plain.{PlainType, primitive, vector, text, bytes, list, struct, PlainField, field, PlainFields, one_field, fields_from, PlainValue, null, bits, raw, items, group, PlainValues, no_values, one_value, values_from}
use Rattle.lan_model.specs.Table.{name_of}
use Rattle.lan_rows.specs.Bits.{stored}

-- ---- a primitive

-- the number of which these are the bytes, the lowest first
abbrev pub low_first : List ℕ → ℕ
low_first [] = 0
low_first (b ∷ bs) = b + 256 * low_first bs

-- the number of which these are the bits in two's complement
abbrev pub signed_of : ℕ → ℕ → ℤ
signed_of greatest b = cond (nat_le b greatest) (pos b) (negsuc (greatest + 1 + greatest - b))

abbrev pub signed_token : ℕ → ℕ → Token
signed_token greatest b = number (signed_decimal (signed_of greatest b))

-- so many bytes in hexadecimal, the highest first
abbrev pub digits_token : ℕ → ℕ → Token
digits_token n b = string (encode_lower (bytes_high_first n b))

abbrev pub bits_token : Primitive → ℕ → Token
bits_token p.Bool b = boolean (nat_eq b 1)
bits_token p.Int8 b = signed_token 127 b
bits_token p.Int16 b = signed_token 32767 b
bits_token p.Int32 b = signed_token 2147483647 b
bits_token p.Int64 b = signed_token 9223372036854775807 b
bits_token p.Uint8 b = number (decimal b)
bits_token p.Uint16 b = number (decimal b)
bits_token p.Uint32 b = number (decimal b)
bits_token p.Uint64 b = number (decimal b)
bits_token p.Half b = digits_token 2 b
bits_token p.Float b = digits_token 4 b
bits_token p.Double b = digits_token 8 b
bits_token p.Date b = signed_token 2147483647 b

-- ---- a value; null, and what its field doesn't take, is `null`

-- so many items of a vector, from its bytes
unfoldable pub parts_tokens : Primitive → ℕ → List ℕ → List Token
parts_tokens prim zero s = end_array ∷ []
parts_tokens prim (suc n) s = bits_token prim (low_first (take (byte_len (stored prim)) s)) ∷ parts_tokens prim n (drop (byte_len (stored prim)) s)

abbrev pub bits_tokens : {I : Type 0} → PlainType I → ℕ → List Token
bits_tokens (primitive prim) b = bits_token prim b ∷ []
bits_tokens _ b = Token.null ∷ []

abbrev pub raw_tokens : {I : Type 0} → PlainType I → List ℕ → List Token
raw_tokens (vector prim n) s = begin_array ∷ parts_tokens prim n s
raw_tokens text s = cond (is_utf8 s) (string s) Token.null ∷ []
raw_tokens bytes s = string (encode_lower s) ∷ []
raw_tokens _ s = Token.null ∷ []

abbrev mutual
  pub field_tokens : {I : Type 0} → PlainField I → PlainValue → List Token
  field_tokens (field id name nullable ty) null = Token.null ∷ []
  field_tokens (field id name nullable ty) (bits b) = bits_tokens ty b
  field_tokens (field id name nullable ty) (raw s) = raw_tokens ty s
  field_tokens (field id name nullable (list f)) (items vs) = begin_array ∷ items_tokens f vs
  field_tokens (field id name nullable (struct fs)) (group vs) = begin_object ∷ members_tokens fs vs
  field_tokens _ _ = Token.null ∷ []

  -- with the closing bracket
  pub items_tokens : {I : Type 0} → PlainField I → PlainValues → List Token
  items_tokens f no_values = end_array ∷ []
  items_tokens f (one_value v vs) = field_tokens f v ++ items_tokens f vs

  -- with the closing brace
  pub members_tokens : {I : Type 0} → PlainFields I → PlainValues → List Token
  members_tokens (one_field f fs) (one_value v vs) = key (name_of f) ∷ (field_tokens f v ++ members_tokens fs vs)
  members_tokens _ _ = end_object ∷ []

-- the line of a row, with its newline
unfoldable pub line_of : {I : Type 0} → List (PlainField I) → List PlainValue → List ℕ
line_of fields row = print (begin_object ∷ members_tokens (fields_from fields) (values_from row)) ++ 10 ∷ []
