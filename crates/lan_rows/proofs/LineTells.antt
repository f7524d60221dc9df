-- Two rows that fit and have the same line are the same row.
use Rattle.std.proofs.Common.{◌≡◌, ℕ, zero, suc, ◌+◌, ◌*◌, ◌<◌, List, [], ◌∷◌, ◌++◌, length, take, drop, Bool, true, false, cond, refl, sym, ap, ◌∙◌, arith, append_assoc}
use Rattle.std.specs.Int.{byte_len}
use Rattle.std.specs.Str.{is_utf8}
use Rattle.std.proofs.lemmas.Str.{is_utf8-from_IsUtf8}
use Rattle.std.proofs.lemmas.List.{append_cancel_right, take-append-drop, length-take}
use Rattle.std.proofs.Common.{length-drop, get_or}
use Rattle.std.proofs.lemmas.List.{get_or-drop}
use Rattle.json.specs.Token.{Token, begin_object, end_object, begin_array, end_array, key, string}
use Rattle.json.specs.Lex.{tokens}
use Rattle.json.specs.Print.{print, IsPrintable, ArePrintable}
use Rattle.json.proofs.Printed.Tokens.{tokens-print}
use Rattle.hex.specs.Hex.{IsBytes, encode_lower}
use Rattle.lan_model.specs.declared.tree.Primitive.{Primitive}
use Rattle.lan_model.specs.Plain.{primitive, vector, text, bytes, list, struct, field, PlainFields, no_fields, one_field, fields_from, PlainValue, null, bits, raw, items, group, PlainValues, no_values, one_value, values_from}
use Rattle.lan_model.specs.Fits.{Fits, AllFit, EachFits, width}
use Rattle.lan_model.specs.Table.{Column, IsField, AreFields, name_of}
use Rattle.lan_rows.specs.Bits.{stored}
use Rattle.lan_rows.specs.Line.{low_first, bits_token, parts_tokens, field_tokens, items_tokens, members_tokens, line_of}
use Rattle.lan_rows.specs.Laws.{HoldsBytes, HoldBytes, LineTellsRow}
use Rattle.lan_rows.proofs.BitsTell.{IsWhole, encode_same, bits_same, bits_printable, bits_not_null, bits_no_end, low_first-same, item_below, whole_bytes}

-- ---- a primitive

bits_tell : (nullable : Bool) (id : Unit {0}) (name : List ℕ) (prim : Primitive) (v w : PlainValue) (r s : List Token) → Fits (field id name nullable (primitive prim)) v → Fits (field id name nullable (primitive prim)) w
    → field_tokens (field id name nullable (primitive prim)) v ++ r ≡ field_tokens (field id name nullable (primitive prim)) w ++ s → (v ≡ w) × (r ≡ s)
bits_tell nullable id name prim null null r s h k e = (refl, cc)
bits_tell nullable id name prim null (bits c) r s h k e = let same : bits_token prim c ≡ Token.null = cc in absurd (bits_not_null prim c same)
bits_tell nullable id name prim null w r s h k e = absurd k
bits_tell nullable id name prim (bits b) null r s h k e = let same : bits_token prim b ≡ Token.null = cc in absurd (bits_not_null prim b same)
bits_tell nullable id name prim (bits b) (bits c) r s h k e = let same : bits_token prim b ≡ bits_token prim c = cc in (ap bits (bits_same prim b c h k same), cc)
bits_tell nullable id name prim (bits b) w r s h k e = absurd k
bits_tell nullable id name prim v w r s h k e = absurd h

-- ---- a text, and binary data

text_tell : (nullable : Bool) (id : Unit {0}) (name : List ℕ) (v w : PlainValue) (r s : List Token) → Fits (field id name nullable text) v → Fits (field id name nullable text) w
    → field_tokens (field id name nullable text) v ++ r ≡ field_tokens (field id name nullable text) w ++ s → (v ≡ w) × (r ≡ s)
text_tell nullable id name null null r s h k e = (refl, cc)
text_tell nullable id name null (raw y) r s h k e = let e' = rw (is_utf8-from_IsUtf8 y k) at e in absurd (cc)
text_tell nullable id name null w r s h k e = absurd k
text_tell nullable id name (raw x) null r s h k e = let e' = rw (is_utf8-from_IsUtf8 x h) at e in absurd (cc)
text_tell nullable id name (raw x) (raw y) r s h k e = let e' = rw (is_utf8-from_IsUtf8 x h, is_utf8-from_IsUtf8 y k) at e in let same : x ≡ y = cc in (ap raw same, cc)
text_tell nullable id name (raw x) w r s h k e = absurd k
text_tell nullable id name v w r s h k e = absurd h

bytes_tell : (nullable : Bool) (id : Unit {0}) (name : List ℕ) (v w : PlainValue) (r s : List Token) → Fits (field id name nullable bytes) v → Fits (field id name nullable bytes) w → HoldsBytes v → HoldsBytes w
    → field_tokens (field id name nullable bytes) v ++ r ≡ field_tokens (field id name nullable bytes) w ++ s → (v ≡ w) × (r ≡ s)
bytes_tell nullable id name null null r s h k a b e = (refl, cc)
bytes_tell nullable id name null (raw y) r s h k a b e = absurd (cc)
bytes_tell nullable id name null w r s h k a b e = absurd k
bytes_tell nullable id name (raw x) null r s h k a b e = absurd (cc)
bytes_tell nullable id name (raw x) (raw y) r s h k a b e = let same : encode_lower x ≡ encode_lower y = cc in (ap raw (encode_same x y a b same), cc)
bytes_tell nullable id name (raw x) w r s h k a b e = absurd k
bytes_tell nullable id name v w r s h k a b e = absurd h

-- ---- a vector

front_at : (n : ℕ) (s : List ℕ) (i : ℕ) → IsBytes s → get_or (take n s) i 0 < 256
front_at zero [] i h = omega arith
front_at zero (b ∷ s) i h = omega arith
front_at (suc n) [] i h = omega arith
front_at (suc n) (b ∷ s) zero h = h 0
front_at (suc n) (b ∷ s) (suc i) h = front_at n s i (λ j. h (suc j))

front_bytes : (n : ℕ) (s : List ℕ) → IsBytes s → IsBytes (take n s)
front_bytes n s h = λ i. front_at n s i h

rest_bytes : (n : ℕ) (s : List ℕ) → IsBytes s → IsBytes (drop n s)
rest_bytes n s h = λ i. rw (get_or-drop n s i 0) (h (n + i))

front_length : (size n : ℕ) (s : List ℕ) → length s ≡ size * suc n → length (take size s) ≡ size
front_length size n s is = omega (arith, length-take size s, is)

rest_length : (size n : ℕ) (s : List ℕ) → length s ≡ size * suc n → length (drop size s) ≡ size * n
rest_length size n s is = omega (arith, length-drop size s, is)

parts_tell : (prim : Primitive) (n : ℕ) (x y : List ℕ) (r s : List Token) → IsWhole prim → IsBytes x → IsBytes y → length x ≡ byte_len (stored prim) * n → length y ≡ byte_len (stored prim) * n → parts_tokens prim n x ++ r ≡ parts_tokens prim n y ++ s → (x ≡ y) × (r ≡ s)
unfolding parts_tokens
parts_tell prim zero [] [] r s whole a b h k e = (refl, cc)
parts_tell prim zero [] (c ∷ y) r s whole a b h k e = absurd (omega (arith, k))
parts_tell prim zero (c ∷ x) y r s whole a b h k e = absurd (omega (arith, h))
parts_tell prim (suc n) x y r s whole a b h k e =
    let size = byte_len (stored prim) in
    let first = take size x in
    let second = take size y in
    let heads : bits_token prim (low_first first) ≡ bits_token prim (low_first second) = cc in
    let tails : parts_tokens prim n (drop size x) ++ r ≡ parts_tokens prim n (drop size y) ++ s = cc in
    let one = front_length size n x h in
    let other = front_length size n y k in
    let numbers = bits_same prim (low_first first) (low_first second) (item_below prim first whole (front_bytes size x a) one) (item_below prim second whole (front_bytes size y b) other) heads in
    let fronts = low_first-same first second (one ∙ sym other) (front_bytes size x a) (front_bytes size y b) numbers in
    let rest = parts_tell prim n (drop size x) (drop size y) r s whole (rest_bytes size x a) (rest_bytes size y b) (rest_length size n x h) (rest_length size n y k) tails in
    let joined : take size x ++ drop size x ≡ take size y ++ drop size y = cc (fronts, rest.0) in
    (sym (take-append-drop size x) ∙ joined ∙ take-append-drop size y, rest.1)

vector_length : (prim : Primitive) (n : ℕ) (s : List ℕ) → IsWhole prim → 8 * length s ≡ width prim * n → length s ≡ byte_len (stored prim) * n
vector_length prim n s whole is = let is' = rw (whole_bytes prim whole) at is in omega (arith, is')

vector_tell : (nullable : Bool) (id : Unit {0}) (name : List ℕ) (prim : Primitive) (n : ℕ) (v w : PlainValue) (r s : List Token) → IsWhole prim → Fits (field id name nullable (vector prim n)) v → Fits (field id name nullable (vector prim n)) w → HoldsBytes v → HoldsBytes w
    → field_tokens (field id name nullable (vector prim n)) v ++ r ≡ field_tokens (field id name nullable (vector prim n)) w ++ s → (v ≡ w) × (r ≡ s)
vector_tell nullable id name prim n null null r s whole h k a b e = (refl, cc)
vector_tell nullable id name prim n null (raw y) r s whole h k a b e = absurd (cc)
vector_tell nullable id name prim n null w r s whole h k a b e = absurd k
vector_tell nullable id name prim n (raw x) null r s whole h k a b e = absurd (cc)
vector_tell nullable id name prim n (raw x) (raw y) r s whole h k a b e =
    let inner : parts_tokens prim n x ++ r ≡ parts_tokens prim n y ++ s = cc in
    let same = parts_tell prim n x y r s whole a b (vector_length prim n x whole h) (vector_length prim n y whole k) inner in
    (ap raw same.0, same.1)
vector_tell nullable id name prim n (raw x) w r s whole h k a b e = absurd k
vector_tell nullable id name prim n v w r s whole h k a b e = absurd h

-- ---- any value

text_no_end : (b : Bool) (x : List ℕ) (r s : List Token) → cond b (string x) Token.null ∷ r ≡ end_array ∷ s → ⊥
text_no_end true x r s e = cc
text_no_end false x r s e = cc

never_end : (f : Column) (v : PlainValue) (r s : List Token) → field_tokens f v ++ r ≡ end_array ∷ s → ⊥
never_end (field id name nullable ty) null r s e = cc
never_end (field id name nullable (primitive prim)) (bits b) r s e = let same : bits_token prim b ≡ end_array = cc in bits_no_end prim b same
never_end (field id name nullable (vector prim n)) (bits b) r s e = cc
never_end (field id name nullable text) (bits b) r s e = cc
never_end (field id name nullable bytes) (bits b) r s e = cc
never_end (field id name nullable (list f)) (bits b) r s e = cc
never_end (field id name nullable (struct fs)) (bits b) r s e = cc
never_end (field id name nullable (primitive prim)) (raw x) r s e = cc
never_end (field id name nullable (vector prim n)) (raw x) r s e = cc
never_end (field id name nullable text) (raw x) r s e = text_no_end (is_utf8 x) x r s e
never_end (field id name nullable bytes) (raw x) r s e = cc
never_end (field id name nullable (list f)) (raw x) r s e = cc
never_end (field id name nullable (struct fs)) (raw x) r s e = cc
never_end (field id name nullable (primitive prim)) (items vs) r s e = cc
never_end (field id name nullable (vector prim n)) (items vs) r s e = cc
never_end (field id name nullable text) (items vs) r s e = cc
never_end (field id name nullable bytes) (items vs) r s e = cc
never_end (field id name nullable (list f)) (items vs) r s e = cc
never_end (field id name nullable (struct fs)) (items vs) r s e = cc
never_end (field id name nullable (primitive prim)) (group vs) r s e = cc
never_end (field id name nullable (vector prim n)) (group vs) r s e = cc
never_end (field id name nullable text) (group vs) r s e = cc
never_end (field id name nullable bytes) (group vs) r s e = cc
never_end (field id name nullable (list f)) (group vs) r s e = cc
never_end (field id name nullable (struct fs)) (group vs) r s e = cc

mutual
  value_tells : (f : Column) (v w : PlainValue) (r s : List Token) → IsField f → Fits f v → Fits f w → HoldsBytes v → HoldsBytes w → field_tokens f v ++ r ≡ field_tokens f w ++ s → (v ≡ w) × (r ≡ s)
  value_tells (field id name nullable (primitive prim)) v w r s i h k a b e = bits_tell nullable id name prim v w r s h k e
  value_tells (field id name nullable (vector prim n)) v w r s i h k a b e = vector_tell nullable id name prim n v w r s i.0 h k a b e
  value_tells (field id name nullable text) v w r s i h k a b e = text_tell nullable id name v w r s h k e
  value_tells (field id name nullable bytes) v w r s i h k a b e = bytes_tell nullable id name v w r s h k a b e
  value_tells (field id name nullable (list f)) null null r s i h k a b e = (refl, cc)
  value_tells (field id name nullable (list f)) null (items ws) r s i h k a b e = absurd (cc)
  value_tells (field id name nullable (list f)) null w r s i h k a b e = absurd k
  value_tells (field id name nullable (list f)) (items vs) null r s i h k a b e = absurd (cc)
  value_tells (field id name nullable (list f)) (items vs) (items ws) r s i h k a b e = let rest = items_tell f vs ws r s i h k a b (cc) in (ap items rest.0, rest.1)
  value_tells (field id name nullable (list f)) (items vs) w r s i h k a b e = absurd k
  value_tells (field id name nullable (list f)) v w r s i h k a b e = absurd h
  value_tells (field id name nullable (struct fs)) null null r s i h k a b e = (refl, cc)
  value_tells (field id name nullable (struct fs)) null (group ws) r s i h k a b e = absurd (cc)
  value_tells (field id name nullable (struct fs)) null w r s i h k a b e = absurd k
  value_tells (field id name nullable (struct fs)) (group vs) null r s i h k a b e = absurd (cc)
  value_tells (field id name nullable (struct fs)) (group vs) (group ws) r s i h k a b e = let rest = members_tell fs vs ws r s i.1 h k a b (cc) in (ap group rest.0, rest.1)
  value_tells (field id name nullable (struct fs)) (group vs) w r s i h k a b e = absurd k
  value_tells (field id name nullable (struct fs)) v w r s i h k a b e = absurd h

  items_tell : (f : Column) (vs ws : PlainValues) (r s : List Token) → IsField f → AllFit f vs → AllFit f ws → HoldBytes vs → HoldBytes ws → items_tokens f vs ++ r ≡ items_tokens f ws ++ s → (vs ≡ ws) × (r ≡ s)
  items_tell f no_values no_values r s i h k a b e = (refl, cc)
  items_tell f no_values (one_value w ws) r s i h k a b e = absurd (never_end f w (items_tokens f ws ++ s) r (sym (append_assoc (field_tokens f w) (items_tokens f ws) s) ∙ sym e))
  items_tell f (one_value v vs) no_values r s i h k a b e = absurd (never_end f v (items_tokens f vs ++ r) s (sym (append_assoc (field_tokens f v) (items_tokens f vs) r) ∙ e))
  items_tell f (one_value v vs) (one_value w ws) r s i h k a b e =
      let first = value_tells f v w (items_tokens f vs ++ r) (items_tokens f ws ++ s) i h.0 k.0 a.0 b.0 (sym (append_assoc (field_tokens f v) (items_tokens f vs) r) ∙ e ∙ append_assoc (field_tokens f w) (items_tokens f ws) s) in
      let rest = items_tell f vs ws r s i h.1 k.1 a.1 b.1 first.1 in
      (cc (first.0, rest.0), rest.1)

  members_tell : (fs : PlainFields (Unit {0})) (vs ws : PlainValues) (r s : List Token) → AreFields fs → EachFits fs vs → EachFits fs ws → HoldBytes vs → HoldBytes ws → members_tokens fs vs ++ r ≡ members_tokens fs ws ++ s → (vs ≡ ws) × (r ≡ s)
  members_tell no_fields no_values no_values r s i h k a b e = (refl, cc)
  members_tell no_fields no_values (one_value w ws) r s i h k a b e = absurd k
  members_tell no_fields (one_value v vs) ws r s i h k a b e = absurd h
  members_tell (one_field f fs) no_values ws r s i h k a b e = absurd h
  members_tell (one_field f fs) (one_value v vs) no_values r s i h k a b e = absurd k
  members_tell (one_field f fs) (one_value v vs) (one_value w ws) r s i h k a b e =
      let inner : (field_tokens f v ++ members_tokens fs vs) ++ r ≡ (field_tokens f w ++ members_tokens fs ws) ++ s = cc in
      let first = value_tells f v w (members_tokens fs vs ++ r) (members_tokens fs ws ++ s) i.0 h.0 k.0 a.0 b.0 (sym (append_assoc (field_tokens f v) (members_tokens fs vs) r) ∙ inner ∙ append_assoc (field_tokens f w) (members_tokens fs ws) s) in
      let rest = members_tell fs vs ws r s i.1 h.1 k.1 a.1 b.1 first.1 in
      (cc (first.0, rest.0), rest.1)

-- ---- the tokens can be written

printable_append : (ts us : List Token) → ArePrintable ts → ArePrintable us → ArePrintable (ts ++ us)
unfolding ArePrintable
printable_append [] us h k = k
printable_append (t ∷ ts) us h k = (h.0, printable_append ts us h.1 k)

one : (t : Token) → IsPrintable t → ArePrintable (t ∷ [])
unfolding ArePrintable
one t h = (h, tt)

after : (t : Token) (ts : List Token) → IsPrintable t → ArePrintable ts → ArePrintable (t ∷ ts)
unfolding ArePrintable
after t ts h k = (h, k)

parts_printable : (prim : Primitive) (n : ℕ) (x : List ℕ) → IsWhole prim → IsBytes x → length x ≡ byte_len (stored prim) * n → ArePrintable (parts_tokens prim n x)
unfolding parts_tokens
parts_printable prim zero x whole a h = one end_array tt
parts_printable prim (suc n) x whole a h =
    let size = byte_len (stored prim) in
    let first = take size x in
    after (bits_token prim (low_first first)) (parts_tokens prim n (drop size x)) (bits_printable prim (low_first first) (item_below prim first whole (front_bytes size x a) (front_length size n x h)))
    (parts_printable prim n (drop size x) whole (rest_bytes size x a) (rest_length size n x h))

mutual
  value_printable : (f : Column) (v : PlainValue) → IsField f → Fits f v → HoldsBytes v → ArePrintable (field_tokens f v)
  value_printable (field id name nullable ty) null i h a = one Token.null tt
  value_printable (field id name nullable (primitive prim)) (bits b) i h a = one (bits_token prim b) (bits_printable prim b h)
  value_printable (field id name nullable (vector prim n)) (raw x) i h a = after begin_array (parts_tokens prim n x) tt (parts_printable prim n x i.0 a (vector_length prim n x i.0 h))
  value_printable (field id name nullable text) (raw x) i h a = rw (is_utf8-from_IsUtf8 x h) (one (string x) tt)
  value_printable (field id name nullable bytes) (raw x) i h a = one (string (encode_lower x)) tt
  value_printable (field id name nullable (list f)) (items vs) i h a = after begin_array (items_tokens f vs) tt (items_printable f vs i h a)
  value_printable (field id name nullable (struct fs)) (group vs) i h a = after begin_object (members_tokens fs vs) tt (members_printable fs vs i.1 h a)
  value_printable f v i h a = absurd h

  items_printable : (f : Column) (vs : PlainValues) → IsField f → AllFit f vs → HoldBytes vs → ArePrintable (items_tokens f vs)
  items_printable f no_values i h a = one end_array tt
  items_printable f (one_value v vs) i h a = printable_append (field_tokens f v) (items_tokens f vs) (value_printable f v i h.0 a.0) (items_printable f vs i h.1 a.1)

  members_printable : (fs : PlainFields (Unit {0})) (vs : PlainValues) → AreFields fs → EachFits fs vs → HoldBytes vs → ArePrintable (members_tokens fs vs)
  members_printable no_fields no_values i h a = one end_object tt
  members_printable no_fields (one_value v vs) i h a = absurd h
  members_printable (one_field f fs) no_values i h a = absurd h
  members_printable (one_field f fs) (one_value v vs) i h a =
      after (key (name_of f)) (field_tokens f v ++ members_tokens fs vs) tt (printable_append (field_tokens f v) (members_tokens fs vs) (value_printable f v i.0 h.0 a.0) (members_printable fs vs i.1 h.1 a.1))

-- ---- the line

values_same : (row other : List PlainValue) → values_from row ≡ values_from other → row ≡ other
values_same [] [] e = refl
values_same [] (w ∷ ws) e = absurd (cc)
values_same (v ∷ vs) [] e = absurd (cc)
values_same (v ∷ vs) (w ∷ ws) e =
    let heads : v ≡ w = cc in
    let tails : values_from vs ≡ values_from ws = cc in
    let rest = values_same vs ws tails in
    cc (heads, rest)

pub line_tells : LineTellsRow
unfolding line_of
line_tells columns row other i h k a b e =
    let fs = fields_from columns in
    let vs = values_from row in
    let ws = values_from other in
    let ts : List Token = begin_object ∷ members_tokens fs vs in
    let us : List Token = begin_object ∷ members_tokens fs ws in
    let ok : ArePrintable ts = after begin_object (members_tokens fs vs) tt (members_printable fs vs i.each h a) in
    let also : ArePrintable us = after begin_object (members_tokens fs ws) tt (members_printable fs ws i.each k b) in
    let printed : print ts ≡ print us = append_cancel_right (print ts) (print us) (10 ∷ []) e in
    let same : ts ≡ us = sym (tokens-print ts ok) ∙ ap tokens printed ∙ tokens-print us also in
    let rest : members_tokens fs vs ++ [] ≡ members_tokens fs ws ++ [] = cc in
    values_same row other (members_tell fs vs ws [] [] i.each h k a b rest).0
