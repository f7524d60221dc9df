-- What is written under a number is said under it.
use Rattle.std.proofs.Common.{◌≡◌, ℕ, zero, suc, ◌+◌, ◌-◌, ◌^◌, ◌<◌, Bool, true, false, cond, List, [], ◌∷◌, ◌++◌, length, Some, None, Result, refl, sym, ap, ◌∙◌, arith}
use Rattle.std.specs.Prelude.{nat_eq, IsTrue, ℤ, pos, negsuc, flat_map, map}
use Rattle.std.specs.List.{AllByRecursion, list_all}
use Rattle.lan_wire.specs.Messages.{is_int32}
use Rattle.std.specs.Str.{is_utf8}
use Rattle.std.proofs.lemmas.Bool.{lt-ltb, le-ltb, eqb-true}
use Rattle.std.proofs.lemmas.List.{append-nil}
use Rattle.std.proofs.lemmas.List.Elements.{filter-append}
use Rattle.std.specs.Result.{result_unwrap_or}
use Rattle.lan_bytes.specs.Placed.{Placed}
use Rattle.lan_wire.specs.declared.item.Item.{Item}
use Rattle.lan_wire.specs.declared.item.WireFault.{WireFault}
use Rattle.lan_wire.specs.Readers.{IsInt32, num_of, small_of, signed_of, flag_of, text_of}
use Rattle.lan_wire.specs.Spelling.{varint, part_item, two_complement}
use Rattle.lan_wire.specs.Spells.{numbered, part_placed}
use Rattle.lan_wire.specs.Values.{of_number, last_from, read_or, num_under, small_under, small_if, maybe_small_under, signed_under, flag_under, text_under, part_of_item, part_under, parts_of, parts_under, numbers_of, all_numbers, nums_under, signed_from, signeds_under}
use Rattle.lan_wire.specs.Written.{Written, num, present, text, part, packed, parts, flag_number, WrittenField, field_spelling, about, parts_placed, written_items, items_placed}
use Rattle.lan_wire.proofs.NumberLists.{numbers_are}
use Rattle.lan_wire.proofs.WrittenLaws.{signed_again, text_again, list_spelled, below_64}

parts_number : (b : Bool) (number at m : ℕ) (messages : List (List ℕ)) → nat_eq m number ≡ b → of_number number (parts_placed at m messages) ≡ cond b (parts_placed at m messages) []
parts_number true number at m [] e = refl
parts_number false number at m [] e = refl
parts_number true number at m (bytes ∷ messages) e = rw e (ap (λ (xs : List Item). part_placed at m bytes ∷ xs) (parts_number true number (at + length (part_item m bytes)) m messages e))
parts_number false number at m (bytes ∷ messages) e = rw e (parts_number false number (at + length (part_item m bytes)) m messages e)

one_number : (b : Bool) (number : ℕ) (item : Item) → nat_eq item.number number ≡ b → of_number number (item ∷ []) ≡ cond b (item ∷ []) []
one_number b number item e = ap (λ (t : Bool). cond t (item ∷ []) []) e

no_item : (b : Bool) → [] ≡ cond b (let none : List Item = [] in none) []
no_item true = refl
no_item false = refl

field_number : (b : Bool) (number at m : ℕ) (w : Written) → nat_eq m number ≡ b → of_number number (written_items at m w) ≡ cond b (written_items at m w) []
field_number b number at m (num zero) e = no_item b
field_number b number at m (num (suc n)) e = one_number b number (numbered at m (suc n)) e
field_number b number at m (present n) e = one_number b number (numbered at m n) e
field_number b number at m (text []) e = no_item b
field_number b number at m (text (c ∷ cs)) e = one_number b number (part_placed at m (c ∷ cs)) e
field_number b number at m (part bytes) e = one_number b number (part_placed at m bytes) e
field_number b number at m (packed []) e = no_item b
field_number b number at m (packed (v ∷ vs)) e = one_number b number (part_placed at m (flat_map varint (v ∷ vs))) e
field_number b number at m (parts messages) e = parts_number b number at m messages e

split : (b : Bool) (number at : ℕ) (f : WrittenField) (fs : List WrittenField) → nat_eq f.0 number ≡ b → of_number number (items_placed at (f ∷ fs)) ≡ cond b (written_items at f.0 f.1) [] ++ of_number number (items_placed (at + length (field_spelling f.0 f.1)) fs)
split b number at f fs e =
    filter-append (λ (x : Item). nat_eq x.number number) (written_items at f.0 f.1) (items_placed (at + length (field_spelling f.0 f.1)) fs)
    ∙ ap (λ (xs : List Item). xs ++ of_number number (items_placed (at + length (field_spelling f.0 f.1)) fs)) (field_number b number at f.0 f.1 e)

none_then : (b : Bool) (number at : ℕ) (f : WrittenField) (fs : List WrittenField) → nat_eq f.0 number ≡ b → cond b (f.1 ∷ about number fs) (about number fs) ≡ []
    → (about number fs ≡ [] → of_number number (items_placed (at + length (field_spelling f.0 f.1)) fs) ≡ []) → of_number number (items_placed at (f ∷ fs)) ≡ []
none_then true number at f fs t h others = absurd cc
none_then false number at f fs t h others = split false number at f fs t ∙ others h

none_under : (number at : ℕ) (fields : List WrittenField) → about number fields ≡ [] → of_number number (items_placed at fields) ≡ []
none_under number at [] e = refl
none_under number at (f ∷ fs) e = none_then (nat_eq f.0 number) number at f fs refl e (none_under number (at + length (field_spelling f.0 f.1)) fs)

-- the items of a number are those of a field that is written under it
abbrev pub OneUnder : ℕ → ℕ → List WrittenField → Written → Type 0
OneUnder number at fields w = (place : ℕ) × (of_number number (items_placed at fields) ≡ written_items place number w)

one_then : (b : Bool) (number at : ℕ) (f : WrittenField) (fs : List WrittenField) (w : Written) → nat_eq f.0 number ≡ b → cond b (f.1 ∷ about number fs) (about number fs) ≡ w ∷ []
    → (about number fs ≡ w ∷ [] → OneUnder number (at + length (field_spelling f.0 f.1)) fs w) → OneUnder number at (f ∷ fs) w
one_then true number at f fs w t h others =
    let same : f.0 ≡ number = eqb-true f.0 number t in
    let first : f.1 ≡ w = cc in
    let rest : about number fs ≡ [] = cc in (
      at,
      split true number at f fs t
          ∙ ap (λ (xs : List Item). written_items at f.0 f.1 ++ xs) (none_under number (at + length (field_spelling f.0 f.1)) fs rest)
          ∙ append-nil (written_items at f.0 f.1)
          ∙ ap (λ (m : ℕ). written_items at m f.1) same
          ∙ ap (written_items at number) first,
    )
one_then false number at f fs w t h others = let o = others h in (o.0, split false number at f fs t ∙ o.1)

pub one_under : (number at : ℕ) (fields : List WrittenField) (w : Written) → about number fields ≡ w ∷ [] → OneUnder number at fields w
one_under number at [] w e = absurd cc
one_under number at (f ∷ fs) w e = one_then (nat_eq f.0 number) number at f fs w refl e (one_under number (at + length (field_spelling f.0 f.1)) fs w)

-- ---- numbers

num_placed : (at number v : ℕ) → read_or 0 num_of (last_from None (written_items at number (num v))) ≡ v
num_placed at number zero = refl
num_placed at number (suc n) = refl

pub num_back : (number at : ℕ) (fields : List WrittenField) (v : ℕ) → about number fields ≡ num v ∷ [] → num_under number (items_placed at fields) ≡ v
num_back number at fields v e =
    let o = one_under number at fields (num v) e in
    ap (λ (xs : List Item). read_or 0 num_of (last_from None xs)) o.1 ∙ num_placed o.0 number v

small_placed : (at number v : ℕ) → v < 2 ^ 32 → read_or 0 small_of (last_from None (written_items at number (num v))) ≡ v
small_placed at number zero h = refl
small_placed at number (suc n) h = rw (lt-ltb (suc n) (2 ^ 32) h) refl

pub small_back : (number at : ℕ) (fields : List WrittenField) (v : ℕ) → v < 2 ^ 32 → about number fields ≡ num v ∷ [] → small_under number (items_placed at fields) ≡ v
small_back number at fields v h e =
    let o = one_under number at fields (num v) e in
    ap (λ (xs : List Item). read_or 0 small_of (last_from None xs)) o.1 ∙ small_placed o.0 number v h

-- a number that is written where it is zero too is told from none
pub maybe_small_back : (number at : ℕ) (fields : List WrittenField) (v : ℕ) → v < 2 ^ 32 → about number fields ≡ present v ∷ [] → maybe_small_under number (items_placed at fields) ≡ Some v
maybe_small_back number at fields v h e =
    let o = one_under number at fields (present v) e in
    ap (λ (xs : List Item). small_if (last_from None xs)) o.1 ∙ rw (lt-ltb v (2 ^ 32) h) refl

pub maybe_small_absent : (number at : ℕ) (fields : List WrittenField) → about number fields ≡ [] → maybe_small_under number (items_placed at fields) ≡ None
maybe_small_absent number at fields e = ap (λ (xs : List Item). small_if (last_from None xs)) (none_under number at fields e)

complement_zero : (z : ℤ) → IsInt32 z → two_complement z ≡ 0 → z ≡ pos 0
complement_zero (pos n) h e = ap pos e
complement_zero (negsuc n) h e = absurd (omega (arith, h, e))

signed_placed : (at number v : ℕ) (z : ℤ) → v ≡ two_complement z → IsInt32 z → read_or (pos 0) signed_of (last_from None (written_items at number (num v))) ≡ z
signed_placed at number zero z e h = sym (complement_zero z h (sym e))
signed_placed at number (suc n) z e h =
    ap (λ (v : ℕ). result_unwrap_or (signed_of (numbered at number v)) (pos 0)) e ∙ ap (λ (r : Result ℤ WireFault). result_unwrap_or r (pos 0)) (signed_again at number z h)

pub signed_back : (number at : ℕ) (fields : List WrittenField) (z : ℤ) → IsInt32 z → about number fields ≡ num (two_complement z) ∷ [] → signed_under number (items_placed at fields) ≡ z
signed_back number at fields z h e =
    let o = one_under number at fields (num (two_complement z)) e in
    ap (λ (xs : List Item). read_or (pos 0) signed_of (last_from None xs)) o.1 ∙ signed_placed o.0 number (two_complement z) z refl h

flag_placed : (at number : ℕ) (b : Bool) → read_or false flag_of (last_from None (written_items at number (num (flag_number b)))) ≡ b
flag_placed at number true = refl
flag_placed at number false = refl

pub flag_back : (number at : ℕ) (fields : List WrittenField) (b : Bool) → about number fields ≡ num (flag_number b) ∷ [] → flag_under number (items_placed at fields) ≡ b
flag_back number at fields b e =
    let o = one_under number at fields (num (flag_number b)) e in
    ap (λ (xs : List Item). read_or false flag_of (last_from None xs)) o.1 ∙ flag_placed o.0 number b

-- ---- bytes

text_placed : (at number : ℕ) (bytes : List ℕ) → IsTrue (is_utf8 bytes) → read_or [] text_of (last_from None (written_items at number (text bytes))) ≡ bytes
text_placed at number [] h = refl
text_placed at number (b ∷ bs) h = ap (λ (r : Result (List ℕ) WireFault). result_unwrap_or r []) (text_again at number (b ∷ bs) h)

pub text_back : (number at : ℕ) (fields : List WrittenField) (bytes : List ℕ) → IsTrue (is_utf8 bytes) → about number fields ≡ text bytes ∷ [] → text_under number (items_placed at fields) ≡ bytes
text_back number at fields bytes h e =
    let o = one_under number at fields (text bytes) e in
    ap (λ (xs : List Item). read_or [] text_of (last_from None xs)) o.1 ∙ text_placed o.0 number bytes h

-- bytes or a message are said where they were written
pub part_back : (number at : ℕ) (fields : List WrittenField) (bytes : List ℕ) → about number fields ≡ part bytes ∷ [] → (place : ℕ) × (part_under number (items_placed at fields) ≡ Some (record { base = place; bytes = bytes }))
part_back number at fields bytes e =
    let o = one_under number at fields (part bytes) e in
    (_, ap (λ (xs : List Item). part_of_item (last_from None xs)) o.1)

pub part_absent : (number at : ℕ) (fields : List WrittenField) → about number fields ≡ [] → part_under number (items_placed at fields) ≡ None
part_absent number at fields e = ap (λ (xs : List Item). part_of_item (last_from None xs)) (none_under number at fields e)

parts_bytes : (at number : ℕ) (messages : List (List ℕ)) → map (λ (p : Placed). p.bytes) (parts_of (parts_placed at number messages)) ≡ messages
parts_bytes at number [] = refl
parts_bytes at number (bytes ∷ messages) = ap (λ (bs : List (List ℕ)). bytes ∷ bs) (parts_bytes (at + length (part_item number bytes)) number messages)

pub parts_back : (number at : ℕ) (fields : List WrittenField) (messages : List (List ℕ)) → about number fields ≡ parts messages ∷ [] → map (λ (p : Placed). p.bytes) (parts_under number (items_placed at fields)) ≡ messages
parts_back number at fields messages e =
    let o = one_under number at fields (parts messages) e in
    ap (λ (xs : List Item). map (λ (p : Placed). p.bytes) (parts_of xs)) o.1 ∙ parts_bytes o.0 number messages

-- ---- lists of numbers

packed_placed : (at number : ℕ) (values : List ℕ) → AllByRecursion (λ n. n < 2 ^ 64) values → all_numbers (written_items at number (packed values)) ≡ values
packed_placed at number [] h = refl
packed_placed at number (v ∷ vs) h = append-nil (numbers_of (flat_map varint (v ∷ vs))) ∙ numbers_are (flat_map varint (v ∷ vs)) (v ∷ vs) (list_spelled (v ∷ vs) h)

pub nums_back : (number at : ℕ) (fields : List WrittenField) (values : List ℕ) → AllByRecursion (λ n. n < 2 ^ 64) values → about number fields ≡ packed values ∷ [] → nums_under number (items_placed at fields) ≡ values
nums_back number at fields values h e =
    let o = one_under number at fields (packed values) e in
    ap all_numbers o.1 ∙ packed_placed o.0 number values h

pub signed_from_complement : (z : ℤ) → IsInt32 z → signed_from (two_complement z) ≡ z
signed_from_complement (pos n) h = rw (lt-ltb n (2 ^ 31) h) refl
signed_from_complement (negsuc n) h =
    let large = le-ltb (2 ^ 64 - 1 - n) (2 ^ 31) (omega (arith, h)) in
    let high = le-ltb (2 ^ 64 - 1 - n) (2 ^ 64 - 2 ^ 31) (omega (arith, h)) in
    let back : 2 ^ 64 - 1 - (2 ^ 64 - 1 - n) ≡ n = omega (arith, h) in
    rw (large, high, back) refl

complements_back : (zs : List ℤ) → AllByRecursion IsInt32 zs → map signed_from (map two_complement zs) ≡ zs
complements_back [] h = refl
complements_back (z ∷ zs) h =
    ap (λ (y : ℤ). y ∷ map signed_from (map two_complement zs)) (signed_from_complement z h.0) ∙ ap (λ (ys : List ℤ). z ∷ ys) (complements_back zs h.1)

pub complements_below : (zs : List ℤ) → AllByRecursion IsInt32 zs → AllByRecursion (λ n. n < 2 ^ 64) (map two_complement zs)
complements_below [] h = tt
complements_below (z ∷ zs) h = (below_64 z h.0, complements_below zs h.1)

is_complement : (z : ℤ) → IsInt32 z → is_int32 (two_complement z) ≡ true
is_complement (pos n) h = rw (lt-ltb n (2 ^ 31) h) refl
is_complement (negsuc n) h =
    let large = le-ltb (2 ^ 64 - 1 - n) (2 ^ 31) (omega (arith, h)) in
    let high = le-ltb (2 ^ 64 - 1 - n) (2 ^ 64 - 2 ^ 31) (omega (arith, h)) in
    rw (large, high) refl

-- numbers with a sign may be packed
pub complements_fit : (zs : List ℤ) → AllByRecursion IsInt32 zs → IsTrue (list_all is_int32 (map two_complement zs))
complements_fit [] h = refl
complements_fit (z ∷ zs) h = rw (is_complement z h.0) (complements_fit zs h.1)

pub signeds_back : (number at : ℕ) (fields : List WrittenField) (zs : List ℤ) → AllByRecursion IsInt32 zs → about number fields ≡ packed (map two_complement zs) ∷ [] → signeds_under number (items_placed at fields) ≡ zs
signeds_back number at fields zs h e = ap (map signed_from) (nums_back number at fields (map two_complement zs) (complements_below zs h) e) ∙ complements_back zs h
