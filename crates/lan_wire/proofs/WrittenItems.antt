-- What is written of a message is items that keep to its rules.
use Rattle.std.proofs.Common.{◌≡◌, ℕ, zero, suc, ◌+◌, ◌^◌, ◌<◌, Bool, true, false, List, [], ◌∷◌, ◌++◌, length, Result, refl, sym, ap, subst, ◌∙◌, append_assoc, arith, length-append}
use Rattle.std.specs.Prelude.{◌||◌, IsOk, ℤ, flat_map}
use Rattle.std.specs.List.{list_any, AllByRecursion}
use Rattle.std.proofs.lemmas.Bool.{lt-ltb}
use Rattle.std.proofs.lemmas.List.{append-nil}
use Rattle.std.proofs.lemmas.List.Concat.{flat_map-cons}
use Rattle.lan_wire.specs.declared.item.Item.{Item}
use Rattle.lan_wire.specs.declared.item.WireFault.{WireFault}
use Rattle.lan_wire.specs.declared.rules.Kind.{Kind}
use Rattle.lan_wire.specs.declared.rules.Kind.TheVariants.{Number, Small, Signed, Flag, Text, Bytes, Message, OneOf, Numbers, SignedNumbers, Messages, Past}
use Rattle.lan_wire.specs.Rules.{Rules}
use Rattle.lan_wire.specs.Readers.{signed_of}
use Rattle.lan_wire.specs.Spelling.{key, varint, num_item, part_item}
use Rattle.lan_wire.specs.Spells.{Items, numbered, part_placed, Spells}
use Rattle.lan_wire.specs.Rules.{kind_at}
use Rattle.lan_wire.specs.Messages.{clashes, is_taken, IsOfKind, Obey, ReadsItems}
use Rattle.lan_wire.specs.Written.{Written, num, present, text, part, packed, parts, WrittenField, field_spelling, with_spellings, spelling_of, CanSpell, IsShort, AreShort, FitsNum, FitsPart, FitsPacked, FitsParts, FitsKind, CanWriteAll, parts_placed, written_items, items_placed}
use Rattle.lan_wire.proofs.MessageLaws.{items_append}
use Rattle.lan_wire.proofs.Obeying.{never_as}
use Rattle.lan_wire.proofs.WrittenLaws.{number_spelled, part_spelled, list_spelled, signed_again, text_again}

-- ---- the items of one field

one : (at : ℕ) (bytes : List ℕ) (item : Item) → Spells bytes item → item.at ≡ at → Items at bytes (item ∷ [])
one at bytes item s place = (bytes, [], sym (append-nil bytes), s, place, refl)

part_fits : (number : ℕ) (bytes : List ℕ) → length (part_item number bytes) < 2 ^ 64 → length bytes < 2 ^ 64
part_fits number bytes h =
    omega (arith, h, length-append (key number 2) (varint (length bytes) ++ bytes), length-append (varint (length bytes)) bytes)

parts_items : (at number : ℕ) (messages : List (List ℕ)) → 0 < number → number < 2 ^ 29 → AllByRecursion (λ bytes. length bytes < 2 ^ 64) messages → Items at (flat_map (λ bytes. part_item number bytes) messages) (parts_placed at number messages)
parts_items at number [] low up short = refl
parts_items at number (bytes ∷ messages) low up short = (
  part_item number bytes,
  flat_map (λ b. part_item number b) messages,
  flat_map-cons (λ (b : List ℕ). part_item number b) bytes messages,
  part_spelled at number bytes low up short.0,
  refl,
  parts_items (at + length (part_item number bytes)) number messages low up short.1,
)

messages_fit : (number : ℕ) (messages : List (List ℕ)) → length (flat_map (λ bytes. part_item number bytes) messages) < 2 ^ 64 → AllByRecursion (λ bytes. length bytes < 2 ^ 64) messages
messages_fit number [] small = tt
messages_fit number (bytes ∷ messages) small =
    let others = flat_map (λ b. part_item number b) messages in
    let size = ap length (flat_map-cons (λ (b : List ℕ). part_item number b) bytes messages) ∙ length-append (part_item number bytes) others in
    (part_fits number bytes (omega (arith, small, size)), messages_fit number messages (omega (arith, small, size)))

field_items : (at number : ℕ) (w : Written) → 0 < number → number < 2 ^ 29 → CanSpell w → IsShort w → Items at (field_spelling number w) (written_items at number w)
field_items at number (num zero) low up s short = refl
field_items at number (num (suc n)) low up s short = one at (num_item number (suc n)) (numbered at number (suc n)) (number_spelled at number (suc n) low up s) refl
field_items at number (present n) low up s short = one at (num_item number n) (numbered at number n) (number_spelled at number n low up s) refl
field_items at number (text []) low up s short = refl
field_items at number (text (b ∷ bs)) low up s short = one at (part_item number (b ∷ bs)) (part_placed at number (b ∷ bs)) (part_spelled at number (b ∷ bs) low up short) refl
field_items at number (part bytes) low up s short = one at (part_item number bytes) (part_placed at number bytes) (part_spelled at number bytes low up short) refl
field_items at number (packed []) low up s short = refl
field_items at number (packed (v ∷ vs)) low up s short =
    let bytes = flat_map varint (v ∷ vs) in one at (part_item number bytes) (part_placed at number bytes) (part_spelled at number bytes low up short) refl
field_items at number (parts messages) low up s short = parts_items at number messages low up short

-- ---- the items of all fields

-- the fields' bytes one behind the other
abbrev pub bytes_of : List WrittenField → List ℕ
bytes_of [] = []
bytes_of (field ∷ fields) = field_spelling field.0 field.1 ++ bytes_of fields

with_bytes : (bytes : List ℕ) (fields : List WrittenField) → with_spellings bytes fields ≡ bytes ++ bytes_of fields
with_bytes bytes [] = sym (append-nil bytes)
with_bytes bytes (f ∷ fs) = with_bytes (bytes ++ field_spelling f.0 f.1) fs ∙ append_assoc bytes (field_spelling f.0 f.1) (bytes_of fs)

bytes_items : (rules : Rules) (before : List ℕ) (at : ℕ) (fields : List WrittenField) → CanWriteAll rules before fields → AreShort fields → Items at (bytes_of fields) (items_placed at fields)
bytes_items rules before at [] can short = refl
bytes_items rules before at (f ∷ fs) can short =
    items_append at (field_spelling f.0 f.1) (bytes_of fs) (written_items at f.0 f.1) (items_placed (at + length (field_spelling f.0 f.1)) fs)
    (field_items at f.0 f.1 can.0.low can.0.up can.0.spells short.0)
    (bytes_items rules (before ++ f.0 ∷ []) (at + length (field_spelling f.0 f.1)) fs can.1 short.1)

-- ---- they keep to the rules

num_read : (kind : Kind) (at number value : ℕ) → FitsNum kind value → IsOfKind kind (numbered at number value)
num_read Number at number value h = refl
num_read Small at number value h = rw (lt-ltb value (2 ^ 32) h) refl
num_read Signed at number value h = subst (λ (r : Result ℤ WireFault). IsOk r) (sym (ap (λ (v : ℕ). signed_of (numbered at number v)) h.2 ∙ signed_again at number h.0 h.1)) refl
num_read Flag at number value h = refl
num_read Past at number value h = tt
num_read _ at number value h = absurd h

part_read : (kind : Kind) (at number : ℕ) (bytes : List ℕ) → FitsPart kind bytes → IsOfKind kind (part_placed at number bytes)
part_read Text at number bytes h = subst (λ (r : Result (List ℕ) WireFault). IsOk r) (sym (text_again at number bytes h)) refl
part_read Bytes at number bytes h = refl
part_read Message at number bytes h = refl
part_read OneOf at number bytes h = refl
part_read Messages at number bytes h = refl
part_read Past at number bytes h = tt
part_read _ at number bytes h = absurd h

packed_read : (kind : Kind) (at number : ℕ) (values : List ℕ) → AllByRecursion (λ n. n < 2 ^ 64) values → FitsPacked kind values → IsOfKind kind (part_placed at number (flat_map varint values))
packed_read Numbers at number values s h = (values, list_spelled values s)
packed_read SignedNumbers at number values s h = (values, list_spelled values s, h)
packed_read Past at number values s h = tt
packed_read _ at number values s h = absurd h

-- many messages leave room for more
parts_follow : (kind : Kind) (rules : Rules) (before : List Item) (at number : ℕ) (messages : List (List ℕ)) → kind_at rules number ≡ kind → FitsParts kind → Obey rules before (parts_placed at number messages)
parts_follow kind rules before at number [] is h = tt
parts_follow kind rules before at number (bytes ∷ messages) is h = (
  record { read = subst (λ (k : Kind). IsOfKind k (part_placed at number bytes)) (sym is) (part_of_parts kind at number bytes h); room = room kind is h },
  parts_follow kind rules (before ++ part_placed at number bytes ∷ []) (at + length (part_item number bytes)) number messages is h,
) where
  part_of_parts : (kind : Kind) (at number : ℕ) (bytes : List ℕ) → FitsParts kind → IsOfKind kind (part_placed at number bytes)
  part_of_parts Messages at number bytes h = refl
  part_of_parts Past at number bytes h = tt
  part_of_parts _ at number bytes h = absurd h

  not_message : (kind : Kind) → FitsParts kind → kind ≡ Message → ⊥
  not_message Messages h e = absurd cc
  not_message Past h e = absurd cc
  not_message _ h e = absurd h

  not_one_of : (kind : Kind) → FitsParts kind → kind ≡ OneOf → ⊥
  not_one_of Messages h e = absurd cc
  not_one_of Past h e = absurd cc
  not_one_of _ h e = absurd h

  room : (kind : Kind) → kind_at rules number ≡ kind → FitsParts kind → is_taken rules before number ≡ false
  room kind is h = never_as (kind_at rules number) rules before number (λ e. not_message kind h (sym is ∙ e)) (λ e. not_one_of kind h (sym is ∙ e))

one_follows : (rules : Rules) (before : List Item) (item : Item) → is_taken rules before item.number ≡ false → IsOfKind (kind_at rules item.number) item → Obey rules before (item ∷ [])
one_follows rules before item room read = (record { read = read; room = room }, tt)

field_follows : (rules : Rules) (before : List Item) (at number : ℕ) (w : Written) → is_taken rules before number ≡ false → CanSpell w → FitsKind (kind_at rules number) w → Obey rules before (written_items at number w)
field_follows rules before at number (num zero) room s h = tt
field_follows rules before at number (num (suc n)) room s h = one_follows rules before (numbered at number (suc n)) room (num_read (kind_at rules number) at number (suc n) h)
field_follows rules before at number (present n) room s h = one_follows rules before (numbered at number n) room (num_read (kind_at rules number) at number n h)
field_follows rules before at number (text []) room s h = tt
field_follows rules before at number (text (b ∷ bs)) room s h = one_follows rules before (part_placed at number (b ∷ bs)) room (part_read (kind_at rules number) at number (b ∷ bs) h)
field_follows rules before at number (part bytes) room s h = one_follows rules before (part_placed at number bytes) room (part_read (kind_at rules number) at number bytes h)
field_follows rules before at number (packed []) room s h = tt
field_follows rules before at number (packed (v ∷ vs)) room s h = one_follows rules before (part_placed at number (flat_map varint (v ∷ vs))) room (packed_read (kind_at rules number) at number (v ∷ vs) s h)
field_follows rules before at number (parts messages) room s h = parts_follow (kind_at rules number) rules before at number messages refl h

obey_append : (rules : Rules) (before xs ys : List Item) → Obey rules before xs → Obey rules (before ++ xs) ys → Obey rules before (xs ++ ys)
obey_append rules before [] ys p q = subst (λ (zs : List Item). Obey rules zs ys) (append-nil before) q
obey_append rules before (x ∷ xs) ys p q = (p.0, obey_append rules (before ++ x ∷ []) xs ys p.1 (subst (λ (zs : List Item). Obey rules zs ys) (sym (append_assoc before (x ∷ []) xs)) q))

-- no item has a number beside these
abbrev Only : List ℕ → List Item → Type 0
Only numbers items = (p : ℕ → Bool) → list_any p numbers ≡ false → list_any (λ item. p item.number) items ≡ false

or_false : (a b : Bool) → (a || b) ≡ false → (a ≡ false) × (b ≡ false)
or_false true b e = absurd cc
or_false false b e = (refl, e)

or_none : (a b : Bool) → a ≡ false → b ≡ false → (a || b) ≡ false
or_none true b p q = p
or_none false b p q = q

any_front : (p : ℕ → Bool) (xs ys : List ℕ) → list_any p (xs ++ ys) ≡ false → (list_any p xs ≡ false) × (list_any p ys ≡ false)
any_front p [] ys e = (refl, e)
any_front p (x ∷ xs) ys e =
    let h = or_false (p x) (list_any p (xs ++ ys)) e in
    let t = any_front p xs ys h.1 in
    (or_none (p x) (list_any p xs) h.0 t.0, t.1)

any_items : (p : Item → Bool) (xs ys : List Item) → list_any p xs ≡ false → list_any p ys ≡ false → list_any p (xs ++ ys) ≡ false
any_items p [] ys a b = b
any_items p (x ∷ xs) ys a b = let h = or_false (p x) (list_any p xs) a in or_none (p x) (list_any p (xs ++ ys)) h.0 (any_items p xs ys h.1 b)

parts_only : (p : ℕ → Bool) (at number : ℕ) (messages : List (List ℕ)) → p number ≡ false → list_any (λ item. p item.number) (parts_placed at number messages) ≡ false
parts_only p at number [] e = refl
parts_only p at number (b ∷ bs) e = or_none (p number) _ e (parts_only p (at + length (part_item number b)) number bs e)

field_only : (p : ℕ → Bool) (at number : ℕ) (w : Written) → p number ≡ false → list_any (λ item. p item.number) (written_items at number w) ≡ false
field_only p at number (num zero) e = refl
field_only p at number (num (suc n)) e = or_none (p number) false e refl
field_only p at number (present n) e = or_none (p number) false e refl
field_only p at number (text []) e = refl
field_only p at number (text (b ∷ bs)) e = or_none (p number) false e refl
field_only p at number (part bytes) e = or_none (p number) false e refl
field_only p at number (packed []) e = refl
field_only p at number (packed (v ∷ vs)) e = or_none (p number) false e refl
field_only p at number (parts messages) e = parts_only p at number messages e

fields_follow : (rules : Rules) (numbers : List ℕ) (before : List Item) (at : ℕ) (fields : List WrittenField) → Only numbers before → CanWriteAll rules numbers fields → Obey rules before (items_placed at fields)
fields_follow rules numbers before at [] only can = tt
fields_follow rules numbers before at (f ∷ fs) only can =
    let here = written_items at f.0 f.1 in
    let room = only (λ first. clashes rules first f.0) can.0.room in
    let more : Only (numbers ++ f.0 ∷ []) (before ++ here) =
    λ p e. let h = any_front p numbers (f.0 ∷ []) e in any_items (λ item. p item.number) before here (only p h.0) (field_only p at f.0 f.1 (or_false (p f.0) false h.1).0) in
    obey_append rules before here (items_placed (at + length (field_spelling f.0 f.1)) fs)
    (field_follows rules before at f.0 f.1 room can.0.spells can.0.fits)
    (fields_follow rules (numbers ++ f.0 ∷ []) (before ++ here) (at + length (field_spelling f.0 f.1)) fs more can.1)

-- what is written is read
pub written_read : (rules : Rules) (at : ℕ) (fields : List WrittenField) → CanWriteAll rules [] fields → AreShort fields → ReadsItems rules (record { base = at; bytes = spelling_of fields }) (items_placed at fields)
written_read rules at fields can short = record {
  spelled = subst (λ (bytes : List ℕ). Items at bytes (items_placed at fields)) (sym (with_bytes [] fields)) (bytes_items rules [] at fields can short);
  obeyed = fields_follow rules [] [] at fields (λ p e. refl) can;
}

-- where the whole is short enough, each part is
pub all_short : (fields : List WrittenField) → length (spelling_of fields) < 2 ^ 64 → AreShort fields
all_short fields small = each fields (omega (arith, small, ap length (with_bytes [] fields))) where
  one_short : (number : ℕ) (w : Written) → length (field_spelling number w) < 2 ^ 64 → IsShort w
  one_short number (num n) h = tt
  one_short number (present n) h = tt
  one_short number (text []) h = omega arith
  one_short number (text (b ∷ bs)) h = part_fits number (b ∷ bs) h
  one_short number (part bytes) h = part_fits number bytes h
  one_short number (packed []) h = omega arith
  one_short number (packed (v ∷ vs)) h = part_fits number (flat_map varint (v ∷ vs)) h
  one_short number (parts messages) h = messages_fit number messages h

  each : (fields : List WrittenField) → length (bytes_of fields) < 2 ^ 64 → AreShort fields
  each [] small = tt
  each (f ∷ fs) small =
      let size = length-append (field_spelling f.0 f.1) (bytes_of fs) in
      (one_short f.0 f.1 (omega (arith, small, size)), each fs (omega (arith, small, size)))
