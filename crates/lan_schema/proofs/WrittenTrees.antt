-- What is written of fields is their trees laid flat, which stand for the fields again.
use Rattle.std.proofs.Common.{◌≡◌, ℕ, ◌+◌, ◌^◌, ◌<◌, ◌≤◌, Bool, true, false, cond, List, [], ◌∷◌, ◌++◌, length, length-append, refl, sym, ap, subst, ◌∙◌, arith, pos, negsuc}
use Rattle.std.specs.Prelude.{ℤ, IsTrue, codes, decimal, map, flat_map}
use Rattle.std.specs.Str.{is_utf8, IsUtf8}
use Rattle.std.proofs.lemmas.Int.{ints}
use Rattle.std.proofs.lemmas.Fmt.{IsAscii-decimal}
use Rattle.std.proofs.lemmas.List.{append-nil}
use Rattle.std.proofs.lemmas.List.Concat.{flat_map-cons, flat_map-append}
use Rattle.std.specs.Prelude.{slice_index}
use Rattle.std.proofs.Common.{zero, suc, ltb}
use Rattle.std.proofs.lemmas.Bool.{false≢true, ltb-true}
use Rattle.std.proofs.lemmas.Str.Ascii.{IsAscii-nil}
use Rattle.std.proofs.lemmas.Str.{IsUtf8-append, IsUtf8-from_ascii, is_utf8-from_IsUtf8}
use Rattle.lan_bytes.specs.Placed.{Placed}
use Rattle.lan_model.specs.declared.tree.Primitive.{Primitive}
use Rattle.lan_model.specs.declared.tree.Primitive.TheVariants as kind
use Rattle.lan_model.specs.Plain.{PlainType, primitive, vector, text, bytes, list, struct, PlainField, field, PlainFields, no_fields, one_field}
use Rattle.lan_model.specs.Table.{IsField, AreFields}
use Rattle.lan_wire.specs.declared.rules.Kind.{Kind}
use Rattle.lan_wire.specs.declared.rules.Kind.TheVariants.{Messages, Past}
use Rattle.lan_wire.specs.Messages.{ReadsItems, ReadEach}
use Rattle.lan_wire.specs.Readers.{IsInt32}
use Rattle.lan_wire.specs.Rules.{kind_at}
use Rattle.lan_wire.specs.Spelling.{num_field, part_item, part_field, two_complement, key, varint}
use Rattle.lan_wire.specs.Values.{parts_under}
use Rattle.lan_wire.specs.Written.{Written, parts, flag_number, WrittenField, with_spellings, spelling_of, FitsKind, CanWriteAll, AreShort, about, items_placed}
use Rattle.lan_wire.proofs.LawTerms.{written_read as written_items_read, all_short, parts_back}
use Rattle.lan_schema.specs.FieldMessage.{Flat, SaysField, field_text, IsFlat}
use Rattle.lan_schema.specs.FieldMessages.{listing, SaysFields}
use Rattle.lan_schema.specs.FieldTree.{name_of, list_name, logical_of, type_number, signed, flat_field, own_message, field_messages, inside_messages, all_messages}
use Rattle.lan_schema.specs.FieldsOf.{natural}
use Rattle.lan_schema.specs.Forest.{Trees, none, laid, Absent}
use Rattle.lan_schema.specs.Written.{trees_in, tree_before, trees_of, CanTellType, CanTell, CanTellAll}
use Rattle.lan_schema.proofs.ForestLaws.{nat_same}
use Rattle.lan_schema.proofs.ReadBack.{read_back}

-- ---- numbers and texts

pub small_signed : (id : ℕ) → id < 2 ^ 31 → signed id ≡ pos id
small_signed id small = search (ints, arith)

pub natural_again : (id : ℕ) → id < 2 ^ 31 → natural (signed id) ≡ id
natural_again id small = ap natural (small_signed id small)

small_int : (id : ℕ) → id < 2 ^ 31 → IsInt32 (signed id)
small_int id small = subst IsInt32 (sym (small_signed id small)) small

-- whether all bytes are ASCII
abbrev small : List ℕ → Bool
small [] = true
small (b ∷ bs) = cond (ltb b 128) (small bs) false

both_true : (a b : Bool) → cond a b false ≡ true → (a ≡ true) × (b ≡ true)
both_true true b e = (refl, e)
both_true false b e = absurd (false≢true e)

small_ascii : (bs : List ℕ) → small bs ≡ true → (i : ℕ) → slice_index bs i < 128
small_ascii [] h i = IsAscii-nil i
small_ascii (b ∷ bs) h zero = ltb-true b 128 (both_true (ltb b 128) (small bs) h).0
small_ascii (b ∷ bs) h (suc i) = small_ascii bs (both_true (ltb b 128) (small bs) h).1 i

short_utf8 : (bs : List ℕ) → small bs ≡ true → IsUtf8 bs
short_utf8 bs h = IsUtf8-from_ascii bs (small_ascii bs h)

name_utf8 : (q : Primitive) → IsUtf8 (name_of q)
name_utf8 kind.Bool = short_utf8 (name_of kind.Bool) refl
name_utf8 kind.Int8 = short_utf8 (name_of kind.Int8) refl
name_utf8 kind.Int16 = short_utf8 (name_of kind.Int16) refl
name_utf8 kind.Int32 = short_utf8 (name_of kind.Int32) refl
name_utf8 kind.Int64 = short_utf8 (name_of kind.Int64) refl
name_utf8 kind.Uint8 = short_utf8 (name_of kind.Uint8) refl
name_utf8 kind.Uint16 = short_utf8 (name_of kind.Uint16) refl
name_utf8 kind.Uint32 = short_utf8 (name_of kind.Uint32) refl
name_utf8 kind.Uint64 = short_utf8 (name_of kind.Uint64) refl
name_utf8 kind.Half = short_utf8 (name_of kind.Half) refl
name_utf8 kind.Float = short_utf8 (name_of kind.Float) refl
name_utf8 kind.Double = short_utf8 (name_of kind.Double) refl
name_utf8 kind.Date = short_utf8 (name_of kind.Date) refl

list_utf8 : (f : PlainField ℕ) → IsUtf8 (list_name f)
list_utf8 (field id name nullable (primitive q)) = short_utf8 (codes "list") refl
list_utf8 (field id name nullable (vector q n)) = short_utf8 (codes "list") refl
list_utf8 (field id name nullable text) = short_utf8 (codes "list") refl
list_utf8 (field id name nullable bytes) = short_utf8 (codes "list") refl
list_utf8 (field id name nullable (list item)) = short_utf8 (codes "list") refl
list_utf8 (field id name nullable (struct members)) = short_utf8 (codes "list.struct") refl

logical_utf8 : (ty : PlainType ℕ) (id : ℕ) (name : List ℕ) (nullable : Bool) → IsField (field id name nullable ty) → IsUtf8 (logical_of ty)
logical_utf8 (primitive q) id name nullable h = name_utf8 q
logical_utf8 (vector q n) id name nullable h =
    let front = IsUtf8-append (codes "fixed_size_list:") (name_of q) (short_utf8 (codes "fixed_size_list:") refl) (name_utf8 q) in
    let colon = IsUtf8-append (codes "fixed_size_list:" ++ name_of q) (codes ":") front (short_utf8 (codes ":") refl) in
    IsUtf8-append (codes "fixed_size_list:" ++ name_of q ++ codes ":") (decimal n) colon (IsUtf8-from_ascii (decimal n) (IsAscii-decimal n (omega (arith, h.2))))
logical_utf8 text id name nullable h = short_utf8 (codes "string") refl
logical_utf8 bytes id name nullable h = short_utf8 (codes "binary") refl
logical_utf8 (list item) id name nullable h = list_utf8 item
logical_utf8 (struct members) id name nullable h = short_utf8 (codes "struct") refl

-- ---- the messages say the trees laid flat

-- wherever they lie, these bytes say these fields, one each
abbrev SayTexts : List (List ℕ) → List Flat → Type 0
SayTexts [] fs = fs ≡ []
SayTexts (body ∷ texts) fs = (f : Flat) × (rest : List Flat) × (fs ≡ f ∷ rest) × ((at : ℕ) → SaysField (record { base = at; bytes = body }) f) × SayTexts texts rest

-- the bytes are messages of these fields under a number
record Says (number : ℕ) (bytes : List ℕ) (fs : List Flat) : Type 0 where
  texts : List (List ℕ)
  spelled : bytes ≡ flat_map (λ text. part_item number text) texts
  said : SayTexts texts fs

texts_append : (xs ys : List (List ℕ)) (fs gs : List Flat) → SayTexts xs fs → SayTexts ys gs → SayTexts (xs ++ ys) (fs ++ gs)
texts_append [] ys fs gs p q = subst (λ (t : List Flat). SayTexts ys (t ++ gs)) (sym p) q
texts_append (x ∷ xs) ys fs gs p q = (p.0, p.1 ++ gs, ap (λ (t : List Flat). t ++ gs) p.2, p.3, texts_append xs ys p.1 gs p.4 q)

says_then : (number : ℕ) (a b : List ℕ) (fs gs : List Flat) → Says number a fs → Says number b gs → Says number (a ++ b) (fs ++ gs)
says_then number a b fs gs p q = record {
  texts = p.texts ++ q.texts;
  spelled = ap (λ (t : List ℕ). t ++ b) p.spelled ∙ ap (λ (t : List ℕ). flat_map (λ text. part_item number text) p.texts ++ t) q.spelled ∙ sym (flat_map-append (λ (text : List ℕ). part_item number text) p.texts q.texts);
  said = texts_append p.texts q.texts fs gs p.said q.said;
}

says_none : (number : ℕ) → Says number [] []
says_none number = record { texts = []; spelled = refl; said = refl }

says_one : (number kind : ℕ) (f : Flat) → kind < 2 ^ 64 → IsFlat f → Says number (part_item number (field_text kind f)) (f ∷ [])
says_one number kind f few is = record {
  texts = field_text kind f ∷ [];
  spelled = sym (append-nil (part_item number (field_text kind f))) ∙ sym (flat_map-cons (λ (text : List ℕ). part_item number text) (field_text kind f) []);
  said = (f, [], refl, (λ at. read_back at kind f few is), refl);
}

part_long : (number : ℕ) (body : List ℕ) → length body ≤ length (part_item number body)
part_long number body = omega (arith, length-append (key number 2) (varint (length body) ++ body), length-append (varint (length body)) body)

field_long : (number : ℕ) (body : List ℕ) → length body ≤ length (part_field number body)
field_long number [] = omega arith
field_long number (b ∷ bs) = part_long number (b ∷ bs)

record Short (kind : ℕ) (f : Flat) : Type 0 where
  name : length f.name ≤ length (field_text kind f)
  logical : length f.logical ≤ length (field_text kind f)

shorter : (kind : ℕ) (f : Flat) → Short kind f
shorter kind f =
    let a = num_field 1 kind in
    let b = part_field 2 f.name in
    let c = num_field 3 (two_complement f.id) in
    let d = num_field 4 (two_complement f.parent) in
    let e = part_field 5 f.logical in
    let g = num_field 6 (flag_number f.nullable) in
    let ab = length-append a b in
    let abc = length-append (a ++ b) c in
    let abcd = length-append (a ++ b ++ c) d in
    let abcde = length-append (a ++ b ++ c ++ d) e in
    let all = length-append (a ++ b ++ c ++ d ++ e) g in
    let name = field_long 2 f.name in
    let logical = field_long 5 f.logical in
    record { name = omega arith; logical = omega arith }

is_text : (bs : List ℕ) → IsUtf8 bs → IsTrue (is_utf8 bs)
is_text bs h = is_utf8-from_IsUtf8 bs h

flat_is : (kind : ℕ) (f : Flat) → IsUtf8 f.name → IsInt32 f.id → IsInt32 f.parent → IsUtf8 f.logical → length (field_text kind f) < 2 ^ 63 → IsFlat f
flat_is kind f name id parent logical small =
    let s = shorter kind f in
    record {
      name = is_text f.name name;
      name_fits = omega (arith, s.name, small);
      id = id;
      parent = parent;
      logical = is_text f.logical logical;
      logical_fits = omega (arith, s.logical, small);
    }

kind_small : (ty : PlainType ℕ) → type_number ty < 2 ^ 64
kind_small (primitive q) = omega arith
kind_small (vector q n) = omega arith
kind_small text = omega arith
kind_small bytes = omega arith
kind_small (list item) = omega arith
kind_small (struct members) = omega arith

told_flat : (parent : ℤ) (f : PlainField ℕ) → IsField f → IsInt32 parent → CanTell f → length (own_message parent f) < 2 ^ 63 → IsFlat (flat_field parent f)
told_flat parent (field id name nullable ty) h p told short =
    flat_is (type_number ty) (flat_field parent (field id name nullable ty)) told.1 (small_int id told.0) p (logical_utf8 ty id name nullable h) short

-- the message of a field that can be told says it
pub field_says : (at : ℕ) (parent : ℤ) (f : PlainField ℕ) → IsField f → IsInt32 parent → CanTell f → length (own_message parent f) < 2 ^ 63 → SaysField (record { base = at; bytes = own_message parent f }) (flat_field parent f)
field_says at parent (field id name nullable ty) h p told short =
    read_back at (type_number ty) (flat_field parent (field id name nullable ty)) (kind_small ty) (told_flat parent (field id name nullable ty) h p told short)

mutual
  says_inside : (number : ℕ) (parent : ℤ) (ty : PlainType ℕ) (id : ℕ) (name : List ℕ) (nullable : Bool) → IsField (field id name nullable ty) → IsInt32 parent → CanTellType ty → length (inside_messages number parent ty) < 2 ^ 63 → Says number (inside_messages number parent ty) (laid parent (trees_in ty))
  says_inside number parent (primitive q) id name nullable h p told small = says_none number
  says_inside number parent (vector q n) id name nullable h p told small = says_none number
  says_inside number parent text id name nullable h p told small = says_none number
  says_inside number parent bytes id name nullable h p told small = says_none number
  says_inside number parent (list item) id name nullable h p told small =
      subst (λ (b : List ℕ). Says number b (laid parent (tree_before item none))) (append-nil (field_messages number parent item)) (says_before number parent item none [] h p told small (says_none number))
  says_inside number parent (struct members) id name nullable h p told small = says_all number parent members h.1 p told small

  says_before : (number : ℕ) (parent : ℤ) (f : PlainField ℕ) (others : Trees) (rest : List ℕ) → IsField f → IsInt32 parent → CanTell f → length (field_messages number parent f) < 2 ^ 63 → Says number rest (laid parent others) → Says number (field_messages number parent f ++ rest) (laid parent (tree_before f others))
  says_before number parent (field id name nullable ty) others rest f p told small h =
      let own : PlainField ℕ = field id name nullable ty in
      let flat : Flat = flat_field parent own in
      let body = own_message parent own in
      let part = part_item number body in
      let inside = inside_messages number (signed id) ty in
      let size : length (part ++ inside) ≡ length part + length inside = length-append part inside in
      let longer : length body ≤ length part = part_long number body in
      let short : length body < 2 ^ 63 = omega (arith, small, size, longer) in
      let one = says_one number (type_number ty) flat (kind_small ty) (told_flat parent own f p told short) in
      let within = says_inside number (signed id) ty id name nullable f (small_int id told.0) told.2 (omega (arith, small, size)) in
      says_then number (part ++ inside) rest ((flat ∷ []) ++ laid (signed id) (trees_in ty)) (laid parent others) (says_then number part inside (flat ∷ []) (laid (signed id) (trees_in ty)) one within) h

  says_all : (number : ℕ) (parent : ℤ) (fs : PlainFields ℕ) → AreFields fs → IsInt32 parent → CanTellAll fs → length (all_messages number parent fs) < 2 ^ 63 → Says number (all_messages number parent fs) (laid parent (trees_of fs))
  says_all number parent no_fields h p told small = says_none number
  says_all number parent (one_field f fs) h p told small =
      let size = length-append (field_messages number parent f) (all_messages number parent fs) in
      says_before number parent f (trees_of fs) (all_messages number parent fs) h.0 p told.0 (omega (arith, small, size)) (says_all number parent fs h.1 p told.1 (omega (arith, small, size)))

texts_read : (messages : List Placed) (texts : List (List ℕ)) (fs : List Flat) → map (λ (p : Placed). p.bytes) messages ≡ texts → SayTexts texts fs → ReadEach SaysField messages fs
texts_read [] [] fs e s = s
texts_read [] (t ∷ ts) fs e s = absurd cc
texts_read (m ∷ ms) [] fs e s = absurd cc
texts_read (m ∷ ms) (t ∷ ts) fs e s =
    let bytes : m.bytes ≡ t = cc in
    let others : map (λ (p : Placed). p.bytes) ms ≡ ts = cc in
    (s.0, s.1, s.2, subst (λ (b : List ℕ). SaysField (record { base = m.base; bytes = b }) s.0) (sym bytes) (s.3 m.base), texts_read ms ts s.1 others s.4)

listed : (number : ℕ) → kind_at (listing number) number ≡ Messages
listed number = ap (λ (b : Bool). cond b Messages Past) (nat_same number)

about_all : (number : ℕ) (texts : List (List ℕ)) (others : List WrittenField) → about number others ≡ [] → about number ((number, parts texts) ∷ others) ≡ parts texts ∷ []
about_all number texts others absent = ap (λ (b : Bool). cond b (parts texts ∷ about number others) (about number others)) (nat_same number) ∙ ap (λ (ws : List Written). parts texts ∷ ws) absent

-- before other fields of a message, none of them of the number
pub written_says_before : (number at : ℕ) (fs : PlainFields ℕ) (others : List WrittenField) → 0 < number → number < 2 ^ 29 → AreFields fs → CanTellAll fs → length (all_messages number (negsuc 0) fs) < 2 ^ 63
    → about number others ≡ [] → CanWriteAll (listing number) (number ∷ []) others → AreShort others → SaysFields (record { base = at; bytes = with_spellings (all_messages number (negsuc 0) fs) others }) number (laid (negsuc 0) (trees_of fs))
written_says_before number at fs others low up types told small absent can_others short_others =
    let s = says_all number (negsuc 0) fs types (omega arith) told small in
    let alone : List WrittenField = (number, parts s.texts) ∷ [] in
    let fields : List WrittenField = (number, parts s.texts) ∷ others in
    let size : length (spelling_of alone) < 2 ^ 64 = omega (arith, small, ap length s.spelled) in
    let fits : FitsKind (kind_at (listing number) number) (parts s.texts) = subst (λ (k : Kind). FitsKind k (parts s.texts)) (sym (listed number)) tt in
    let can : CanWriteAll (listing number) [] fields = (record { low = low; up = up; room = refl; spells = tt; fits = fits }, can_others) in
    let reads = written_items_read (listing number) at fields can ((all_short alone size).0, short_others) in
    let whole : spelling_of fields ≡ with_spellings (all_messages number (negsuc 0) fs) others = ap (λ (b : List ℕ). with_spellings b others) (sym s.spelled) in
    record {
      items = items_placed at fields;
      reads = subst (λ (bytes : List ℕ). ReadsItems (listing number) (record { base = at; bytes = bytes }) (items_placed at fields)) whole reads;
      said = texts_read (parts_under number (items_placed at fields)) s.texts (laid (negsuc 0) (trees_of fs)) (parts_back number at fields s.texts (about_all number s.texts others absent)) s.said;
    }

pub written_says : (number at : ℕ) (fs : PlainFields ℕ) → 0 < number → number < 2 ^ 29 → AreFields fs → CanTellAll fs → length (all_messages number (negsuc 0) fs) < 2 ^ 63 → SaysFields (record { base = at; bytes = all_messages number (negsuc 0) fs }) number (laid (negsuc 0) (trees_of fs))
written_says number at fs low up types told small = written_says_before number at fs [] low up types told small refl tt tt

-- what is written of fields is messages under the number
pub written_messages : (number : ℕ) (fs : PlainFields ℕ) → AreFields fs → CanTellAll fs → length (all_messages number (negsuc 0) fs) < 2 ^ 63 → (texts : List (List ℕ)) × (all_messages number (negsuc 0) fs ≡ flat_map (λ text. part_item number text) texts)
written_messages number fs types told small = let s = says_all number (negsuc 0) fs types (omega arith) told small in (s.texts, s.spelled)

-- ---- the trees stand for the fields

mutual
  top_in : (ty : PlainType ℕ) → CanTellType ty → Absent (negsuc 0) (trees_in ty)
  top_in (primitive q) told = tt
  top_in (vector q n) told = tt
  top_in text told = tt
  top_in bytes told = tt
  top_in (list item) told = top_before item none told tt
  top_in (struct members) told = top_absent members told

  top_before : (f : PlainField ℕ) (others : Trees) → CanTell f → Absent (negsuc 0) others → Absent (negsuc 0) (tree_before f others)
  top_before (field id name nullable ty) others told h = (λ e. apart id (sym (small_signed id told.0) ∙ e), top_in ty told.2, h) where
    apart : (n : ℕ) → pos n ≡ negsuc 0 → ⊥
    apart n e = absurd cc

  -- no field has the number of the top
  pub top_absent : (fs : PlainFields ℕ) → CanTellAll fs → Absent (negsuc 0) (trees_of fs)
  top_absent no_fields told = tt
  top_absent (one_field f fs) told = top_before f (trees_of fs) told.0 (top_absent fs told.1)
