-- What the writer writes of a message, field by field, and when a rules takes it.
use Rattle.std.specs.Prelude.{◌≡◌, ℕ, zero, suc, ◌+◌, ◌^◌, ◌<◌, Bool, true, false, IsTrue, cond, nat_eq, List, [], ◌∷◌, ◌++◌, length, flat_map, ℤ}
use Rattle.std.specs.List.{list_any, list_all, AllByRecursion}
use Rattle.std.specs.Str.{is_utf8}
use Rattle.lan_wire.specs.declared.item.Item.{Item}
use Rattle.lan_wire.specs.declared.rules.Kind.{Kind}
use Rattle.lan_wire.specs.declared.rules.Kind.TheVariants.{Number, Small, Signed, Flag, Text, Bytes, Message, OneOf, Numbers, SignedNumbers, Messages, Past}
use Rattle.lan_wire.specs.Rules.{Rules}
use Rattle.lan_wire.specs.Readers.{IsInt32}
use Rattle.lan_wire.specs.Spelling.{varint, num_item, part_item, num_field, part_field, packed_field, two_complement}
use Rattle.lan_wire.specs.Spells.{numbered, part_placed}
use Rattle.lan_wire.specs.Rules.{kind_at}
use Rattle.lan_wire.specs.Messages.{clashes, is_int32}

-- what is written under a number, by the writer's call
pub data Written : Type 0 where
  -- a number, left out where it is zero
  num : ℕ → Written
  -- a number, zero too
  present : ℕ → Written
  -- bytes, left out where there are none
  text : List ℕ → Written
  -- bytes or a message, an empty one too
  part : List ℕ → Written
  -- numbers in one part, left out where there are none
  packed : List ℕ → Written
  -- messages, each under its own key
  parts : List (List ℕ) → Written

abbrev pub WrittenField : Type 0
WrittenField = ℕ × Written

abbrev pub field_spelling : ℕ → Written → List ℕ
field_spelling number (num value) = num_field number value
field_spelling number (present value) = num_item number value
field_spelling number (text bytes) = part_field number bytes
field_spelling number (part bytes) = part_item number bytes
field_spelling number (packed values) = packed_field number values
field_spelling number (parts messages) = flat_map (λ bytes. part_item number bytes) messages

-- the bytes with these fields behind them
abbrev pub with_spellings : List ℕ → List WrittenField → List ℕ
with_spellings bytes [] = bytes
with_spellings bytes (field ∷ fields) = with_spellings (bytes ++ field_spelling field.0 field.1) fields

-- the writer's one spelling of a message of these fields
abbrev pub spelling_of : List WrittenField → List ℕ
spelling_of fields = with_spellings [] fields

-- a flag_number as a number
abbrev pub flag_number : Bool → ℕ
flag_number true = 1
flag_number false = 0

-- the value's numbers can be field_spelling
abbrev pub CanSpell : Written → Type 0
CanSpell (num value) = value < 2 ^ 64
CanSpell (present value) = value < 2 ^ 64
CanSpell (packed values) = AllByRecursion (λ n. n < 2 ^ 64) values
CanSpell _ = Unit {0}

-- the value's bytes have a length that can be spelled
abbrev pub IsShort : Written → Type 0
IsShort (text bytes) = length bytes < 2 ^ 64
IsShort (part bytes) = length bytes < 2 ^ 64
IsShort (packed values) = length (flat_map varint values) < 2 ^ 64
IsShort (parts messages) = AllByRecursion (λ bytes. length bytes < 2 ^ 64) messages
IsShort _ = Unit {0}

abbrev pub AreShort : List WrittenField → Type 0
AreShort [] = Unit {0}
AreShort (field ∷ fields) = IsShort field.1 × AreShort fields

-- a number is one of the kind
abbrev pub FitsNum : Kind → ℕ → Type 0
FitsNum Number value = Unit {0}
FitsNum Small value = value < 2 ^ 32
FitsNum Signed value = (z : ℤ) × IsInt32 z × (value ≡ two_complement z)
FitsNum Flag value = Unit {0}
FitsNum Past value = Unit {0}
FitsNum _ value = ⊥

-- bytes are some of the kind
abbrev pub FitsPart : Kind → List ℕ → Type 0
FitsPart Text bytes = IsTrue (is_utf8 bytes)
FitsPart Bytes bytes = Unit {0}
FitsPart Message bytes = Unit {0}
FitsPart OneOf bytes = Unit {0}
FitsPart Messages bytes = Unit {0}
FitsPart Past bytes = Unit {0}
FitsPart _ bytes = ⊥

-- numbers are some of the kind
abbrev pub FitsPacked : Kind → List ℕ → Type 0
FitsPacked Numbers values = Unit {0}
FitsPacked SignedNumbers values = IsTrue (list_all is_int32 values)
FitsPacked Past values = Unit {0}
FitsPacked _ values = ⊥

-- messages are some of the kind
abbrev pub FitsParts : Kind → Type 0
FitsParts Messages = Unit {0}
FitsParts Past = Unit {0}
FitsParts _ = ⊥

-- the value is one of the kind
abbrev pub FitsKind : Kind → Written → Type 0
FitsKind kind (num value) = FitsNum kind value
FitsKind kind (present value) = FitsNum kind value
FitsKind kind (text bytes) = FitsPart kind bytes
FitsKind kind (part bytes) = FitsPart kind bytes
FitsKind kind (packed values) = FitsPacked kind values
FitsKind kind (parts messages) = FitsParts kind

-- a field may be written behind fields of these numbers
pub record CanWrite (rules : Rules) (before : List ℕ) (number : ℕ) (value : Written) : Type 0 where
  pub low : 0 < number
  pub up : number < 2 ^ 29
  pub room : list_any (λ first. clashes rules first number) before ≡ false
  pub spells : CanSpell value
  pub fits : FitsKind (kind_at rules number) value

-- each of these fields may be written behind those before it
abbrev pub CanWriteAll : Rules → List ℕ → List WrittenField → Type 0
CanWriteAll rules before [] = Unit {0}
CanWriteAll rules before (field ∷ fields) = CanWrite rules before field.0 field.1 × CanWriteAll rules (before ++ field.0 ∷ []) fields

-- what is written under a number
abbrev pub about : ℕ → List WrittenField → List Written
about number [] = []
about number (field ∷ fields) = cond (nat_eq field.0 number) (field.1 ∷ about number fields) (about number fields)

abbrev pub parts_placed : ℕ → ℕ → List (List ℕ) → List Item
parts_placed at number [] = []
parts_placed at number (bytes ∷ messages) = part_placed at number bytes ∷ parts_placed (at + length (part_item number bytes)) number messages

-- the items that are written for a value, the first at a place
abbrev pub written_items : ℕ → ℕ → Written → List Item
written_items at number (num zero) = []
written_items at number (num (suc n)) = numbered at number (suc n) ∷ []
written_items at number (present value) = numbered at number value ∷ []
written_items at number (text []) = []
written_items at number (text (b ∷ bs)) = part_placed at number (b ∷ bs) ∷ []
written_items at number (part bytes) = part_placed at number bytes ∷ []
written_items at number (packed []) = []
written_items at number (packed (v ∷ vs)) = part_placed at number (flat_map varint (v ∷ vs)) ∷ []
written_items at number (parts messages) = parts_placed at number messages

-- the items that are written for fields, the first at a place
abbrev pub items_placed : ℕ → List WrittenField → List Item
items_placed at [] = []
items_placed at (field ∷ fields) = written_items at field.0 field.1 ++ items_placed (at + length (field_spelling field.0 field.1)) fields
