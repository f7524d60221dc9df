-- What the message of one field says, and how the writer spells it.
use Rattle.std.specs.Prelude.{ℕ, ◌^◌, ◌<◌, Bool, IsTrue, List, [], ◌∷◌, length, ℤ}
use Rattle.std.specs.Str.{is_utf8}
use Rattle.lan_bytes.specs.Placed.{Placed}
use Rattle.lan_wire.specs.declared.item.WireFault.{WireFault}
use Rattle.lan_wire.specs.declared.item.Item.{Item}
use Rattle.lan_wire.specs.Messages.{ReadsValue, FailsToRead}
use Rattle.lan_wire.specs.Readers.{IsInt32}
use Rattle.lan_wire.specs.Rules.{open_to}
use Rattle.lan_wire.specs.Spelling.{two_complement}
use Rattle.lan_wire.specs.Values.{text_under, signed_under, flag_under}
use Rattle.lan_wire.specs.Written.{num, text, flag_number, WrittenField, spelling_of}
use Rattle.lan_schema.specs.declared.entry.Entry.{Entry}
use Rattle.lan_schema.specs.declared.reading.TheConstants.{FIELD}

-- what a field's message says: the tree lies flat, and each field names its parent
pub record Flat : Type 0 where
  pub name : List ℕ
  pub id : ℤ
  pub parent : ℤ
  pub logical : List ℕ
  pub nullable : Bool

-- the field that the items of its message say
abbrev pub flat_said : List Item → Flat
flat_said items = record { name = text_under 2 items; id = signed_under 3 items; parent = signed_under 4 items; logical = text_under 5 items; nullable = flag_under 6 items }

-- the bytes are a message that says this field
abbrev pub SaysField : Placed → Flat → Type 0
SaysField message f = ReadsValue (open_to FIELD) flat_said message f

-- where the bytes are no message of a field
abbrev pub FailsField : Placed → WireFault → Type 0
FailsField message fault = FailsToRead (open_to FIELD) message fault

-- an entry without where its texts lie in memory
abbrev pub flat_of : Entry → Flat
flat_of e = record { name = e.name.now; id = e.id; parent = e.parent; logical = e.logical.now; nullable = e.nullable }

-- what is written of a field, of which `kind` is the number that is read past
abbrev pub field_written : ℕ → Flat → List WrittenField
field_written kind f =
    (1, num kind) ∷ (2, text f.name) ∷ (3, num (two_complement f.id)) ∷ (4, num (two_complement f.parent)) ∷ (5, text f.logical) ∷ (6, num (flag_number f.nullable)) ∷ []

-- the writer's one spelling of a field
abbrev pub field_text : ℕ → Flat → List ℕ
field_text kind f = spelling_of (field_written kind f)

-- what the writer can say in a message
pub record IsFlat (f : Flat) : Type 0 where
  pub name : IsTrue (is_utf8 f.name)
  pub name_fits : length f.name < 2 ^ 63
  pub id : IsInt32 f.id
  pub parent : IsInt32 f.parent
  pub logical : IsTrue (is_utf8 f.logical)
  pub logical_fits : length f.logical < 2 ^ 63
