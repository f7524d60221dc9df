-- A message whose items of one number are messages of fields.
use Rattle.std.specs.Prelude.{◌⊎◌, ℕ, List, [], ◌∷◌}
use Rattle.lan_bytes.specs.Placed.{Placed}
use Rattle.lan_wire.specs.declared.item.WireFault.{WireFault}
use Rattle.lan_wire.specs.declared.item.Item.{Item}
use Rattle.lan_wire.specs.declared.rules.Kind.TheVariants.{Messages}
use Rattle.lan_wire.specs.Messages.{ReadsAs, FailsToRead, ReadEach, FailsInOne}
use Rattle.lan_wire.specs.Rules.{Rules, open_to}
use Rattle.lan_wire.specs.Values.{parts_under}
use Rattle.lan_schema.specs.FieldMessage.{Flat, SaysField, FailsField}

-- the items of the number are messages, and all others are read past
abbrev pub listing : ℕ → Rules
listing number = open_to (record { 0 = number; 1 = Messages } ∷ [])

-- the items of the number are the messages of these fields, in order
abbrev pub SayAll : ℕ → List Item → List Flat → Type 0
SayAll number items fs = ReadEach SaysField (parts_under number items) fs

-- one of them is no message of a field
abbrev pub FailsInside : ℕ → List Item → WireFault → Type 0
FailsInside number items fault = FailsInOne FailsField (parts_under number items) fault

-- the message lists these fields under the number
abbrev pub SaysFields : Placed → ℕ → List Flat → Type 0
SaysFields message number fs = ReadsAs (listing number) (SayAll number) message fs

-- where the message can't be read, or one of those in it
abbrev pub FieldsBreakOff : Placed → ℕ → WireFault → Type 0
FieldsBreakOff message number fault = FailsToRead (listing number) message fault ⊎ ReadsAs (listing number) (FailsInside number) message fault
