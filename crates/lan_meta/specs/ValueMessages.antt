-- What the message of how values are stored says.
use Rattle.std.specs.Prelude.{◌≡◌, ◌⊎◌, [], None}
use Rattle.lan_bytes.specs.Placed.{Placed}
use Rattle.lan_levels.specs.declared.shape.ValueKind.{ValueKind}
use Rattle.lan_levels.specs.declared.shape.ValueKind.TheVariants as stored
use Rattle.lan_wire.specs.declared.item.Item.{Item}
use Rattle.lan_wire.specs.Messages.{ReadsAs, ReadsValue, FailsPlainly, FailsOr}
use Rattle.std.specs.Prelude.{List}
use Rattle.lan_wire.specs.Rules.{closed_to}
use Rattle.lan_wire.specs.Values.{num_under, part_under, Under}
use Rattle.lan_meta.specs.declared.message.Message.TheVariants as message
use Rattle.lan_meta.specs.declared.message.MetaFault.{MetaFault}
use Rattle.lan_meta.specs.declared.message.MetaFault.TheVariants.{Missing, Memory}
use Rattle.lan_meta.specs.declared.values.TheConstants.{VALUES, FLAT, CONSTANT_VALUE}
use Rattle.lan_meta.specs.Faults.{fault_in}

-- so many bits a value
abbrev pub SaysFlat : Placed → ValueKind → Type 0
SaysFlat part values = ReadsValue (closed_to FLAT) (λ items. stored.Flat (num_under 1 items)) part values

abbrev pub SaysVariable : Placed → ValueKind → Type 0
SaysVariable part values = ReadsValue (closed_to []) (λ items. stored.Variable) part values

-- each value has these bytes
abbrev pub HasBytes : Placed → ValueKind → Type 0
HasBytes part values = values ≡ stored.Constant part.bytes

abbrev pub SaysConstantValue : Placed → ValueKind → Type 0
SaysConstantValue part values = ReadsAs (closed_to CONSTANT_VALUE) (Under 1 HasBytes) part values

-- the one member that is said
abbrev pub ValuesSaid : List Item → ValueKind → Type 0
ValuesSaid items values = Under 1 SaysFlat items values ⊎ Under 2 SaysVariable items values ⊎ Under 3 SaysConstantValue items values

-- the bytes are a message that says how values are stored
abbrev pub SaysValues : Placed → ValueKind → Type 0
SaysValues part values = ReadsAs (closed_to VALUES) ValuesSaid part values

abbrev pub FailsFlat : Placed → MetaFault → Type 0
FailsFlat part error = FailsPlainly (fault_in message.Flat) (closed_to FLAT) part error

abbrev pub FailsVariable : Placed → MetaFault → Type 0
FailsVariable part error = FailsPlainly (fault_in message.Variable) (closed_to []) part error

-- its value isn't there; memory may want
abbrev pub LacksBytes : List Item → MetaFault → Type 0
LacksBytes items error = (error ≡ Memory) ⊎ ((part_under 1 items ≡ None) × (error ≡ Missing message.ConstantValue 1))

abbrev pub FailsConstantValue : Placed → MetaFault → Type 0
FailsConstantValue part error = FailsOr (fault_in message.ConstantValue) (closed_to CONSTANT_VALUE) LacksBytes part error

abbrev pub NoMember : List Item → Type 0
NoMember items = (part_under 1 items ≡ None) × (part_under 2 items ≡ None) × (part_under 3 items ≡ None)

-- no member is there, or the one that is can't be read
abbrev pub LacksValues : List Item → MetaFault → Type 0
LacksValues items error =
    (NoMember items × (error ≡ Missing message.Values 0)) ⊎ Under 1 FailsFlat items error ⊎ Under 2 FailsVariable items error ⊎ Under 3 FailsConstantValue items error

abbrev pub FailsValues : Placed → MetaFault → Type 0
FailsValues part error = FailsOr (fault_in message.Values) (closed_to VALUES) LacksValues part error
