-- What a message takes under a rules, and what is wrong with one that doesn't keep to it.
use Rattle.std.specs.Prelude.{◌≡◌, ◌⊎◌, ℕ, ◌-◌, ◌^◌, Bool, true, false, not, nat_eq, nat_lt, ◌||◌, IsTrue, IsOk, List, [], ◌∷◌, ◌++◌, Err}
use Rattle.std.specs.List.{list_any, list_all}
use Rattle.lan_bytes.specs.Placed.{Placed}
use Rattle.lan_wire.specs.declared.item.WireKind.TheVariants.{Twice, Refused as NotTaken}
use Rattle.lan_wire.specs.declared.item.WireFault.{WireFault}
use Rattle.lan_wire.specs.declared.item.NumsFault.{NumsFault}
use Rattle.lan_wire.specs.declared.item.NumsFault.TheVariants.{Wire, Memory}
use Rattle.lan_wire.specs.declared.item.Item.{Item}
use Rattle.lan_wire.specs.declared.rules.Kind.{Kind}
use Rattle.lan_wire.specs.declared.rules.Kind.TheVariants.{Number, Small, Signed, Flag, Text, Bytes, Message, OneOf, Numbers, SignedNumbers, Messages, Past, Refused}
use Rattle.lan_wire.specs.Rules.{Rules, kind_at}
use Rattle.lan_wire.specs.Faults.{BreaksItem}
use Rattle.lan_wire.specs.Readers.{num_of, small_of, signed_of, flag_of, placed_of, text_of, HasNumbers, NumbersFault, out_of_range}
use Rattle.lan_wire.specs.Spells.{Items, Begins, Given}

-- the 64 bits are those of a number of 32 bits with a sign
abbrev pub is_int32 : ℕ → Bool
is_int32 n = nat_lt n (2 ^ 31) || not (nat_lt n (2 ^ 64 - 2 ^ 31))

-- bytes or a message that come once, or of which the last hold
abbrev pub IsPartKind : Kind → Type 0
IsPartKind Bytes = Unit {0}
IsPartKind Message = Unit {0}
IsPartKind OneOf = Unit {0}
IsPartKind _ = ⊥

-- the item is one of the kind
abbrev pub IsOfKind : Kind → Item → Type 0
IsOfKind Number item = IsOk (num_of item)
IsOfKind Small item = IsOk (small_of item)
IsOfKind Signed item = IsOk (signed_of item)
IsOfKind Flag item = IsOk (flag_of item)
IsOfKind Text item = IsOk (text_of item)
IsOfKind Bytes item = IsOk (placed_of item)
IsOfKind Message item = IsOk (placed_of item)
IsOfKind OneOf item = IsOk (placed_of item)
IsOfKind Messages item = IsOk (placed_of item)
IsOfKind Numbers item = (ns : List ℕ) × HasNumbers item.body ns
IsOfKind SignedNumbers item = (ns : List ℕ) × HasNumbers item.body ns × IsTrue (list_all is_int32 ns)
IsOfKind Past item = Unit {0}
IsOfKind Refused item = ⊥

-- the message doesn't take the item's number
abbrev pub not_taken : Item → WireFault
not_taken item = record { kind = NotTaken item.number; at = item.at }

-- the item comes where there is room for one only
abbrev pub twice : Item → WireFault
twice item = record { kind = Twice item.number; at = item.at }

-- the item is none of the kind, and why
abbrev pub HasFault : Kind → Item → WireFault → Type 0
HasFault Number item fault = num_of item ≡ Err fault
HasFault Small item fault = small_of item ≡ Err fault
HasFault Signed item fault = signed_of item ≡ Err fault
HasFault Flag item fault = flag_of item ≡ Err fault
HasFault Text item fault = text_of item ≡ Err fault
HasFault Bytes item fault = placed_of item ≡ Err fault
HasFault Message item fault = placed_of item ≡ Err fault
HasFault OneOf item fault = placed_of item ≡ Err fault
HasFault Messages item fault = placed_of item ≡ Err fault
HasFault Numbers item fault = NumbersFault item (Wire fault)
HasFault SignedNumbers item fault = NumbersFault item (Wire fault) ⊎ ((ns : List ℕ) × HasNumbers item.body ns × (list_all is_int32 ns ≡ false) × (fault ≡ out_of_range item))
HasFault Past item fault = ⊥
HasFault Refused item fault = fault ≡ not_taken item

abbrev pub is_one_of : Kind → Bool
is_one_of OneOf = true
is_one_of _ = false

-- whether an item of the first number leaves no room for one of the second, which has this kind
abbrev pub clashes_as : Kind → Rules → ℕ → ℕ → Bool
clashes_as Message rules first second = nat_eq first second
clashes_as OneOf rules first second = is_one_of (kind_at rules first)
clashes_as _ rules first second = false

abbrev pub clashes : Rules → ℕ → ℕ → Bool
clashes rules first second = clashes_as (kind_at rules second) rules first second

-- whether these items leave no room for one of the number
abbrev pub is_taken : Rules → List Item → ℕ → Bool
is_taken rules before number = list_any (λ item. clashes rules item.number number) before

-- the item may come behind these
pub record MayFollow (rules : Rules) (before : List Item) (item : Item) : Type 0 where
  pub read : IsOfKind (kind_at rules item.number) item
  pub room : is_taken rules before item.number ≡ false

-- the item may not come behind these, and why: it is none of its kind, or comes a second time
abbrev pub MayNotFollow : Rules → List Item → Item → WireFault → Type 0
MayNotFollow rules before item fault =
    HasFault (kind_at rules item.number) item fault
    ⊎ (IsOfKind (kind_at rules item.number) item × (is_taken rules before item.number ≡ true) × (fault ≡ twice item))

-- each of these items may follow those before it
abbrev pub Obey : Rules → List Item → List Item → Type 0
Obey rules before [] = Unit {0}
Obey rules before (item ∷ items) = MayFollow rules before item × Obey rules (before ++ item ∷ []) items

-- the bytes are these items, and keep to the rules
pub record ReadsItems (rules : Rules) (message : Placed) (items : List Item) : Type 0 where
  pub spelled : Items message.base message.bytes items
  pub obeyed : Obey rules [] items

-- items that keep to a rules
pub record SaidItems : Type 0 where
  pub rules : Rules
  pub items : List Item

-- where the message can't be read: some items keep to the rules, and then stands a fault, or an item that may not follow
pub record FailsToRead (rules : Rules) (message : Placed) (fault : WireFault) : Type 0 where
  pub before : List Item
  pub left : Placed
  pub given : Given message before left
  pub obeyed : Obey rules [] before
  pub breaks : (BreaksItem fault.kind left.bytes × (fault.at ≡ left.base)) ⊎ ((item : Item) × (after : Placed) × Begins left item after × MayNotFollow rules before item fault)

-- the bytes are items that keep to the rules, and by its reading of them they say this
pub record ReadsAs {M : Type 0} (rules : Rules) (Reading : List Item → M → Type 0) (message : Placed) (m : M) : Type 0 where
  pub items : List Item
  pub reads : ReadsItems rules message items
  pub said : Reading items m

-- a message whose items say one value
abbrev pub ReadsValue : {M : Type 0} → Rules → (List Item → M) → Placed → M → Type 0
ReadsValue rules value message m = ReadsAs rules (λ items n. n ≡ value items) message m

-- where the message can't be read, or there is no memory for what it says
abbrev pub FailsOrMemory : Rules → Placed → NumsFault → Type 0
FailsOrMemory rules message (Wire fault) = FailsToRead rules message fault
FailsOrMemory rules message Memory = Unit {0}

-- where the message can't be read, for which `wire` is the error
abbrev pub FailsPlainly : {E : Type 0} → (WireFault → E) → Rules → Placed → E → Type 0
FailsPlainly wire rules message error = (fault : WireFault) × FailsToRead rules message fault × (error ≡ wire fault)

-- where the message can't be read, or it can, and its items lack something
abbrev pub FailsOr : {E : Type 0} → (WireFault → E) → Rules → (List Item → E → Type 0) → Placed → E → Type 0
FailsOr wire rules Lack message error = FailsPlainly wire rules message error ⊎ ReadsAs rules Lack message error

-- these messages say these values, one each
abbrev pub ReadEach : {M : Type 0} → (Placed → M → Type 0) → List Placed → List M → Type 0
ReadEach Say [] values = values ≡ []
ReadEach Say (part ∷ parts) values = (first : _) × (rest : _) × (values ≡ first ∷ rest) × Say part first × ReadEach Say parts rest

-- one of these messages fails
abbrev pub FailsInOne : {F : Type 0} → (Placed → F → Type 0) → List Placed → F → Type 0
FailsInOne Fail [] fault = ⊥
FailsInOne Fail (part ∷ parts) fault = Fail part fault ⊎ FailsInOne Fail parts fault
