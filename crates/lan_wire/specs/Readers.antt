-- What an item's body stands for, by the type that its field has.
use Rattle.std.specs.Prelude.{◌≡◌, ℕ, ◌-◌, ◌^◌, ◌<◌, Bool, List, [], ◌∷◌, ◌++◌, cond, nat_lt, nat_eq, not, ℤ, pos, negsuc, Result, Ok, Err}
use Rattle.std.specs.Str.{is_utf8}
use Rattle.lan_bytes.specs.Placed.{Placed}
use Rattle.lan_wire.specs.declared.item.WireKind.{WireKind}
use Rattle.lan_wire.specs.declared.item.WireKind.TheVariants.{WrongType, Range, NotText}
use Rattle.lan_wire.specs.declared.item.WireFault.{WireFault}
use Rattle.lan_wire.specs.declared.item.NumsFault.{NumsFault}
use Rattle.lan_wire.specs.declared.item.NumsFault.TheVariants.{Wire, Memory}
use Rattle.lan_wire.specs.declared.item.Body.{Body}
use Rattle.lan_wire.specs.declared.item.Body.TheVariants.{Num, Eight, Four, Part}
use Rattle.lan_wire.specs.declared.item.Item.{Item}
use Rattle.lan_wire.specs.Spells.{IsVarint}
use Rattle.lan_wire.specs.Faults.{BreaksVarint}

-- the next step, where the first one read something
abbrev pub then_read : {A B : Type 0} → (A → Result B WireFault) → Result A WireFault → Result B WireFault
then_read f (Ok x) = f x
then_read f (Err e) = Err e

-- the item has another wire type than its field
abbrev pub wrong_type : Item → WireFault
wrong_type item = record { kind = WrongType item.number; at = item.at }

-- its number doesn't fit
abbrev pub out_of_range : Item → WireFault
out_of_range item = record { kind = Range item.number; at = item.at }

-- the number, or the fault that stands in for it
abbrev pub num_or : WireFault → Body → Result ℕ WireFault
num_or wrong (Num n) = Ok n
num_or wrong (Eight n) = Err wrong
num_or wrong (Four n) = Err wrong
num_or wrong (Part part) = Err wrong

-- the bytes, or the fault that stands in for them
abbrev pub part_or : WireFault → Body → Result Placed WireFault
part_or wrong (Num n) = Err wrong
part_or wrong (Eight n) = Err wrong
part_or wrong (Four n) = Err wrong
part_or wrong (Part part) = Ok part

-- a number of 64 bits
abbrev pub num_of : Item → Result ℕ WireFault
num_of item = num_or (wrong_type item) item.body

-- a number of 32 bits
abbrev pub small_of : Item → Result ℕ WireFault
small_of item = then_read (λ n. cond (nat_lt n (2 ^ 32)) (Ok n) (Err (out_of_range item))) (num_of item)

-- a signed number of 32 bits: one below 2^31, or the 64 bits of a negative one's two's complement
abbrev pub signed_of : Item → Result ℤ WireFault
signed_of item = then_read (λ n. cond (nat_lt n (2 ^ 31)) (Ok (pos n)) (cond (nat_lt n (2 ^ 64 - 2 ^ 31)) (Err (out_of_range item)) (Ok (negsuc (2 ^ 64 - 1 - n))))) (num_of item)

-- true where the number isn't 0
abbrev pub flag_of : Item → Result Bool WireFault
flag_of item = then_read (λ n. Ok (not (nat_eq n 0))) (num_of item)

-- bytes, or a message
abbrev pub placed_of : Item → Result Placed WireFault
placed_of item = part_or (wrong_type item) item.body

-- the bytes of a text
abbrev pub text_of : Item → Result (List ℕ) WireFault
text_of item = then_read (λ part. cond (is_utf8 part.bytes) (Ok part.bytes) (Err (record { kind = NotText item.number; at = item.at }))) (placed_of item)

-- a text that is lent is the bytes that reading gives
abbrev pub GivesText : {S : Type 0} → (S → List ℕ) → Result S WireFault → Result (List ℕ) WireFault → Type 0
GivesText view (Ok text) read = read ≡ Ok (view text)
GivesText view (Err e) read = read ≡ Err e

-- the bytes are varints of these numbers, one after the other and in this order
abbrev pub AreNumbers : List ℕ → List ℕ → Type 0
AreNumbers bytes [] = bytes ≡ []
AreNumbers bytes (n ∷ ns) = (front : List ℕ) × (rest : List ℕ) × (bytes ≡ front ++ rest) × IsVarint front n × AreNumbers rest ns

-- one number, or all of a packed part
abbrev pub HasNumbers : Body → List ℕ → Type 0
HasNumbers (Num n) ns = ns ≡ n ∷ []
HasNumbers (Eight n) ns = ⊥
HasNumbers (Four n) ns = ⊥
HasNumbers (Part part) ns = AreNumbers part.bytes ns

-- varints, and then one that can't be read
abbrev pub BreaksOff : WireKind → List ℕ → Type 0
BreaksOff kind bytes = (front : List ℕ) × (rest : List ℕ) × (ns : List ℕ) × (bytes ≡ front ++ rest) × AreNumbers front ns × BreaksVarint kind rest

-- why a body has no numbers
abbrev pub LacksNumbers : Item → WireKind → Body → Type 0
LacksNumbers item kind (Num n) = ⊥
LacksNumbers item kind (Eight n) = kind ≡ WrongType item.number
LacksNumbers item kind (Four n) = kind ≡ WrongType item.number
LacksNumbers item kind (Part part) = BreaksOff kind part.bytes

-- a fault in an item's numbers, at the place of its key
abbrev pub NumbersFault : Item → NumsFault → Type 0
NumbersFault item (Wire fault) = (fault.at ≡ item.at) × LacksNumbers item fault.kind item.body
NumbersFault item Memory = Unit {0}

-- a fault in the numbers of a part, whose key lies at a place
abbrev pub PackedFault : ℕ → List ℕ → NumsFault → Type 0
PackedFault at bytes (Wire fault) = (fault.at ≡ at) × BreaksOff fault.kind bytes
PackedFault at bytes Memory = Unit {0}

-- a number of 32 bits with a sign
abbrev pub IsInt32 : ℤ → Type 0
IsInt32 (pos n) = n < 2 ^ 31
IsInt32 (negsuc n) = n < 2 ^ 31
