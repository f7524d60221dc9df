-- Where no item can be read at the front of bytes, and why.
use Rattle.std.specs.Prelude.{◌≡◌, ◌≢◌, ◌⊎◌, ℕ, ◌/◌, ◌%◌, ◌<◌, ◌≤◌, List, [], ◌∷◌, ◌++◌, length}
use Rattle.lan_wire.specs.declared.item.WireKind.{WireKind}
use Rattle.lan_wire.specs.declared.item.WireKind.TheVariants.{Cut, TooLong, BadType, BadNumber}
use Rattle.lan_wire.specs.declared.item.Body.{Body}
use Rattle.lan_wire.specs.Spells.{IsVarint, SpellsBody, wire_of}

-- each byte says that more follows
abbrev pub NeverEnds : List ℕ → Type 0
NeverEnds [] = Unit {0}
NeverEnds (b ∷ bs) = (128 ≤ b) × NeverEnds bs

-- at most so many bytes, and none of them is a last one
abbrev pub IsCut : ℕ → List ℕ → Type 0
IsCut more bytes = NeverEnds bytes × (length bytes ≤ more)

-- so many bytes of which none is a last one, and then one above 1
abbrev pub IsLong : ℕ → List ℕ → Type 0
IsLong more bytes = (front : List ℕ) × (last : ℕ) × (rest : List ℕ) × (bytes ≡ front ++ last ∷ rest) × NeverEnds front × (length front ≡ more) × (1 < last)

-- a varint passes the end, where none of its bytes need be there
abbrev pub CutsVarint : List ℕ → Type 0
CutsVarint = IsCut 9

-- a varint has a tenth byte above 1
abbrev pub LongVarint : List ℕ → Type 0
LongVarint = IsLong 9

-- a varint begins at the front, and can't be read
abbrev pub BreaksVarint : WireKind → List ℕ → Type 0
BreaksVarint Cut bytes = (bytes ≢ []) × CutsVarint bytes
BreaksVarint TooLong bytes = LongVarint bytes
BreaksVarint _ bytes = ⊥

-- a number stands at the front
abbrev pub Leads : List ℕ → ℕ → List ℕ → Type 0
Leads bytes n rest = (front : List ℕ) × (bytes ≡ front ++ rest) × IsVarint front n

-- a length whose bytes pass the end
abbrev pub LacksPart : List ℕ → Type 0
LacksPart bytes = (len : ℕ) × (rest : List ℕ) × Leads bytes len rest × (length rest < len)

-- the body of a wire type passes the end
abbrev pub LacksBody : ℕ → List ℕ → Type 0
LacksBody wire bytes = ((wire ≡ 0) × CutsVarint bytes) ⊎ ((wire ≡ 1) × (length bytes < 8)) ⊎ ((wire ≡ 2) × (CutsVarint bytes ⊎ LacksPart bytes)) ⊎ ((wire ≡ 5) × (length bytes < 4))

-- a body of the wire type stands at the front
abbrev pub HasBody : ℕ → List ℕ → Type 0
HasBody wire bytes = (at : ℕ) × (body : Body) × (front : List ℕ) × (rest : List ℕ) × (bytes ≡ front ++ rest) × (wire ≡ wire_of body) × SpellsBody at front body

-- a fault of the body of a wire type stands at the front
abbrev pub BodyFault : ℕ → WireKind → List ℕ → Type 0
BodyFault wire Cut bytes = LacksBody wire bytes
BodyFault wire TooLong bytes = ((wire ≡ 0) ⊎ (wire ≡ 2)) × LongVarint bytes
BodyFault wire BadType bytes = (wire ≡ 3) ⊎ (wire ≡ 4) ⊎ (wire ≡ 6) ⊎ (wire ≡ 7)
BodyFault wire _ bytes = ⊥

-- a key is there, and the fault stands behind it
abbrev pub BehindKey : List ℕ → (ℕ → List ℕ → Type 0) → Type 0
BehindKey bytes Fault = (key : ℕ) × (rest : List ℕ) × Leads bytes key rest × Fault key rest

-- an item begins at the front of the bytes, and has this fault
abbrev pub BreaksItem : WireKind → List ℕ → Type 0
BreaksItem Cut bytes = BreaksVarint Cut bytes ⊎ BehindKey bytes (λ key rest. LacksBody (key % 8) rest)
BreaksItem TooLong bytes = BreaksVarint TooLong bytes ⊎ BehindKey bytes (λ key rest. ((key % 8 ≡ 0) ⊎ (key % 8 ≡ 2)) × LongVarint rest)
BreaksItem BadType bytes = BehindKey bytes (λ key rest. (key % 8 ≡ 3) ⊎ (key % 8 ≡ 4) ⊎ (key % 8 ≡ 6) ⊎ (key % 8 ≡ 7))
BreaksItem BadNumber bytes = BehindKey bytes (λ key rest. HasBody (key % 8) rest × ((key / 8 ≡ 0) ⊎ (536870911 < key / 8)))
BreaksItem _ bytes = ⊥
