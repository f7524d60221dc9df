-- What bytes of a message say: one item after the other.
use Rattle.std.specs.Prelude.{◌≡◌, ℕ, ◌+◌, ◌*◌, ◌^◌, ◌<◌, ◌≤◌, List, [], ◌∷◌, ◌++◌, length}
use Rattle.std.specs.Int.{w32, w64, from_le_bytes}
use Rattle.lan_bytes.specs.Placed.{Placed}
use Rattle.lan_wire.specs.Spelling.{varint, key as key_of}
use Rattle.lan_wire.specs.declared.item.Body.{Body}
use Rattle.lan_wire.specs.declared.item.Body.TheVariants.{Num, Eight, Four, Part}
use Rattle.lan_wire.specs.declared.item.Item.{Item}

-- seven bits of a number in a byte, the lowest first; all bytes but the last have the high bit
abbrev pub IsGroups : List ℕ → ℕ → Type 0
IsGroups [] n = ⊥
IsGroups (b ∷ []) n = (b < 128) × (n ≡ b)
IsGroups (b ∷ c ∷ bs) n = (128 ≤ b) × (b < 256) × ((high : ℕ) × (n + 128 ≡ b + 128 * high) × IsGroups (c ∷ bs) high)

-- at most ten bytes and 64 bits; groups of zeros that aren't needed may stand at the end
pub record IsVarint (bytes : List ℕ) (n : ℕ) : Type 0 where
  pub groups : IsGroups bytes n
  pub short : length bytes ≤ 10
  pub fits : n < 2 ^ 64

-- the wire type that a key gives
abbrev pub wire_of : Body → ℕ
wire_of (Num _) = 0
wire_of (Eight _) = 1
wire_of (Part _) = 2
wire_of (Four _) = 5

-- the bytes are a body, whose first byte lies at a place
abbrev pub SpellsBody : ℕ → List ℕ → Body → Type 0
SpellsBody at bytes (Num n) = IsVarint bytes n
SpellsBody at bytes (Eight n) = (length bytes ≡ 8) × (n ≡ from_le_bytes w64 bytes)
SpellsBody at bytes (Part part) = (len : List ℕ) × IsVarint len (length part.bytes) × (part.base ≡ at + length len) × (bytes ≡ len ++ part.bytes)
SpellsBody at bytes (Four n) = (length bytes ≡ 4) × (n ≡ from_le_bytes w32 bytes)

-- the bytes are a key of the field's number and the wire type, and the body
pub record Spells (bytes : List ℕ) (item : Item) : Type 0 where
  pub key : List ℕ
  pub body : List ℕ
  pub parts : bytes ≡ key ++ body
  pub is_key : IsVarint key (item.number * 8 + wire_of item.body)
  pub is_body : SpellsBody (item.at + length key) body item.body
  pub least : 0 < item.number
  pub greatest : item.number < 2 ^ 29

-- the bytes are spellings of these items one after the other, the first at a place
abbrev pub Items : ℕ → List ℕ → List Item → Type 0
Items at bytes [] = bytes ≡ []
Items at bytes (item ∷ items) = (front : List ℕ) × (rest : List ℕ) × (bytes ≡ front ++ rest) × Spells front item × (item.at ≡ at) × Items (at + length front) rest items

-- an item of a number
abbrev pub numbered : ℕ → ℕ → ℕ → Item
numbered at number value = record { number = number; at = at; body = Num value }

-- an item of bytes, behind a key and a length without needless bytes
abbrev pub part_placed : ℕ → ℕ → List ℕ → Item
part_placed at number bytes = record { number = number; at = at; body = Part (record { base = at + length (key_of number 2) + length (varint (length bytes)); bytes = bytes }) }

-- what follows the item that stands at the front
pub record Begins (before : Placed) (item : Item) (after : Placed) : Type 0 where
  pub front : List ℕ
  pub parts : before.bytes ≡ front ++ after.bytes
  pub spelled : Spells front item
  pub place : item.at ≡ before.base
  pub next : after.base ≡ before.base + length front

-- these items were given of a whole message, and this is left of it
pub record Given (whole : Placed) (given : List Item) (left : Placed) : Type 0 where
  pub front : List ℕ
  pub parts : whole.bytes ≡ front ++ left.bytes
  pub items : Items whole.base front given
  pub place : left.base ≡ whole.base + length front
