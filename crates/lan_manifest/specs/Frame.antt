-- Where the message of a manifest lies in its object.
use Rattle.std.specs.Prelude.{◌≡◌, ℕ, ◌+◌, ◌-◌, ◌<◌, ◌≤◌, List, length, drop, codes}
use Rattle.std.specs.Int.{w32, w64}
use Rattle.lan_bytes.specs.Numbers.{number_at}
use Rattle.lan_bytes.specs.Placed.{Placed, part_of}
use Rattle.lan_manifest.specs.declared.fault.ManifestFault.{ManifestFault}
use Rattle.lan_manifest.specs.declared.fault.ManifestFault.TheVariants.{TooShort, Magic, Region}

-- the place of the message's length, in the last 16 bytes
abbrev pub place_in : List ℕ → ℕ
place_in bytes = number_at w64 bytes (length bytes - 16)

-- the length of the message
abbrev pub length_in : List ℕ → ℕ
length_in bytes = number_at w32 bytes (place_in bytes)

-- an object has a length of four bytes and 16 bytes at the end
abbrev pub IsLongEnough : List ℕ → Type 0
IsLongEnough bytes = 20 ≤ length bytes

abbrev pub EndsInMark : List ℕ → Type 0
EndsInMark bytes = drop (length bytes - 4) bytes ≡ codes "LANC"

-- the message with its length ends before the last 16 bytes
abbrev pub HasRegion : List ℕ → Type 0
HasRegion bytes = place_in bytes + 4 + length_in bytes ≤ length bytes - 16

-- the object holds this message; the bytes before it, between it and the end, and the format's version are not looked at
pub record IsFramed (object message : Placed) : Type 0 where
  pub long : IsLongEnough object.bytes
  pub mark : EndsInMark object.bytes
  pub region : HasRegion object.bytes
  pub is : message ≡ part_of object (place_in object.bytes + 4) (length_in object.bytes)

-- why the object holds no message; what stands above holds
abbrev pub FailsFrame : List ℕ → ManifestFault → Type 0
FailsFrame bytes TooShort = length bytes < 20
FailsFrame bytes Magic = IsLongEnough bytes × (EndsInMark bytes → ⊥)
FailsFrame bytes Region = IsLongEnough bytes × EndsInMark bytes × (HasRegion bytes → ⊥)
FailsFrame bytes fault = ⊥
